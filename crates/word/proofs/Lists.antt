-- Laws of a test of each of a list.
use Rattle.std.proofs.Common.{◌≡◌, Bool, true, false, List, [], ◌∷◌, ◌++◌, refl}
use mathlib.Core.Bool.{false≢true}
use Rattle.word.specs.Choice.{pick}
use Rattle.word.specs.Lists.{every}

-- a test, and then the rest
pub first_passes : (b c : Bool) → pick b c false ≡ true → b ≡ true
first_passes true c h = refl
first_passes false c h = absurd (false≢true h)

pub rest_passes : (b c : Bool) → pick b c false ≡ true → c ≡ true
rest_passes true c h = h
rest_passes false c h = absurd (false≢true h)

module _ {A : Type 0} (test : A → Bool) (a : A) (others : List A) (h : every test (a ∷ others) ≡ true) where
  pub every_first : test a ≡ true
  unfolding every
  every_first = first_passes (test a) (every test others) h

  pub every_others : every test others ≡ true
  unfolding every
  every_others = rest_passes (test a) (every test others) h

-- what passes a test passes a test that follows from it
pub every_as : {A : Type 0} (known test : A → Bool) → ((a : A) → known a ≡ true → test a ≡ true) → (all : List A) → every known all ≡ true → every test all ≡ true
unfolding every
every_as known test f [] h = refl
every_as known test f (a ∷ all) h = rw (f a (every_first known a all h)) (every_as known test f all (every_others known a all h))

-- a test that passes whatever it is asked
pub every_any : {A : Type 0} (all : List A) → every (λ a. true) all ≡ true
unfolding every
every_any [] = refl
every_any (a ∷ all) = every_any all

-- what each of a list passes, each before and each behind a place in it passes
module _ {A : Type 0} (test : A → Bool) where
  pub every_before : (p q : List A) → every test (p ++ q) ≡ true → every test p ≡ true
  unfolding every
  every_before [] q h = refl
  every_before (a ∷ p) q h = rw (every_first test a (p ++ q) h) (every_before p q (every_others test a (p ++ q) h))

  pub every_behind : (p q : List A) → every test (p ++ q) ≡ true → every test q ≡ true
  every_behind [] q h = h
  every_behind (a ∷ p) q h = every_behind p q (every_others test a (p ++ q) h)
