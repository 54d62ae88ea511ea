-- Truth values of tests, and a test computed at every number below a bound.
use Rattle.std.proofs.Common.{◌≡◌, ℕ, zero, suc, ◌<◌, Bool, true, false, ◌&&◌, ◌||◌, eqb, refl, arith, eqb-true}
use mathlib.Core.Bool.{false≢true}
use borrow.Author.Tests.{eqb-false}

pub first : (a b : Bool) → a && b ≡ true → a ≡ true
first true b h = refl
first false b h = h

pub second : (a b : Bool) → a && b ≡ true → b ≡ true
second true b h = h
second false b h = absurd (false≢true h)

pub either : (a b : Bool) (P : Type 0) → (a ≡ true → P) → (b ≡ true → P) → a || b ≡ true → P
either true b P f g h = f refl
either false b P f g h = g h

pub by_test : {P : Type 0} (b : Bool) → (b ≡ true → P) → (b ≡ false → P) → P
by_test true t f = t refl
by_test false t f = f refl

pub never : {P : Type 0} (b : Bool) → b ≡ true → b ≡ false → P
never true t f = absurd (false≢true (rw f))
never false t f = absurd (false≢true t)

-- a test computed at every number below a bound
abbrev pub all_below : ℕ → (ℕ → Bool) → Bool
all_below zero test = true
all_below (suc n) test = test n && all_below n test

pub below_all : (n : ℕ) (test : ℕ → Bool) → all_below n test ≡ true → (c : ℕ) → c < n → test c ≡ true
below_all zero test h c k = absurd (omega arith)
below_all (suc n) test h c k =
    by_test (eqb c n) (λ t. rw (eqb-true c n t) (first (test n) (all_below n test) h))
    (λ f. let d : c ≡ n → ⊥ = eqb-false c n f in below_all n test (second (test n) (all_below n test) h) c (omega arith))

-- so a code below a bound comes back from what it stands for
pub codes_back : (n : ℕ) (code : ℕ → ℕ) → all_below n (λ c. eqb (code c) c) ≡ true → (c : ℕ) → c < n → code c ≡ c
codes_back n code h c k = eqb-true (code c) c (below_all n (λ c. eqb (code c) c) h c k)
