-- What holds of whatever readers give.
use Prim.{tt}
use Prim.Native.Nat.{ℕ, zero, suc}
use mathlib.Core.Path.{◌≡◌, refl, ap}
use mathlib.Core.Bool.{Bool, true}
use mathlib.Core.List.{List, [], ◌∷◌}
use lib.ListN.{length}
use Rattle.word.specs.Parse.{Parsed, fault, got, next, one, several}
use Rattle.word.specs.Lists.{every}
use Rattle.word.proofs.Truth.{by_test}
use Rattle.word.proofs.Parse.{Yields, yields_next}

-- behind a word that passes a test, and behind what is known
pub yields_word : {B : Type 0} (P : B → Type 0) (test : ℕ → Bool) (w : ℕ) (l : List ℕ) (k : ℕ → List ℕ → Parsed B) → (test w ≡ true → Yields P (k w l))
    → Yields P (next (one test (w ∷ l)) k)
yields_word P test w l k y = by_test (test w) (λ t. rw t (y t)) (λ f. rw f tt)

pub yields_known : {A B : Type 0} (Q : A → Type 0) (P : B → Type 0) (p : Parsed A) (k : A → List ℕ → Parsed B) → Yields Q p
    → ((a : A) (rest : List ℕ) → Q a → Yields P (k a rest)) → Yields P (next p k)
yields_known Q P fault k y h = tt
yields_known Q P (got a rest) k y h = h a rest y

pub yields_as : {A : Type 0} (P Q : A → Type 0) (p : Parsed A) → ((a : A) → P a → Q a) → Yields P p → Yields Q p
yields_as P Q fault f y = tt
yields_as P Q (got a rest) f y = f a y

pub yields_both : {A : Type 0} (P Q : A → Type 0) (p : Parsed A) → Yields P p → Yields Q p → Yields (λ a. P a × Q a) p
yields_both P Q fault y z = tt
yields_both P Q (got a rest) y z = (y, z)

-- a word that was read passed the test, and records that were read each passed theirs
pub one_yields : (test : ℕ → Bool) (ws : List ℕ) → Yields (λ w. test w ≡ true) (one test ws)
one_yields test [] = tt
one_yields test (w ∷ ws) = by_test (test w) (λ t. rw t t) (λ f. rw f tt)

pub several_yields : {A : Type 0} (test : A → Bool) (read : List ℕ → Parsed A) → ((ws : List ℕ) → Yields (λ a. test a ≡ true) (read ws))
    → (n : ℕ) (ws : List ℕ) → Yields (λ all. every test all ≡ true) (several n read ws)
unfolding several every
several_yields test read h zero ws = refl
several_yields test read h (suc n) ws =
    yields_known (λ a. test a ≡ true) (λ all. every test all ≡ true) (read ws) _ (h ws) λ a rest t.
    yields_known (λ all. every test all ≡ true) (λ all. every test all ≡ true) (several n read rest) _ (several_yields test read h n rest) λ others rest k. rw (t, k)

-- as many as were asked for
pub all_read : {A : Type 0} (n : ℕ) (read : List ℕ → Parsed A) (l : List ℕ) → Yields (λ xs. length xs ≡ n) (several n read l)
unfolding several
all_read zero read l = refl
all_read (suc n) read l =
    yields_next (λ xs. length xs ≡ suc n) (read l) _ λ a rest.
    yields_known (λ xs. length xs ≡ n) (λ xs. length xs ≡ suc n) (several n read rest) _ (all_read n read rest) λ others rest e. ap suc e
