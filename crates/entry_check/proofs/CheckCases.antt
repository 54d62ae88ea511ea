-- Cases by a test, and what a reader leaves of a case.
use Prim.{tt}
use Rattle.std.proofs.Common.{◌≡◌, ℕ, ◌<◌, ◌≤◌, Bool, true, false, eqb, ltb, List, ◌∷◌, sym, refl, ◌∙◌, ltb-false, ltb-true, eqb-true}
use borrow.Author.Tests.{eqb-false}
use Rattle.word.specs.Choice.{pick}
use Rattle.word.specs.Parse.{Parsed, fault, got, next, nowhere, from, behind}
use Rattle.word.proofs.Parse.{Yields}

pub by_test : (t : Bool) (P : Bool → Type 0) → (t ≡ true → P true) → (t ≡ false → P false) → P t
by_test true P f g = f refl
by_test false P f g = g refl

pub decided : (x y : ℕ) (P : Bool → Type 0) → (x ≡ y → P true) → ((x ≡ y → ⊥) → P false) → P (eqb x y)
decided x y P f g = by_test (eqb x y) P (λ e. f (eqb-true x y e)) (λ e. g (eqb-false x y e))

pub split_at : (m i : ℕ) (P : Type 0) → (m ≤ i → P) → (i < m → P) → P
split_at m i P f g = by_test (ltb i m) (λ t. P) (λ e. g (ltb-true i m e)) (λ e. f (ltb-false i m e))

-- a reader that ends in a test
pub test_behind : {A : Type 0} (t : Bool) (a : A) (rest : List ℕ) → behind (pick t (got a rest) fault) ≡ pick t (from rest) nowhere
test_behind true a rest = refl
test_behind false a rest = refl

pub same_behind : {A B : Type 0} (t : Bool) (a : A) (b : B) (l : List ℕ) → behind (pick t (got a l) fault) ≡ behind (pick t (got b l) fault)
same_behind t a b l = test_behind t a l ∙ sym (test_behind t b l)

pub cons_behind : {A : Type 0} (a : A) (p : Parsed (List A)) → behind (next p λ others rest. got (a ∷ others) rest) ≡ behind p
cons_behind a fault = refl
cons_behind a (got others rest) = refl

-- what holds of one record more
pub yields_cons : {A : Type 0} (a : A) (ys : List A) (p : Parsed (List A)) → Yields (λ xs. xs ≡ ys) p
    → Yields (λ xs. xs ≡ a ∷ ys) (next p λ others rest. got (a ∷ others) rest)
yields_cons a ys fault y = tt
yields_cons a ys (got xs rest) y = rw y
