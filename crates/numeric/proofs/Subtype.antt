-- The subtype fact, for types of any width, and what each reason says.
use Prim.Native.Nat.{◌<◌, ◌≤◌, ℕ}
use native.Mathlib.Omega.{arith}
use mathlib.Core.Path.{◌≡◌, refl, sym, ap, ◌∙◌}
use mathlib.Core.Bool.{Bool, true, false}
use mathlib.Core.Logic.{◌↔◌}
use lib.Dec.{eqb, ltb}
use borrow.Author.Tests.{eqb-true, eqb-false, ltb-true, ltb-false, eq-eqb, ne_eqb, le-leb, lt-ltb, le-ltb}
use Rattle.std.specs.Prelude.{⊤, Result, Ok, Err, is_ok}
use Rattle.word.specs.Choice.{pick}
use Rattle.numeric.specs.Types.{kind_code, size_code, shape_fits, subtype_of, fits}
use Rattle.numeric.specs.TypeWords.{kind_at}
use Rattle.numeric.specs.declared.types.ScalarKind.{ScalarKind}
use Rattle.numeric.specs.declared.types.NumericDimension.{NumericDimension}
use Rattle.numeric.specs.declared.types.NumericDimension.TheVariants as D
use Rattle.numeric.specs.declared.types.NumericType.{NumericType}
use Rattle.numeric.specs.declared.types.Misfit.{Misfit}
use Rattle.numeric.specs.declared.types.Misfit.TheVariants.{TooWide, OtherKind, OtherShape}
use Rattle.numeric.proofs.Joined.{kind_again}

-- what an answer of the rule says of two types
abbrev pub Says : Result ⊤ Misfit → NumericType → NumericType → Type 0
Says (Ok u) a b = (a.scalar.width ≤ b.scalar.width) × (a.scalar.kind ≡ b.scalar.kind) × (shape_fits a.dim b.dim ≡ true)
Says (Err TooWide) a b = b.scalar.width < a.scalar.width
Says (Err OtherKind) a b = (a.scalar.width ≤ b.scalar.width) × (a.scalar.kind ≡ b.scalar.kind → ⊥)
Says (Err OtherShape) a b = (a.scalar.width ≤ b.scalar.width) × (a.scalar.kind ≡ b.scalar.kind) × (shape_fits a.dim b.dim ≡ false)

same_kind : (k l : ScalarKind) → kind_code k ≡ kind_code l → k ≡ l
same_kind k l e = sym (kind_again k) ∙ (ap kind_at e ∙ kind_again l)

module _ (a b : NumericType) where
  said : (r : Result ⊤ Misfit) → Says r a b → subtype_of a b ≡ r
  unfolding subtype_of
  said (Ok u) (w, k, s) = rw (le-ltb b.scalar.width a.scalar.width w, eq-eqb (kind_code a.scalar.kind) (kind_code b.scalar.kind) (ap kind_code k), s)
  said (Err TooWide) w = rw (lt-ltb b.scalar.width a.scalar.width w)
  said (Err OtherKind) (w, n) =
      rw (le-ltb b.scalar.width a.scalar.width w, ne_eqb (kind_code a.scalar.kind) (kind_code b.scalar.kind) (λ e. n (same_kind _ _ e)))
  said (Err OtherShape) (w, k, s) = rw (le-ltb b.scalar.width a.scalar.width w, eq-eqb (kind_code a.scalar.kind) (kind_code b.scalar.kind) (ap kind_code k), s)

  true_of : Says (subtype_of a b) a b
  unfolding subtype_of
  true_of = by_tests _ _ _ refl refl refl
    where
      by_tests : (w k s : Bool) → ltb b.scalar.width a.scalar.width ≡ w → eqb (kind_code a.scalar.kind) (kind_code b.scalar.kind) ≡ k
          → shape_fits a.dim b.dim ≡ s → Says (pick w (Err TooWide) (pick k (pick s (Ok tt) (Err OtherShape)) (Err OtherKind))) a b
      by_tests true k s x y z = ltb-true _ _ x
      by_tests false false s x y z = (ltb-false _ _ x, λ e. eqb-false _ _ y (ap kind_code e))
      by_tests false true true x y z = (ltb-false _ _ x, same_kind _ _ (eqb-true _ _ y), z)
      by_tests false true false x y z = (ltb-false _ _ x, same_kind _ _ (eqb-true _ _ y), z)

  -- the rule gives a reason exactly where that reason holds
  pub subtype_reason : (r : Result ⊤ Misfit) → (subtype_of a b ≡ r) ↔ Says r a b
  subtype_reason r = (λ e. rw e at true_of, said r)

  -- a type fits exactly where it is no wider, of the same scalar kind, and its shape is below the other's
  pub subtype_fact : (subtype_of a b ≡ Ok tt)
      ↔ ((a.scalar.width ≤ b.scalar.width) × (a.scalar.kind ≡ b.scalar.kind) × (shape_fits a.dim b.dim ≡ true))
  subtype_fact = subtype_reason (Ok tt)

-- a type fits itself
shape_itself : (d : NumericDimension) → shape_fits d d ≡ true
unfolding shape_fits
shape_itself D.Scalar = refl
shape_itself (D.Vector n) = le-leb (size_code n) (size_code n) (omega arith)
shape_itself (D.Matrix c r) = rw (eq-eqb (size_code c) (size_code c) refl, eq-eqb (size_code r) (size_code r) refl)

pub fits_itself : (a : NumericType) → fits a a ≡ true
fits_itself a = ap is_ok (said a a (Ok tt) (omega arith, refl, shape_itself a.dim))

-- no wider, of one kind by its number, and with a shape that fits: the type fits
module _ (a b : NumericType) (x y : ℕ) (h : a.scalar.width ≤ b.scalar.width) (p : x ≡ kind_code a.scalar.kind) (q : y ≡ kind_code b.scalar.kind) where
  pub shape_fits_lem : (s : Bool) → x ≡ y → s ≡ shape_fits a.dim b.dim → s ≡ true → Ok tt ≡ subtype_of a b
  unfolding subtype_of
  shape_fits_lem s e f t = rw (le-ltb b.scalar.width a.scalar.width h, ← p, ← q, eq-eqb x y e, ← f, t)
