-- The reader and the writer of type words, joined.
use Prim.Native.Nat.{ℕ, ◌+◌, ◌*◌, ◌/◌, ◌^◌, ◌<◌, ◌≤◌}
use native.Mathlib.Omega.{arith}
use mathlib.Core.Path.{◌≡◌, refl, ◌∙◌}
use mathlib.Core.Bool.{Bool, true, false, ◌&&◌, ◌||◌}
use lib.Dec.{eqb, ltb}
use borrow.Author.Tests.{lt-ltb, eqb-true, ltb-true}
use Rattle.word.specs.Choice.{pick}
use Rattle.word.specs.Words.{kind_of, bits}
use Rattle.word.proofs.Truth.{first, second, either, codes_back}
use Rattle.numeric.specs.Types.{numeric, size_code, kind_code}
use Rattle.numeric.specs.TypeWords.{kind_at, shape_at, width_known, type_well_formed, type_of, read_type, shape_code, type_word}
use Rattle.numeric.specs.declared.types.ScalarKind.{ScalarKind}
use Rattle.numeric.specs.declared.types.ScalarKind.TheVariants as K
use Rattle.numeric.specs.declared.types.VectorSize.{VectorSize}
use Rattle.numeric.specs.declared.types.VectorSize.TheVariants.{Bi, Tri, Quad}
use Rattle.numeric.specs.declared.types.NumericDimension.{NumericDimension}
use Rattle.numeric.specs.declared.types.NumericDimension.TheVariants as D
use Rattle.numeric.specs.declared.types.NumericType.{NumericType}
use Rattle.std.specs.Prelude.{Some, None}

-- ---- codes of kinds and shapes, there and back

pub kind_back : (code : ℕ) → code < 4 → kind_code (kind_at code) ≡ code
kind_back = codes_back 4 (λ c. kind_code (kind_at c)) refl

pub shape_back : (code : ℕ) → code < 13 → shape_code (shape_at code) ≡ code
shape_back = codes_back 13 (λ c. shape_code (shape_at c)) refl

pub kind_again : (k : ScalarKind) → kind_at (kind_code k) ≡ k
kind_again K.Sint = refl
kind_again K.Uint = refl
kind_again K.Float = refl
kind_again K.Bool = refl

pub shape_again : (d : NumericDimension) → shape_at (shape_code d) ≡ d
shape_again D.Scalar = refl
shape_again (D.Vector Bi) = refl
shape_again (D.Vector Tri) = refl
shape_again (D.Vector Quad) = refl
shape_again (D.Matrix Bi Bi) = refl
shape_again (D.Matrix Bi Tri) = refl
shape_again (D.Matrix Bi Quad) = refl
shape_again (D.Matrix Tri Bi) = refl
shape_again (D.Matrix Tri Tri) = refl
shape_again (D.Matrix Tri Quad) = refl
shape_again (D.Matrix Quad Bi) = refl
shape_again (D.Matrix Quad Tri) = refl
shape_again (D.Matrix Quad Quad) = refl

-- ---- how large they are

size_range : (n : VectorSize) → (2 ≤ size_code n) × (size_code n ≤ 4)
size_range Bi = omega arith
size_range Tri = omega arith
size_range Quad = omega arith

pub kind_below : (k : ScalarKind) → kind_code k < 4
kind_below K.Sint = omega arith
kind_below K.Uint = omega arith
kind_below K.Float = omega arith
kind_below K.Bool = omega arith

pub shape_below : (d : NumericDimension) → shape_code d < 13
shape_below D.Scalar = omega arith
shape_below (D.Vector n) = omega (arith, size_range n)
shape_below (D.Matrix c r) = omega (arith, size_range c, size_range r)

pub width_below : (n : ℕ) → width_known n ≡ true → n < 16
width_below n =
    either (eqb n 1) (eqb n 2 || (eqb n 4 || eqb n 8)) (n < 16) (λ e. omega (arith, eqb-true n 1 e))
    (either (eqb n 2) (eqb n 4 || eqb n 8) (n < 16) (λ e. omega (arith, eqb-true n 2 e))
    (either (eqb n 4) (eqb n 8) (n < 16) (λ e. omega (arith, eqb-true n 4 e)) (λ e. omega (arith, eqb-true n 8 e))))

-- ---- type words, there and back

-- the fields of a word, and the type that it reads as
reads_as : (w d k n : ℕ) → kind_of w ≡ 13 → bits 26 10 w ≡ 0 → bits 3 0 w ≡ d → bits 5 4 w ≡ k → bits 9 6 w ≡ n → d < 13 → width_known n ≡ true
    → read_type w ≡ Some (numeric (shape_at d) (kind_at k) n)
unfolding read_type type_well_formed type_of
reads_as w d k n e z p q r h g = rw (e, z, p, q, r, lt-ltb d 13 h, g)

-- a type that is written is read back
pub read_written : (t : NumericType) → width_known t.scalar.width ≡ true → read_type (type_word t) ≡ Some t
unfolding type_word
read_written t h =
    let d : shape_code t.dim < 13 = shape_below t.dim in
    let k : kind_code t.scalar.kind < 4 = kind_below t.scalar.kind in
    let n : t.scalar.width < 16 = width_below t.scalar.width h in
    reads_as (type_word t) (shape_code t.dim) (kind_code t.scalar.kind) t.scalar.width
    (omega arith) (omega arith) (omega arith) (omega arith) (omega arith) d h
    ∙ rw (shape_again t.dim, kind_again t.scalar.kind)

word_of : (w : ℕ) → kind_of w ≡ 13 → bits 26 10 w ≡ 0 → bits 3 0 w < 13 → type_word (type_of w) ≡ w
unfolding type_word type_of
word_of w e z h =
    let a : w / 2 ^ 4 / 4 ≡ w / 2 ^ 6 = omega arith in
    let b : w / 2 ^ 6 / 16 ≡ w / 2 ^ 10 = omega arith in
    let c : w / 2 ^ 10 / 2 ^ 17 ≡ w / 2 ^ 27 = omega arith in
    let s : 2 ^ 27 * 13 + (bits 3 0 w + 16 * bits 5 4 w + 64 * bits 9 6 w) ≡ w = omega arith in
    rw (shape_back (bits 3 0 w) h, kind_back (bits 5 4 w) (omega arith)) s

well_formed : (w : ℕ) → eqb (kind_of w) 13 && (eqb (bits 26 10 w) 0 && type_well_formed w) ≡ true → type_word (type_of w) ≡ w
unfolding type_well_formed
well_formed w h =
    let more : eqb (bits 26 10 w) 0 && type_well_formed w ≡ true = second (eqb (kind_of w) 13) _ h in
    let well_formed : type_well_formed w ≡ true = second (eqb (bits 26 10 w) 0) (type_well_formed w) more in
    word_of w (eqb-true (kind_of w) 13 (first (eqb (kind_of w) 13) _ h)) (eqb-true (bits 26 10 w) 0 (first (eqb (bits 26 10 w) 0) (type_well_formed w) more))
    (ltb-true (bits 3 0 w) 13 (first (ltb (bits 3 0 w) 13) (width_known (bits 9 6 w)) well_formed))

-- a word that is read as a type is the word written for it
pub written_read : (w : ℕ) (t : NumericType) → read_type w ≡ Some t → type_word t ≡ w
unfolding read_type
written_read w t e = go (eqb (kind_of w) 13 && (eqb (bits 26 10 w) 0 && type_well_formed w)) refl e
  where
    go : (b : Bool) → eqb (kind_of w) 13 && (eqb (bits 26 10 w) 0 && type_well_formed w) ≡ b → pick b (Some (type_of w)) None ≡ Some t → type_word t ≡ w
    go true q r = cc (well_formed w q)
    go false q r = cc
