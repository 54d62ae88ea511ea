-- Type words (document 01, 'Varying' and 'A lone type').
use Rattle.std.specs.Prelude.{ℕ, ◌+◌, ◌-◌, ◌*◌, ◌/◌, ◌%◌, Bool, ◌&&◌, ◌||◌, eqb, ltb, ⊤, Option, Some, None, Result, Ok, Err}
use Rattle.word.specs.Choice.{pick}
use Rattle.word.specs.Numbers as Number
use Rattle.word.specs.Words.{kind_of, bits, of_kind}
use Rattle.numeric.specs.Types.{kind_code, size_code, subtype_of}
use Rattle.numeric.specs.declared.types.ScalarKind.{ScalarKind}
use Rattle.numeric.specs.declared.types.ScalarKind.TheVariants as K
use Rattle.numeric.specs.declared.types.VectorSize.{VectorSize}
use Rattle.numeric.specs.declared.types.VectorSize.TheVariants.{Bi, Tri, Quad}
use Rattle.numeric.specs.declared.types.NumericDimension.{NumericDimension}
use Rattle.numeric.specs.declared.types.NumericDimension.TheVariants as D
use Rattle.numeric.specs.declared.types.NumericType.{NumericType}
use Rattle.numeric.specs.declared.types.Misfit.{Misfit}

-- ---- from words to types

-- 'scalar kind 5–4: sint, uint, float, bool'
abbrev pub kind_at : ℕ → ScalarKind
kind_at code = pick (eqb code 0) K.Sint (pick (eqb code 1) K.Uint (pick (eqb code 2) K.Float K.Bool))

-- a vector's or a matrix's side of as many components
abbrev pub vector_size_at : ℕ → VectorSize
vector_size_at components = pick (eqb components 2) Bi (pick (eqb components 3) Tri Quad)

-- 'shape 3–0: 0 scalar, 1–3 vector of 2–4, 4 + 3 × (columns − 2) + (rows − 2) matrix'
abbrev pub shape_at : ℕ → NumericDimension
shape_at code =
    pick (eqb code 0) D.Scalar
    (pick (ltb code 4) (D.Vector (vector_size_at (code + 1))) (D.Matrix (vector_size_at ((code - 4) / 3 + 2)) (vector_size_at ((code - 4) % 3 + 2))))

-- 'width 9–6: 1, 2, 4 or 8'
abbrev pub width_known : ℕ → Bool
width_known width = eqb width 1 || (eqb width 2 || (eqb width 4 || eqb width 8))

-- the type's bits of a word of kind 13 hold known codes
unfoldable pub type_well_formed : ℕ → Bool
type_well_formed w = ltb (bits 3 0 w) 13 && width_known (bits 9 6 w)

-- the type that a word of kind 13 holds
unfoldable pub type_of : ℕ → NumericType
type_of w = record { dim = shape_at (bits 3 0 w); scalar = record { kind = kind_at (bits 5 4 w); width = bits 9 6 w } }

-- 'A lone type is a kind 13 word, bits 18–12 zero'
unfoldable pub read_type : ℕ → Option NumericType
read_type w = pick (eqb (kind_of w) 13 && (eqb (bits 26 10 w) 0 && type_well_formed w)) (Some (type_of w)) None

-- what the reading of a type word answers: nothing against a type, 82 for any other word
abbrev pub type_number : Option NumericType → ℕ
type_number (Some t) = 0
type_number None = Number.unknown_code

-- ---- from types to words

-- the shape as 'shape 3–0' numbers it
abbrev pub shape_code : NumericDimension → ℕ
shape_code D.Scalar = 0
shape_code (D.Vector n) = size_code n - 1
shape_code (D.Matrix columns rows) = 4 + 3 * (size_code columns - 2) + (size_code rows - 2)

-- a lone type's word
unfoldable pub type_word : NumericType → ℕ
type_word t = of_kind 13 (shape_code t.dim + 16 * kind_code t.scalar.kind + 64 * t.scalar.width)

-- ---- two lone types

-- whether the first fits, or that one of them is no type
unfoldable pub compare_types : Option NumericType → Option NumericType → Option (Result ⊤ Misfit)
compare_types (Some a) (Some b) = Some (subtype_of a b)
compare_types (Some a) None = None
compare_types None b = None

-- yes, no, or 82
abbrev pub subtype_number : Option (Result ⊤ Misfit) → ℕ
subtype_number (Some (Ok u)) = 1
subtype_number (Some (Err reason)) = 0
subtype_number None = Number.unknown_code
