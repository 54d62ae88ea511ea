-- Numeric types: which fits where another is provided.
use Rattle.std.specs.Prelude.{ℕ, Bool, true, false, ◌&&◌, eqb, leb, ltb, ⊤, Result, Ok, Err, is_ok}
use Rattle.word.specs.Choice.{pick}
use Rattle.numeric.specs.declared.types.ScalarKind.{ScalarKind}
use Rattle.numeric.specs.declared.types.ScalarKind.TheVariants as K
use Rattle.numeric.specs.declared.types.VectorSize.{VectorSize}
use Rattle.numeric.specs.declared.types.VectorSize.TheVariants.{Bi, Tri, Quad}
use Rattle.numeric.specs.declared.types.NumericDimension.{NumericDimension}
use Rattle.numeric.specs.declared.types.NumericDimension.TheVariants as D
use Rattle.numeric.specs.declared.types.NumericType.{NumericType}
use Rattle.numeric.specs.declared.types.Misfit.{Misfit}
use Rattle.numeric.specs.declared.types.Misfit.TheVariants.{TooWide, OtherKind, OtherShape}

-- 'scalar kind 5–4: sint, uint, float, bool'
abbrev pub kind_code : ScalarKind → ℕ
kind_code K.Sint = 0
kind_code K.Uint = 1
kind_code K.Float = 2
kind_code K.Bool = 3

-- how many components a size means
abbrev pub size_code : VectorSize → ℕ
size_code Bi = 2
size_code Tri = 3
size_code Quad = 4

-- a scalar is below a scalar and below a vector, a vector below one as long or longer, a matrix below itself
-- (WebGPU, 'validating inter-stage interfaces': what a stage reads is covered by what the one before writes)
unfoldable pub shape_fits : NumericDimension → NumericDimension → Bool
shape_fits D.Scalar D.Scalar = true
shape_fits D.Scalar (D.Vector n) = true
shape_fits D.Scalar (D.Matrix c r) = false
shape_fits (D.Vector m) D.Scalar = false
shape_fits (D.Vector m) (D.Vector n) = leb (size_code m) (size_code n)
shape_fits (D.Vector m) (D.Matrix c r) = false
shape_fits (D.Matrix c r) D.Scalar = false
shape_fits (D.Matrix c r) (D.Vector n) = false
shape_fits (D.Matrix c r) (D.Matrix d s) = eqb (size_code c) (size_code d) && eqb (size_code r) (size_code s)

-- why a type does not fit, 'tested in that order as the Rust does': too wide, other scalar kind, other shape
unfoldable pub subtype_of : NumericType → NumericType → Result ⊤ Misfit
subtype_of a b =
    pick (ltb b.scalar.width a.scalar.width) (Err TooWide)
    (pick (eqb (kind_code a.scalar.kind) (kind_code b.scalar.kind))
    (pick (shape_fits a.dim b.dim) (Ok tt) (Err OtherShape))
    (Err OtherKind))

-- whether a type is below another
abbrev pub fits : NumericType → NumericType → Bool
fits a b = is_ok (subtype_of a b)

-- a type from its parts
abbrev pub numeric : NumericDimension → ScalarKind → ℕ → NumericType
numeric dim kind width = record { dim = dim; scalar = record { kind = kind; width = width } }
