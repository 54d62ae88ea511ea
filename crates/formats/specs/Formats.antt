-- The type of each vertex and texture format, and the answers given on them.
use Rattle.std.specs.Prelude.{ℕ, ltb, Option, Some, None, Result, Ok, Err}
use Rattle.word.specs.Choice.{pick}
use Rattle.word.specs.Numbers as Number
use Rattle.word.specs.Answers.{answer, accepted, refused}
use Rattle.word.specs.declared.answer.Answer.{Answer}
use Rattle.numeric.specs.Types.{numeric, fits}
use Rattle.numeric.specs.TypeWords.{type_word, type_number}
use Rattle.numeric.specs.declared.types.ScalarKind.{ScalarKind}
use Rattle.numeric.specs.declared.types.ScalarKind.TheVariants as K
use Rattle.numeric.specs.declared.types.VectorSize.TheVariants.{Bi, Tri, Quad}
use Rattle.numeric.specs.declared.types.NumericDimension.{NumericDimension}
use Rattle.numeric.specs.declared.types.NumericDimension.TheVariants as D
use Rattle.numeric.specs.declared.types.NumericType.{NumericType}
use Rattle.formats.specs.declared.formats.FormatError.{FormatError}
use Rattle.formats.specs.declared.formats.FormatError.TheVariants.{NoColour, Unknown}
use Rattle.word.specs.Refusals.{refusal}
use Rattle.word.specs.declared.refusal.Refusal.{Refusal}
use Rattle.word.specs.declared.refusal.Number.TheVariants.{NoColourType, UnknownCode}

-- the type of a format's data, or why it has none
abbrev pub FormatType : Type 0
FormatType = Result NumericType FormatError

-- a format whose data has a type
abbrev pub known : NumericDimension → ScalarKind → ℕ → FormatType
known dim kind width = Ok (numeric dim kind width)

-- the codes below a number that no earlier line has
abbrev pub below : ℕ → FormatType → (ℕ → FormatType) → ℕ → FormatType
below end type rest code = pick (ltb code end) type (rest code)

-- the vertex formats of floats, normalized ones included
unfoldable pub float_vertex_format : ℕ → FormatType
float_vertex_format =
    below 26 (known D.Scalar K.Float 4)
    (below 32 (known (D.Vector Bi) K.Float 4)
    (below 33 (known (D.Vector Tri) K.Float 4)
    (below 41 (known (D.Vector Quad) K.Float 4)
    (below 42 (known D.Scalar K.Float 8)
    (below 43 (known (D.Vector Bi) K.Float 8)
    (below 44 (known (D.Vector Tri) K.Float 8)
    (below 45 (known (D.Vector Quad) K.Float 8)
    (λ code. Err Unknown))))))))

-- 'numbered from 0 as from_vertex_format (0–44) first names them'
unfoldable pub vertex_format : ℕ → FormatType
vertex_format =
    below 3 (known D.Scalar K.Uint 4)
    (below 6 (known (D.Vector Bi) K.Uint 4)
    (below 7 (known (D.Vector Tri) K.Uint 4)
    (below 10 (known (D.Vector Quad) K.Uint 4)
    (below 13 (known D.Scalar K.Sint 4)
    (below 16 (known (D.Vector Bi) K.Sint 4)
    (below 17 (known (D.Vector Tri) K.Sint 4)
    (below 20 (known (D.Vector Quad) K.Sint 4)
    float_vertex_format)))))))

-- depth, stencil and planar formats (43–50), which have no colour type, and shared-exponent and compressed ones
unfoldable pub other_texture_format : ℕ → FormatType
other_texture_format =
    below 51 (Err NoColour)
    (below 52 (known (D.Vector Tri) K.Float 4)
    (below 64 (known (D.Vector Quad) K.Float 4)
    (below 68 (known D.Scalar K.Float 4)
    (below 72 (known (D.Vector Bi) K.Float 4)
    (below 76 (known (D.Vector Tri) K.Float 4)
    (below 77 (known (D.Vector Quad) K.Float 4)
    (λ code. Err Unknown)))))))

-- 'and from_texture_format (0–76, Astc one code)'
unfoldable pub texture_format : ℕ → FormatType
texture_format =
    below 4 (known D.Scalar K.Float 4)
    (below 7 (known D.Scalar K.Uint 4)
    (below 10 (known D.Scalar K.Sint 4)
    (below 14 (known (D.Vector Bi) K.Float 4)
    (below 15 (known D.Scalar K.Uint 8)
    (below 18 (known (D.Vector Bi) K.Uint 4)
    (below 21 (known (D.Vector Bi) K.Sint 4)
    (below 23 (known D.Scalar K.Float 4)
    (below 25 (known (D.Vector Bi) K.Float 4)
    (below 35 (known (D.Vector Quad) K.Float 4)
    (below 39 (known (D.Vector Quad) K.Uint 4)
    (below 42 (known (D.Vector Quad) K.Sint 4)
    (below 43 (known (D.Vector Tri) K.Float 4)
    other_texture_format))))))))))))

-- ---- answers

-- 'one handed out is the first detail'; 80 and 82 where there is none
abbrev pub format_answer : FormatType → Answer
format_answer (Ok t) = answer 0 (type_word t) 0 0
format_answer (Err NoColour) = refused Number.no_colour_type
format_answer (Err Unknown) = refused Number.unknown_code

-- a format that has no type, as a refusal
abbrev pub format_refusal : FormatError → Refusal
format_refusal NoColour = refusal NoColourType 0 0 0
format_refusal Unknown = refusal UnknownCode 0 0 0

-- a format's type must fit the type that is written, else 81 with it
abbrev pub check_type : NumericType → NumericType → Answer
check_type t output = pick (fits t output) accepted (answer Number.format_mismatch (type_word t) 0 0)

-- a texture format against the type that a shader writes: 82 tried first, then 80, then 81 with the format's type
unfoldable pub check_texture_format : FormatType → Option NumericType → Answer
check_texture_format (Err Unknown) output = format_answer (Err Unknown)
check_texture_format (Err NoColour) None = refused (type_number None)
check_texture_format (Ok t) None = refused (type_number None)
check_texture_format (Err NoColour) (Some output) = format_answer (Err NoColour)
check_texture_format (Ok t) (Some output) = check_type t output
