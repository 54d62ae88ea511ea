-- How words carry a type list and a binding: a grammar in the order of document 02, and the words of both.
use Rattle.std.specs.Prelude.{ℕ, zero, suc, ◌+◌, ◌*◌, ◌^◌, Bool, true, false, ◌&&◌, ◌||◌, List, [], ◌∷◌, ◌++◌, eqb, leb, ltb, length}
use Rattle.word.specs.Choice.{pick}
use Rattle.word.specs.Words.{kind_of, content_of, bits, bit, of_kind}
use Rattle.word.specs.Lists.{flat}
use Rattle.word.specs.Parse.{Parsed, fault, got, next, one, several}
use Rattle.bindings.specs.Format.{flag}
use Rattle.numeric.specs.TypeWords.{type_well_formed, type_of, type_word}
use Rattle.numeric.specs.declared.types.ScalarKind.{ScalarKind}
use Rattle.numeric.specs.declared.types.ScalarKind.TheVariants as K
use Rattle.numeric.specs.declared.types.Scalar as Numeric
use Rattle.numeric.specs.declared.types.NumericDimension.{NumericDimension}
use Rattle.numeric.specs.declared.types.NumericDimension.TheVariants as D
use Rattle.numeric.specs.declared.types.NumericType.{NumericType}
use Rattle.varying.specs.Format.{location_well_formed}
use Rattle.interface.specs.Format.{of_word, index_well_formed, built_in_well_formed, built_in_of, built_in_code}
use Rattle.interface.specs.declared.types.BuiltIn.TheVariants as In
use Rattle.type_lists.specs.Meaning.{Binding, Unbound, Location, BuiltIn, StructMember, TypeInner, Scalar, Vector, Matrix, Array, Struct, type_numbered}

-- ---- bindings

-- 'a kind 13 with 9–0 zero'
unfoldable pub bound_well_formed : ℕ → Bool
bound_well_formed w = eqb (kind_of w) 13 && (eqb (bits 11 0 w) 0 && (eqb (bits 26 19 w) 0 && (ltb (bits 14 12 w) 5 && ltb (bits 17 15 w) 6)))

-- 'kind 14, 7–0 zero for clip distances'
abbrev pub built_in_bound : ℕ → Bool
built_in_bound w = built_in_well_formed 5 w && (ltb (bits 26 24 w) 4 || eqb (bits 7 0 w) 0)

abbrev pub located : ℕ → ℕ → Binding
located location var = Location (content_of location) (bits 14 12 var) (bits 17 15 var) (eqb (bit 18 var) 1)

-- 'its binding: kind 6 of 0 for none, kind 12 and a kind 13 …, or kind 14'
abbrev pub binding_behind : ℕ → List ℕ → Parsed Binding
binding_behind w rest =
    pick (location_well_formed w) (next (one bound_well_formed rest) λ var rest. got (located w var) rest)
    (pick (built_in_bound w) (got (BuiltIn (built_in_of w)) rest) (pick (eqb w (of_kind 6 0)) (got Unbound rest) fault))

unfoldable pub read_binding : List ℕ → Parsed Binding
read_binding [] = fault
read_binding (w ∷ rest) = binding_behind w rest

-- ---- clip distances

abbrev pub is_clip : Binding → Bool
is_clip Unbound = false
is_clip (Location location interpolation sampling primitive) = false
is_clip (BuiltIn (In.Other slots)) = false
is_clip (BuiltIn (In.PrimitiveIndex slots)) = false
is_clip (BuiltIn (In.DrawIndex slots)) = false
is_clip (BuiltIn (In.FragDepth slots)) = false
is_clip (BuiltIn (In.ClipDistances size)) = true

abbrev pub is_float : ScalarKind → Bool
is_float K.Sint = false
is_float K.Uint = false
is_float K.Float = true
is_float K.Bool = false

abbrev pub is_f32 : TypeInner → Bool
is_f32 (Scalar scalar) = is_float scalar.kind && eqb scalar.width 4
is_f32 (Vector size scalar) = false
is_f32 (Matrix columns rows scalar) = false
is_f32 (Array base size) = false
is_f32 (Struct members) = false

-- 'a clip array not of 1 to 255 f32 or clip distances on a scalar, vector or matrix is 90'; on a struct a binding is ignored
abbrev pub clip_good : List TypeInner → TypeInner → Bool
clip_good types (Scalar scalar) = false
clip_good types (Vector size scalar) = false
clip_good types (Matrix columns rows scalar) = false
clip_good types (Array base size) = is_f32 (type_numbered types base) && (leb 1 size && leb size 255)
clip_good types (Struct members) = true

-- whether the type of a number may have a binding
unfoldable pub binding_good : List TypeInner → ℕ → Binding → Bool
binding_good types n binding = pick (is_clip binding) (clip_good types (type_numbered types n)) true

-- ---- types

-- 'per member kind 5, its type, and its binding', each type 'naming only earlier ones'
unfoldable pub read_member : List TypeInner → List ℕ → Parsed StructMember
read_member earlier ws =
    next (one (index_well_formed (length earlier)) ws) λ named rest.
    next (read_binding rest) λ binding rest.
    pick (binding_good earlier (content_of named) binding) (got (record { ty = content_of named; binding = binding }) rest) fault

-- 'kind 22 (a lone type's bits), kind 23 (element 15–0) …, or kind 24 (members 15–0)'
abbrev pub head_well_formed : ℕ → ℕ → Bool
head_well_formed count w =
    pick (eqb (kind_of w) 22) (eqb (bits 26 10 w) 0 && type_well_formed w)
    (pick (eqb (kind_of w) 23) (eqb (bits 26 16 w) 0 && ltb (bits 15 0 w) count) (eqb (kind_of w) 24 && eqb (bits 26 16 w) 0))

-- the type of a shape and a scalar
abbrev pub shaped : NumericDimension → Numeric.Scalar → TypeInner
shaped D.Scalar scalar = Scalar scalar
shaped (D.Vector size) scalar = Vector size scalar
shaped (D.Matrix columns rows) scalar = Matrix columns rows scalar

abbrev pub numeric_type : NumericType → TypeInner
numeric_type t = shaped t.dim t.scalar

-- 'kind 22 …, kind 23 … and kind 6, length, or kind 24 … and per member …'
unfoldable pub read_type : List TypeInner → List ℕ → Parsed TypeInner
read_type earlier ws =
    next (one (head_well_formed (length earlier)) ws) λ head rest.
    pick (eqb (kind_of head) 22) (got (numeric_type (type_of head)) rest)
    (pick (eqb (kind_of head) 23) (next (one (of_word 6) rest) λ size rest. got (Array (bits 15 0 head) (content_of size)) rest)
    (next (several (bits 15 0 head) (read_member earlier) rest) λ members rest. got (Struct members) rest))

-- types, each behind the earlier ones
unfoldable pub read_types : ℕ → List TypeInner → List ℕ → Parsed (List TypeInner)
read_types zero earlier ws = got earlier ws
read_types (suc n) earlier ws = next (read_type earlier ws) λ t rest. read_types n (t ∷ earlier) rest

-- 'At most 256 types'
abbrev pub most_types : ℕ
most_types = 256

-- 'kind 21 (types 15–0)'
abbrev pub count_well_formed : ℕ → Bool
count_well_formed w = of_word 21 w && leb (content_of w) most_types

unfoldable pub read_list : List ℕ → Parsed (List TypeInner)
read_list ws = next (one count_well_formed ws) λ count rest. read_types (content_of count) [] rest

-- 'Lists have at most 1,024 words'
abbrev pub most_words : ℕ
most_words = 1024

unfoldable pub decode : List ℕ → Parsed (List TypeInner)
decode ws = pick (leb (length ws) most_words) (read_list ws) fault

-- ---- the words of a type list

abbrev pub binding_words : Binding → List ℕ
binding_words Unbound = of_kind 6 0 ∷ []
binding_words (Location location interpolation sampling primitive) =
    of_kind 12 location ∷ of_kind 13 (2 ^ 12 * interpolation + (2 ^ 15 * sampling + 2 ^ 18 * flag primitive)) ∷ []
binding_words (BuiltIn b) = of_kind 14 (built_in_code b) ∷ []

abbrev pub member_words : StructMember → List ℕ
member_words m = of_kind 5 m.ty ∷ binding_words m.binding

abbrev pub numeric_words : NumericType → List ℕ
numeric_words t = of_kind 22 (content_of (type_word t)) ∷ []

unfoldable pub type_words : TypeInner → List ℕ
type_words (Scalar scalar) = numeric_words (record { dim = D.Scalar; scalar = scalar })
type_words (Vector size scalar) = numeric_words (record { dim = D.Vector size; scalar = scalar })
type_words (Matrix columns rows scalar) = numeric_words (record { dim = D.Matrix columns rows; scalar = scalar })
type_words (Array base size) = of_kind 23 base ∷ of_kind 6 size ∷ []
type_words (Struct members) = of_kind 24 (length members) ∷ flat member_words members

-- of types in the order of their numbers
unfoldable pub types_words : List TypeInner → List ℕ
types_words [] = []
types_words (t ∷ earlier) = types_words earlier ++ type_words t

unfoldable pub encode : List TypeInner → List ℕ
encode types = of_kind 21 (length types) ∷ types_words types
