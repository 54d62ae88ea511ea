-- What a type list can hold: the ranges of its numbers, and the rules of document 02 on what it lists.
use Rattle.std.specs.Prelude.{◌^◌, Bool, true, ◌&&◌, List, [], ◌∷◌, eqb, leb, ltb, length}
use Rattle.word.specs.Words.{content}
use Rattle.word.specs.Lists.{every}
use Rattle.numeric.specs.TypeWords.{width_known}
use Rattle.interface.specs.declared.types.BuiltIn as Interface
use Rattle.interface.specs.declared.types.BuiltIn.TheVariants as In
use Rattle.type_lists.specs.Meaning.{Binding, Unbound, Location, BuiltIn, StructMember, TypeInner, Scalar, Vector, Matrix, Array, Struct}
use Rattle.type_lists.specs.Format.{binding_good, most_types}

-- 'kind 14, 7–0 zero for clip distances'
abbrev pub built_in_encodable : Interface.BuiltIn → Bool
built_in_encodable (In.Other slots) = ltb slots 256
built_in_encodable (In.PrimitiveIndex slots) = ltb slots 256
built_in_encodable (In.DrawIndex slots) = ltb slots 256
built_in_encodable (In.FragDepth slots) = ltb slots 256
built_in_encodable (In.ClipDistances size) = eqb size 0

abbrev pub binding_encodable : Binding → Bool
binding_encodable Unbound = true
binding_encodable (Location location interpolation sampling primitive) = content location && (ltb interpolation 5 && ltb sampling 6)
binding_encodable (BuiltIn b) = built_in_encodable b

-- 'each naming only earlier ones'
abbrev pub member_encodable : List TypeInner → StructMember → Bool
member_encodable earlier m = ltb m.ty (length earlier) && (binding_encodable m.binding && binding_good earlier m.ty m.binding)

abbrev pub type_encodable : List TypeInner → TypeInner → Bool
type_encodable earlier (Scalar scalar) = width_known scalar.width
type_encodable earlier (Vector size scalar) = width_known scalar.width
type_encodable earlier (Matrix columns rows scalar) = width_known scalar.width
type_encodable earlier (Array base size) = ltb base (length earlier) && content size
type_encodable earlier (Struct members) = ltb (length members) (2 ^ 16) && every (member_encodable earlier) members

unfoldable pub types_encodable : List TypeInner → Bool
types_encodable [] = true
types_encodable (t ∷ earlier) = type_encodable earlier t && types_encodable earlier

-- 'At most 256 types'
abbrev pub list_encodable : List TypeInner → Bool
list_encodable types = leb (length types) most_types && types_encodable types
