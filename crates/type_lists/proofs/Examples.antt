-- What the definitions say of a written-out list: f32, vec3 f32, an array of five f32, a struct of an f32 at location 3 and an unbound vec3,
-- and one of the struct, with a location that is ignored, clip distances and a built-in.
use Prim.Native.Nat.{ℕ}
use mathlib.Core.Path.{◌≡◌, refl}
use mathlib.Core.Bool.{true, false}
use mathlib.Core.List.{List, [], ◌∷◌, ◌++◌}
use Rattle.word.specs.Choice.{yes}
use Rattle.word.specs.Words.{of_kind}
use Rattle.word.specs.Lists.{flat}
use Rattle.word.specs.Parse.{got, several}
use Rattle.numeric.specs.TypeWords.{type_well_formed, type_of, type_word}
use Rattle.numeric.specs.declared.types.Scalar as Numeric
use Rattle.numeric.specs.declared.types.ScalarKind.TheVariants as K
use Rattle.numeric.specs.declared.types.NumericDimension.TheVariants as D
use Rattle.numeric.specs.declared.types.VectorSize.TheVariants.{Tri}
use Rattle.interface.specs.declared.types.BuiltIn.TheVariants as In
use Rattle.interface.specs.declared.types.Varying.TheVariants as Var
use Rattle.type_lists.specs.Meaning.{Unbound, Location, BuiltIn, TypeInner, Scalar, Vector, Array, Struct, type_numbered, by_number}
use Rattle.type_lists.specs.Rules.{populate, members_give, nesting, deepest}
use Rattle.type_lists.specs.Format.{bound_well_formed, read_binding, binding_good, read_member, read_type, read_types, read_list, decode, type_words, types_words, encode}

f32 : Numeric.Scalar
f32 = record { kind = K.Float; width = 4 }

pub types : List TypeInner
types =
    Struct (
    record { ty = 3; binding = Location 7 1 2 true }
    ∷ record { ty = 2; binding = BuiltIn (In.ClipDistances 0) }
    ∷ record { ty = 1; binding = BuiltIn (In.Other 2) } ∷ []
    )
    ∷ Struct (record { ty = 0; binding = Location 3 1 2 true } ∷ record { ty = 1; binding = Unbound } ∷ [])
    ∷ Array 0 5 ∷ Vector Tri f32 ∷ Scalar f32 ∷ []

pub words : List ℕ
words =
    of_kind 21 5 ∷ of_kind 22 0x120 ∷ of_kind 22 0x122 ∷ of_kind 23 0 ∷ of_kind 6 5
    ∷ of_kind 24 2 ∷ of_kind 5 0 ∷ of_kind 12 3 ∷ of_kind 13 0x51000 ∷ of_kind 5 1 ∷ of_kind 6 0
    ∷ of_kind 24 3 ∷ of_kind 5 3 ∷ of_kind 12 7 ∷ of_kind 13 0x51000 ∷ of_kind 5 2 ∷ of_kind 14 0x400_0000 ∷ of_kind 5 1 ∷ of_kind 14 2 ∷ []

written : encode types ≡ words
unfolding encode types_words type_words flat type_word yes types words f32
written = refl

-- a word of free room behind it
read : decode (words ++ (9 ∷ [])) ≡ got types (9 ∷ [])
unfolding decode read_list read_types read_type read_member read_binding several binding_good type_numbered bound_well_formed type_well_formed type_of types words f32
read = refl

-- the f32 at location 3 of the struct inside, whose own location is ignored; five clip distances; the built-in
given : populate types 4 (Location 0 0 0 false)
    ≡ Var.Local 3 (record { ty = record { dim = D.Scalar; scalar = f32 }; interpolation = 1; sampling = 2; per_primitive = true })
    ∷ Var.BuiltIn (In.ClipDistances 5) ∷ Var.BuiltIn (In.Other 2) ∷ []
unfolding by_number members_give types f32
given = refl

nested : nesting types 4 ≡ 2
unfolding by_number deepest types f32
nested = refl
