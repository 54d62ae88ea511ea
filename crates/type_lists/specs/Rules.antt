-- The varyings that a type gives, as the Rust's `populate` pushes them, and how deep structs nest.
use Rattle.std.specs.Prelude.{ℕ, suc, max, List, [], ◌∷◌, ◌++◌}
use Rattle.numeric.specs.declared.types.NumericDimension.TheVariants as D
use Rattle.numeric.specs.declared.types.NumericType.{NumericType}
use Rattle.interface.specs.declared.types.BuiltIn.TheVariants as In
use Rattle.interface.specs.declared.types.Varying.{Varying}
use Rattle.interface.specs.declared.types.Varying.TheVariants as Var
use Rattle.type_lists.specs.Meaning.{Binding, Unbound, Location, BuiltIn, StructMember, TypeInner, Scalar, Vector, Matrix, Array, Struct, by_number}

-- a scalar, vector or matrix: 'unbound scalars, vectors and matrices give nothing'
abbrev pub numeric_gives : NumericType → Binding → List Varying
numeric_gives ty Unbound = []
numeric_gives ty (Location location interpolation sampling primitive) =
    Var.Local location (record { ty = ty; interpolation = interpolation; sampling = sampling; per_primitive = primitive }) ∷ []
numeric_gives ty (BuiltIn b) = Var.BuiltIn b ∷ []

-- 'An array with clip distances gives that built-in; other arrays … give nothing'
abbrev pub array_gives : ℕ → Binding → List Varying
array_gives size Unbound = []
array_gives size (Location location interpolation sampling primitive) = []
array_gives size (BuiltIn (In.Other slots)) = []
array_gives size (BuiltIn (In.PrimitiveIndex slots)) = []
array_gives size (BuiltIn (In.DrawIndex slots)) = []
array_gives size (BuiltIn (In.FragDepth slots)) = []
array_gives size (BuiltIn (In.ClipDistances none)) = Var.BuiltIn (In.ClipDistances size) ∷ []

-- 'varyings come out in member order'
unfoldable pub members_give : (ℕ → Binding → List Varying) → List StructMember → List Varying
members_give earlier [] = []
members_give earlier (m ∷ members) = earlier m.ty m.binding ++ members_give earlier members

-- 'A struct inside a struct is entered member by member, the struct's own binding ignored'
abbrev pub type_gives : (ℕ → Binding → List Varying) → TypeInner → Binding → List Varying
type_gives earlier (Scalar scalar) binding = numeric_gives (record { dim = D.Scalar; scalar = scalar }) binding
type_gives earlier (Vector size scalar) binding = numeric_gives (record { dim = D.Vector size; scalar = scalar }) binding
type_gives earlier (Matrix columns rows scalar) binding = numeric_gives (record { dim = D.Matrix columns rows; scalar = scalar }) binding
type_gives earlier (Array base size) binding = array_gives size binding
type_gives earlier (Struct members) binding = members_give earlier members

-- the varyings of a type of a list, by its number, with a binding
abbrev pub populate : List TypeInner → ℕ → Binding → List Varying
populate types = by_number type_gives (λ binding. []) types

unfoldable pub deepest : (ℕ → ℕ) → List StructMember → ℕ
deepest earlier [] = 0
deepest earlier (m ∷ members) = max (earlier m.ty) (deepest earlier members)

abbrev pub type_nests : (ℕ → ℕ) → TypeInner → ℕ
type_nests earlier (Scalar scalar) = 0
type_nests earlier (Vector size scalar) = 0
type_nests earlier (Matrix columns rows scalar) = 0
type_nests earlier (Array base size) = earlier base
type_nests earlier (Struct members) = suc (deepest earlier members)

-- 'structs nested …, also through arrays, the asked one counted'
abbrev pub nesting : List TypeInner → ℕ → ℕ
nesting types = by_number type_nests 0 types
