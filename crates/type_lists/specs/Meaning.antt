-- What a type list holds: the types of a shader, under the Rust's names. What a type is made of it names by number.
use Rattle.std.specs.Prelude.{ℕ, Bool, List, [], ◌∷◌, eqb, length}
use Rattle.word.specs.Choice.{pick}
use Rattle.numeric.specs.declared.types.Scalar as Numeric
use Rattle.numeric.specs.declared.types.VectorSize.{VectorSize}
use Rattle.interface.specs.declared.types.BuiltIn as Interface

-- how a member or an asked type is bound: not at all, to a location with interpolation, sampling and whether it is per primitive, or to a built-in
pub data Binding : Type 0 where
  Unbound : Binding
  Location : ℕ → ℕ → ℕ → Bool → Binding
  BuiltIn : Interface.BuiltIn → Binding

-- a member of a struct: the number of its type, and its binding
pub record StructMember : Type 0 where
  pub ty : ℕ
  pub binding : Binding

-- a vector has a size, a matrix columns and rows, an array the number of its elements' type and how many there are
pub data TypeInner : Type 0 where
  Scalar : Numeric.Scalar → TypeInner
  Vector : VectorSize → Numeric.Scalar → TypeInner
  Matrix : VectorSize → VectorSize → Numeric.Scalar → TypeInner
  Array : ℕ → ℕ → TypeInner
  Struct : List StructMember → TypeInner

-- the type of a number. In a list of types the last one stands first, so that a type's number is how many stand behind it; past the end an empty struct
unfoldable pub type_numbered : List TypeInner → ℕ → TypeInner
type_numbered [] n = Struct []
type_numbered (t ∷ earlier) n = let rest = type_numbered earlier n in pick (eqb n (length earlier)) t rest

-- what is worked out of each type by what was worked out of earlier ones, told by their numbers
unfoldable pub by_number : {A : Type 0} → ((ℕ → A) → TypeInner → A) → A → List TypeInner → ℕ → A
by_number of_type none [] n = none
by_number of_type none (t ∷ earlier) n = pick (eqb n (length earlier)) (of_type (by_number of_type none earlier) t) (by_number of_type none earlier n)
