-- What stands at positions of a type list, read without asking whether it is well formed.
use Rattle.std.specs.Prelude.{ℕ, zero, suc, Bool, true, false, not, ◌&&◌, List, [], ◌∷◌, eqb, ltb, drop}
use Rattle.word.specs.Choice.{pick}
use Rattle.word.specs.Words.{word_at, kind_of, content_of, bits}
use Rattle.word.specs.Lists.{every}
use Rattle.word.specs.Parse.{Parsed, fault, got}
use Rattle.numeric.specs.TypeWords.{type_of}
use Rattle.interface.specs.Format.{built_in_of}
use Rattle.type_lists.specs.Meaning.{Binding, Unbound, BuiltIn, StructMember, TypeInner, Scalar, Vector, Matrix, Array, Struct}
use Rattle.type_lists.specs.Format.{located, numeric_type, read_types, decode}

-- a binding by its first word and the one behind it
unfoldable pub binding_of : ℕ → ℕ → Binding
binding_of w var = pick (eqb (kind_of w) 12) (located w var) (pick (eqb (kind_of w) 14) (BuiltIn (built_in_of w)) Unbound)

abbrev pub binding_at : List ℕ → Binding
binding_at ws = binding_of (word_at ws 0) (word_at ws 1)

-- a member's words: its type, and a binding of one word or two
abbrev pub member_width : List ℕ → ℕ
member_width ws = pick (eqb (kind_of (word_at ws 1)) 12) 3 2

abbrev pub member_at : List ℕ → StructMember
member_at ws = record { ty = content_of (word_at ws 0); binding = binding_at (drop 1 ws) }

unfoldable pub members_at : ℕ → List ℕ → List StructMember
members_at zero ws = []
members_at (suc n) ws = let others = members_at n (drop (member_width ws) ws) in member_at ws ∷ others

unfoldable pub type_at : List ℕ → TypeInner
type_at ws =
    pick (eqb (kind_of (word_at ws 0)) 22) (numeric_type (type_of (word_at ws 0)))
    (pick (eqb (kind_of (word_at ws 0)) 23) (Array (bits 15 0 (word_at ws 0)) (content_of (word_at ws 1))) (Struct (members_at (bits 15 0 (word_at ws 0)) (drop 1 ws))))

-- neither a number nor an array stands at a position
abbrev pub struct_at : List ℕ → ℕ → Bool
struct_at ws at = not (eqb (kind_of (word_at ws at)) 22) && not (eqb (kind_of (word_at ws at)) 23)

-- members name types below a number
abbrev pub members_below : ℕ → List StructMember → Bool
members_below n members = every (λ m. ltb m.ty n) members

-- a type names types below a number
abbrev pub names_below : ℕ → TypeInner → Bool
names_below n (Scalar scalar) = true
names_below n (Vector size scalar) = true
names_below n (Matrix columns rows scalar) = true
names_below n (Array base size) = ltb base n
names_below n (Struct members) = members_below n members

abbrev pub types_of : Parsed (List TypeInner) → List TypeInner
types_of fault = []
types_of (got types rest) = types

-- as many types as stand first in a list
unfoldable pub earlier_of : List ℕ → ℕ → List TypeInner
earlier_of ws n = types_of (read_types n [] (drop 1 ws))

-- the types of an accepted list
unfoldable pub declared : List ℕ → List TypeInner
declared ws = types_of (decode ws)

abbrev pub accepted : Parsed (List TypeInner) → Bool
accepted fault = false
accepted (got types rest) = true

-- whether a list is accepted
unfoldable pub listed : List ℕ → Bool
listed ws = accepted (decode ws)
