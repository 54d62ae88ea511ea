-- What is noted of a type by its number: where it stands, how deep structs nest in it, how many varyings it gives and how many words they take.
use Rattle.std.specs.Prelude.{ℕ, ◌+◌, ◌<◌, ◌≤◌, min, max, ◌≡◌, Bool, true, false, ◌&&◌, List, ◌∷◌, Option, Some, None, eqb, leb, length, drop, get_or}
use mathlib.Core.Path.{refl}
use mathlib.Core.Sum.{⊎_set}
use borrow.Author.Tests.{ltb-true}
use Rattle.std.proofs.Props.{props}
use Rattle.word.specs.Choice.{pick, yes}
use Rattle.word.specs.Words.{word_at, kind_of, bits}
use Rattle.word.specs.Lists.{flat}
use Rattle.word.specs.Parse.{Parsed, fault, got, next}
use Rattle.interface.specs.Format.{varying_words}
use Rattle.interface.specs.declared.types.Varying.{Varying}
use Rattle.type_lists.specs.Meaning.{Unbound, StructMember, TypeInner, Scalar, Vector, Matrix, Array, Struct, type_numbered}
use Rattle.type_lists.specs.Format.{most_types}
use Rattle.type_lists.specs.Rules.{populate, members_give, nesting, deepest}
use Rattle.type_check.specs.Inner.Positions.{type_at, struct_at, names_below}
use Rattle.type_check.specs.declared.notes.Note.{Note}
use Rattle.type_check.specs.declared.notes.TypeNote.{TypeNote}
use Rattle.type_check.specs.declared.notes.Reading.{Reading}

-- the words of varyings, one behind the other
abbrev pub words_of : List Varying → List ℕ
words_of vs = flat varying_words vs

abbrev pub note : ℕ → ℕ → ℕ → Note
note depth count words = record { depth = depth; count = count; words = words }

-- past 8 levels, past 63 varyings and past the 126 words that these take at most, all are one
unfoldable pub note_of : ℕ → List Varying → Note
note_of depth vs = note (min depth 9) (min (length vs) 64) (min (length (words_of vs)) 128)

unfoldable pub both : Note → Note → Note
both a b = note (max a.depth b.depth) (min (a.count + b.count) 64) (min (a.words + b.words) 128)

abbrev pub member_note : List TypeInner → StructMember → Note
member_note types m = note_of (nesting types m.ty) (populate types m.ty m.binding)

abbrev pub members_note : List TypeInner → List StructMember → Note
members_note types members = note_of (deepest (nesting types) members) (members_give (populate types) members)

abbrev pub is_struct : TypeInner → Bool
is_struct (Scalar scalar) = false
is_struct (Vector size scalar) = false
is_struct (Matrix columns rows scalar) = false
is_struct (Array base size) = false
is_struct (Struct members) = true

-- what a type that is no struct gives hangs on its binding: it is noted as giving one
abbrev pub lone_note : ℕ → Note
lone_note depth = note (min depth 9) 1 1

-- of the type of a number
unfoldable pub number_note : List TypeInner → ℕ → Note
number_note types n = pick (is_struct (type_numbered types n)) (note_of (nesting types n) (populate types n Unbound)) (lone_note (nesting types n))

-- ---- the table of notes

abbrev pub unnoted : TypeNote
unnoted = record { start = 0; note = note 0 0 0; near = ltb-true 0 1024 refl }

-- where the type of a number stands
abbrev pub start_at : List TypeNote → ℕ → ℕ
start_at notes n = (get_or notes n unnoted).start

-- what is noted of it
abbrev pub note_at : List TypeNote → ℕ → Note
note_at notes n = (get_or notes n unnoted).note

-- a type stands where the table says, names lower numbers only, and is noted
pub record Stands (types : List TypeInner) (ws : List ℕ) (n : ℕ) (e : TypeNote) : Type 0 where
  pub is : type_numbered types n ≡ type_at (drop e.start ws)
  pub below : names_below n (type_numbered types n) ≡ true
  pub noted : e.note ≡ number_note types n

pub record Noted (types : List TypeInner) (ws : List ℕ) (notes : List TypeNote) : Type 0 where
  pub each : (n : ℕ) → n < length types → Stands types ws n (get_or notes n unnoted)
  pub few : length types ≤ most_types

-- a fact has one proof at most
pub Noted-prop : (types : List TypeInner) (ws : List ℕ) (notes : List TypeNote) → IsProp (Noted types ws notes)
Noted-prop types ws notes = Prim.hlevel (props, ⊎_set)

-- ---- readers, by where they stopped and what is noted of what they read

pub data Reached : Type 0 where
  nowhere : Reached
  upto : List ℕ → Note → Reached

abbrev pub reached_at : List ℕ → Option Reading → Reached
reached_at ws None = nowhere
reached_at ws (Some r) = upto (drop r.next ws) r.note

abbrev pub reached : {A : Type 0} → (A → Note) → Parsed A → Reached
reached note_by fault = nowhere
reached note_by (got a rest) = upto rest (note_by a)

abbrev pub member_reached : List TypeInner → Parsed StructMember → Reached
member_reached types = reached (member_note types)

abbrev pub members_reached : List TypeInner → Parsed (List StructMember) → Reached
members_reached types = reached (members_note types)

-- a type behind earlier ones
abbrev pub type_reached : List TypeInner → Parsed TypeInner → Reached
type_reached earlier = reached (λ t. number_note (t ∷ earlier) (length earlier))

-- a struct of the members that were read
abbrev pub struct_of : Parsed (List StructMember) → Parsed TypeInner
struct_of p = next p λ members rest. got (Struct members) rest

-- with what was noted before
abbrev pub onward : Note → Reached → Reached
onward total nowhere = nowhere
onward total (upto rest n) = upto rest (both total n)

-- ---- the note of a type with a binding, by words and the table

-- a scalar, vector or matrix with a binding that begins with a word
abbrev pub bound_note : ℕ → ℕ → Note
bound_note depth w = pick (eqb (kind_of w) 12) (note depth 1 2) (pick (eqb (kind_of w) 14) (note depth 1 1) (note depth 0 0))

-- a word of clip distances
abbrev pub clip_word : ℕ → Bool
clip_word w = eqb (kind_of w) 14 && leb 4 (bits 26 24 w)

-- an array with such a binding
abbrev pub array_note : ℕ → ℕ → Note
array_note depth w = pick (yes (clip_word w)) (note depth 1 1) (note depth 0 0)

abbrev pub lone_note_at : List ℕ → ℕ → ℕ → ℕ → Note
lone_note_at ws at depth w = pick (eqb (kind_of (word_at ws at)) 22) (bound_note depth w) (array_note depth w)

-- the type of a number with such a binding
unfoldable pub given_note : List ℕ → List TypeNote → ℕ → ℕ → Note
given_note ws notes n w = pick (struct_at ws (start_at notes n)) (note_at notes n) (lone_note_at ws (start_at notes n) (note_at notes n).depth w)
