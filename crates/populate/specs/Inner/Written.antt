-- What the functions that write varyings carry along.
use Rattle.std.specs.Prelude.{ℕ, ◌+◌, ◌<◌, ◌≤◌, min, ◌≡◌, List, [], ◌∷◌, Option, Some, None, eqb, length, set, get_or}
use Rattle.word.specs.Words.{bits, bit}
use Rattle.numeric.specs.declared.types.NumericType.{NumericType}
use Rattle.varying.specs.declared.InterfaceVar.{InterfaceVar}
use Rattle.interface.specs.declared.types.Varying.{Varying}
use Rattle.type_lists.specs.Meaning.{Binding, Unbound, TypeInner}
use Rattle.type_lists.specs.Rules.{populate, members_give}
use Rattle.type_check.specs.Inner.Positions.{members_at}
use Rattle.type_check.specs.Inner.Notes.{words_of}

-- words written into a list from a position on: the position behind them, and the list
unfoldable pub put : List ℕ → ℕ → List ℕ → ℕ × List ℕ
put l to [] = (to, l)
put l to (w ∷ ws) = put (set l to w) (to + 1) ws

-- how far varyings are written: as far as a list goes, and no further than 63 of them take
abbrev pub room : List ℕ → ℕ
room out = min (length out) 126

-- the words of what so many members give that stand at a position
unfoldable pub members_words : List TypeInner → ℕ → List ℕ → List ℕ
members_words types n ws = words_of (members_give (populate types) (members_at n ws))

-- words stand in a list from a position on, before another
pub record Stood (out : List ℕ) (from : ℕ) (ws : List ℕ) (to : ℕ) : Type 0 where
  pub inside : from + length ws ≤ to
  pub same : (k : ℕ) → k < length ws → get_or out (from + k) 0 ≡ get_or ws k 0

-- a table by type number: where the varyings of a struct stand in what is written, if they do
pub record Written (types : List TypeInner) (written : List (Option ℕ)) (out : List ℕ) (to : ℕ) : Type 0 where
  pub each : (n from : ℕ) → n < length types → get_or written n None ≡ Some from → Stood out from (words_of (populate types n Unbound)) to

-- a type with what a word says of a variable
abbrev pub bound_var : NumericType → ℕ → InterfaceVar
bound_var ty w = record { ty = ty; interpolation = bits 14 12 w; sampling = bits 17 15 w; per_primitive = eqb (bit 18 w) 1 }

-- no earlier type gives anything
abbrev pub nothing : ℕ → Binding → List Varying
nothing n binding = []
