-- Places: the position of one among others, and the place in the first word of a record.
use Rattle.std.specs.Prelude.{ℕ, ◌+◌, Bool, true, false, ◌&&◌, List, [], ◌∷◌, eqb, ltb, Option, Some, None}
use Rattle.word.specs.Choice.{pick}
use Rattle.bindings.specs.declared.types.ResourceBinding.{ResourceBinding}
use Rattle.word.specs.Words.{word_at}
use Rattle.bindings.specs.Format.{place_of}
use Rattle.places.specs.Records.{records}

-- a place is a group and a binding
abbrev pub same_place : ResourceBinding → ResourceBinding → Bool
same_place a b = eqb a.group b.group && eqb a.binding b.binding

-- the position of a place, counted on from a number
unfoldable pub place_from : ResourceBinding → List ResourceBinding → ℕ → Option ℕ
place_from place [] i = None
place_from place (p ∷ ps) i = let rest = place_from place ps (i + 1) in pick (same_place p place) (Some i) rest

-- a place is among others
unfoldable pub place_in : ResourceBinding → List ResourceBinding → Bool
place_in place [] = false
place_in place (p ∷ ps) = let rest = place_in place ps in pick (same_place p place) true rest

-- 'Places differ', 'places distinct'
unfoldable pub distinct_places : List ResourceBinding → Bool
distinct_places [] = true
distinct_places (p ∷ ps) = let rest = distinct_places ps in pick (place_in p ps) false rest

-- a position that was found is below a count
abbrev pub found_below : ℕ → Option ℕ → Bool
found_below n (Some i) = ltb i n
found_below n None = true

-- a record's place stands in its first word
abbrev pub read_place : List ℕ → ResourceBinding
read_place ws = place_of (word_at ws 0)

-- the places of as many records of a width
abbrev pub places : ℕ → ℕ → List ℕ → List ResourceBinding
places width n ws = records width read_place n ws
