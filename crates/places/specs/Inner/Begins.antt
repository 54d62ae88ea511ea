-- How the records of a list begin.
use Rattle.std.specs.Prelude.{Bool, List, ℕ}
use Rattle.word.specs.Words.{word_at}
use Rattle.bindings.specs.Format.{place_well_formed}

-- a record begins with a place's word
abbrev pub place_first : List ℕ → Bool
place_first ws = place_well_formed (word_at ws 0)
