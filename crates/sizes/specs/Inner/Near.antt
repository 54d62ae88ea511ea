-- The position that is noted when a size is recorded.
use Rattle.std.specs.Prelude.{ℕ, ◌+◌, Option, Some, None}
use Rattle.bindings.specs.declared.types.ResourceBinding.{ResourceBinding}
use Rattle.places.specs.Places.{place_from}
use Rattle.sizes.specs.Meaning.{Sizes, size_places}

-- the position of the record at a place
abbrev pub find_size : ResourceBinding → Sizes → Option ℕ
find_size place S = place_from place (size_places S.records) 0

-- the position behind a record that was found is noted; otherwise the note stays
abbrev pub note_next : Option ℕ → ℕ → ℕ
note_next (Some i) next = i + 1
note_next None next = next
