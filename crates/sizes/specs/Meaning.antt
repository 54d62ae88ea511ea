-- What a size list is, and what is done to it.
use Rattle.std.specs.Prelude.{ℕ, ◌+◌, ◌*◌, max, Bool, true, List, [], ◌∷◌, ◌++◌, map, leb, length, drop}
use Rattle.word.specs.Choice.{pick}
use Rattle.bindings.specs.declared.types.ResourceBinding.{ResourceBinding}
use Rattle.bindings.specs.Format.{size_width}
use Rattle.places.specs.Records.{room_for}
use Rattle.places.specs.Places.{same_place, place_in, distinct_places}
use Rattle.sizes.specs.declared.size_record.SizeRecord.{SizeRecord}

-- the buffer sizes that shaders ask for, in order, and words of free room, which are the format's: rules ask only how many there are
pub record Sizes : Type 0 where
  pub records : List SizeRecord
  pub room : List ℕ

-- the places of records, in order
abbrev pub size_places : List SizeRecord → List ResourceBinding
size_places ss = map (λ s. s.bind) ss

-- a record is at the place
abbrev pub size_has : ResourceBinding → List SizeRecord → Bool
size_has place ss = place_in place (size_places ss)

-- 'places distinct'
abbrev pub distinct_sizes : List SizeRecord → Bool
distinct_sizes ss = distinct_places (size_places ss)

-- the size recorded at a place, 0 where there is none
unfoldable pub size_recorded : ResourceBinding → List SizeRecord → ℕ
size_recorded place [] = 0
size_recorded place (s ∷ ss) = let rest = size_recorded place ss in pick (same_place s.bind place) s.size rest

-- the record at a place raised to the larger size
unfoldable pub raise_at : ResourceBinding → ℕ → List SizeRecord → List SizeRecord
raise_at place size [] = []
raise_at place size (s ∷ ss) =
    let rest = raise_at place size ss in
    pick (same_place s.bind place) (record { bind = s.bind; size = max s.size size } ∷ ss) (s ∷ rest)

-- a record is a place and a size
abbrev pub size_record_width : ℕ
size_record_width = 1 + size_width

-- there is room for as many new records
abbrev pub room_for_sizes : ℕ → Sizes → Bool
room_for_sizes n S = leb (size_record_width * n) (length S.room)

-- a size at a place
abbrev pub size_record : ResourceBinding → ℕ → SizeRecord
size_record place size = record { bind = place; size = size }

-- 'record a buffer's larger size (5)': whether there is room for what has to be recorded
abbrev pub size_fits : ResourceBinding → Sizes → Bool
size_fits place S = pick (size_has place S.records) true (room_for size_record_width S.room)

-- the list with a size recorded: raised where the place has a record, else a new one where there is room
unfoldable pub recorded : ResourceBinding → ℕ → Sizes → Sizes
recorded place size S =
    pick (size_has place S.records) (record { records = raise_at place size S.records; room = S.room })
    (pick (room_for size_record_width S.room) (record { records = S.records ++ (size_record place size ∷ []); room = drop size_record_width S.room }) S)
