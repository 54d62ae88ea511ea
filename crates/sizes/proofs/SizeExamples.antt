-- What the definitions say of a list of one size, 16 at group 0, binding 1, with a word of free room.
use mathlib.Core.Path.{◌≡◌, refl}
use mathlib.Core.List.{[], ◌∷◌}
use Rattle.places.specs.Records.{count_of, past, records}
use Rattle.sizes.specs.Meaning.{size_record}
use Rattle.sizes.specs.Format.{decode_sizes}

pub one_size : decode_sizes (0xA0000001 ∷ 0x20000001 ∷ 0x30000010 ∷ 9 ∷ []) ≡ record { records = size_record (record { group = 0; binding = 1 }) 16 ∷ []; room = 9 ∷ [] }
unfolding decode_sizes count_of records past
one_size = refl
