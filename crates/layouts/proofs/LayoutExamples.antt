-- What the definitions say of document 01's listing: 8 groups, and a uniform buffer of least size 64 at group 0, binding 3, seen by the vertex stage.
use Prim.Native.Nat.{ℕ}
use mathlib.Core.Path.{◌≡◌, refl}
use mathlib.Core.Bool.{true}
use mathlib.Core.List.{List, [], ◌∷◌}
use Rattle.word.specs.Choice.{yes}
use Rattle.bindings.specs.Format.{binding_type_well_formed, binding_type_of, entry_well_formed, entry_of, entry_words, binding_code}
use Rattle.places.specs.Records.{count_of, past, records, each}
use Rattle.word.specs.Lists.{flat}
use Rattle.places.specs.Places.{place_in, distinct_places}
use Rattle.layouts.specs.Format.{groups_of, layout_head, layout_well_formed, decode_layout, encode_layout}

abbrev listing : List ℕ
listing = 0x88080001 ∷ 0x20000003 ∷ 0x90000000 ∷ 0x30000040 ∷ 0x98000001 ∷ []

pub listing_well_formed : layout_well_formed listing ≡ true
unfolding layout_well_formed layout_head groups_of count_of each records place_in distinct_places entry_well_formed binding_type_well_formed entry_of binding_type_of yes
listing_well_formed = refl

pub listing_groups : (decode_layout listing).groups ≡ 8
unfolding decode_layout groups_of
listing_groups = refl

pub listing_back : encode_layout (decode_layout listing) ≡ listing
unfolding encode_layout decode_layout groups_of count_of records past flat entry_of entry_words binding_type_of binding_code yes
listing_back = refl
