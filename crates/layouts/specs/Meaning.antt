-- What a layout list is, and what is done to it.
use Rattle.std.specs.Prelude.{ℕ, zero, suc, ◌+◌, ◌/◌, ◌%◌, ◌^◌, Bool, List, [], ◌∷◌, ◌++◌, map, eqb, drop, Option}
use Rattle.word.specs.Choice.{pick}
use Rattle.bindings.specs.declared.types.ResourceBinding.{ResourceBinding}
use Rattle.bindings.specs.declared.types.BindingType.TheVariants as Bind
use Rattle.bindings.specs.declared.types.BindGroupLayoutEntry.{BindGroupLayoutEntry}
use Rattle.bindings.specs.Format.{entry_width}
use Rattle.places.specs.Records.{room_for}
use Rattle.places.specs.Places.{place_from, place_in, distinct_places}

-- a layout: how many groups it has, its entries in order, and words of free room, which are the format's: rules ask only how many there are
pub record Layout : Type 0 where
  pub groups : ℕ
  pub entries : List BindGroupLayoutEntry
  pub room : List ℕ

-- the places of entries, in order
abbrev pub entry_places : List BindGroupLayoutEntry → List ResourceBinding
entry_places es = map (λ e. e.bind) es

-- the position of the entry at a place
abbrev pub find_entry : ResourceBinding → Layout → Option ℕ
find_entry place L = place_from place (entry_places L.entries) 0

-- an entry is at the place
abbrev pub entry_has : ResourceBinding → List BindGroupLayoutEntry → Bool
entry_has place es = place_in place (entry_places es)

-- 'Places differ'
abbrev pub distinct_entries : List BindGroupLayoutEntry → Bool
distinct_entries es = distinct_places (entry_places es)

-- what stands past the last entry: one that serves nothing
abbrev pub empty_entry : BindGroupLayoutEntry
empty_entry = record { bind = record { group = 0; binding = 0 }; ty = Bind.ExternalTexture; visibility = 0 }

-- the entry at a position
unfoldable pub entry_nth : List BindGroupLayoutEntry → ℕ → BindGroupLayoutEntry
entry_nth [] i = empty_entry
entry_nth (e ∷ es) zero = e
entry_nth (e ∷ es) (suc i) = entry_nth es i

-- a layout has room for one more entry
abbrev pub room_for_entry : Layout → Bool
room_for_entry L = room_for entry_width L.room

-- 'New entries go last'; they take words of the free room
unfoldable pub pushed : Layout → BindGroupLayoutEntry → Layout
pushed L e = record { groups = L.groups; entries = L.entries ++ (e ∷ []); room = drop entry_width L.room }

-- 'bit s for stage s'
abbrev pub sees_bit : ℕ → ℕ → Bool
sees_bit stage visibility = eqb (visibility / 2 ^ stage % 2) 1

-- a stage's bit joined to a visibility; the other bits stay
abbrev pub join_bit : ℕ → ℕ → ℕ
join_bit stage visibility = pick (eqb (visibility / 2 ^ stage % 2) 0) (visibility + 2 ^ stage) visibility

-- an entry with a stage joined to its visibility
abbrev pub seen_by : ℕ → BindGroupLayoutEntry → BindGroupLayoutEntry
seen_by stage e = record { bind = e.bind; ty = e.ty; visibility = join_bit stage e.visibility }

-- the same among entries, at a position
unfoldable pub join_at : ℕ → List BindGroupLayoutEntry → ℕ → List BindGroupLayoutEntry
join_at stage [] i = []
join_at stage (e ∷ es) zero = seen_by stage e ∷ es
join_at stage (e ∷ es) (suc i) = e ∷ join_at stage es i

-- a stage's bit joined to the visibility of the entry at a position
unfoldable pub joined : ℕ → Layout → ℕ → Layout
joined stage L i = record { groups = L.groups; entries = join_at stage L.entries i; room = L.room }
