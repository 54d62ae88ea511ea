-- How words carry a layout (document 01, 'Layout list': 'kind 17 (groups 0–8 in 26–16, entries 15–0), then per entry four words').
use Rattle.std.specs.Prelude.{ℕ, ◌+◌, ◌^◌, ◌*◌, Bool, ◌&&◌, List, ◌∷◌, ◌++◌, eqb, leb, ltb, length, drop, take}
use Rattle.bindings.specs.declared.types.BindGroupLayoutEntry.{BindGroupLayoutEntry}
use Rattle.word.specs.Words.{word_at, kind_of, bits, of_kind}
use Rattle.bindings.specs.Format.{entry_well_formed_at, entry_at, entry_words, entry_encodable, entry_width}
use Rattle.places.specs.Records.{short_enough, count_of, past, records, each, most_list_words}
use Rattle.word.specs.Lists.{every, flat}
use Rattle.places.specs.Places.{read_place}
use Rattle.layouts.specs.Meaning.{Layout, distinct_entries}

-- 'groups 0–8 in 26–16'
unfoldable pub groups_of : List ℕ → ℕ
groups_of ws = bits 26 16 (word_at ws 0)

-- 'per entry four words'
abbrev pub read_entry : List ℕ → BindGroupLayoutEntry
read_entry ws = entry_at ws 0

-- 'group is below the group count'
abbrev pub entry_good : ℕ → List ℕ → Bool
entry_good groups ws = entry_well_formed_at ws 0 && ltb (read_place ws).group groups

-- as many entries
abbrev pub read_entries : ℕ → List ℕ → List BindGroupLayoutEntry
read_entries n ws = records entry_width read_entry n ws

-- the head: its kind, 'groups 0–8', and as many entries as it counts within the words
unfoldable pub layout_head : List ℕ → Bool
layout_head ws = eqb (kind_of (word_at ws 0)) 17 && (leb (groups_of ws) 8 && leb (1 + entry_width * count_of ws) (length ws))

-- words are a layout list: well formed is document 01's own term, 'meeting the format above'
unfoldable pub layout_well_formed : List ℕ → Bool
layout_well_formed ws =
    short_enough ws && (layout_head ws
    && (each entry_width (entry_good (groups_of ws)) (count_of ws) (drop 1 ws) && distinct_entries (read_entries (count_of ws) (drop 1 ws))))

-- the layout that words carry, free room behind its entries
unfoldable pub decode_layout : List ℕ → Layout
decode_layout ws =
    record { groups = groups_of ws; entries = read_entries (count_of ws) (drop 1 ws); room = past entry_width (count_of ws) (drop 1 ws) }

-- the words that carry a layout
unfoldable pub encode_layout : Layout → List ℕ
encode_layout L = of_kind 17 (2 ^ 16 * L.groups + length L.entries) ∷ (flat entry_words L.entries ++ L.room)

-- what a layout list can hold of an entry: the same rules, over its meaning
abbrev pub entry_fits : ℕ → BindGroupLayoutEntry → Bool
entry_fits groups e = entry_encodable e && ltb e.bind.group groups

-- and of the layout as a whole
unfoldable pub layout_good : Layout → Bool
layout_good L =
    leb (1 + entry_width * length L.entries + length L.room) most_list_words
    && (leb L.groups 8 && (every (entry_fits L.groups) L.entries && distinct_entries L.entries))

-- the words that are in use: the head and the entries
abbrev pub used_words : List ℕ → List ℕ
used_words ws = take (1 + entry_width * count_of ws) ws
