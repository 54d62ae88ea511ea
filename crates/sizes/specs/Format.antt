-- How words carry sizes (document 01, 'Size list': 'kind 20 (count 15–0), then place and size (at least 1) pairs, places distinct').
use Rattle.std.specs.Prelude.{ℕ, ◌+◌, ◌*◌, Bool, ◌&&◌, not, List, [], ◌∷◌, ◌++◌, eqb, leb, ltb, length, drop}
use Rattle.word.specs.Words.{word_at, kind_of, bits, of_kind}
use Rattle.bindings.specs.Format.{place_well_formed, place_word, place_encodable, size_well_formed, size_limit, size_word, size_standing}
use Rattle.places.specs.Records.{short_enough, count_of, past, records, each, most_list_words}
use Rattle.word.specs.Lists.{every, flat}
use Rattle.places.specs.Places.{read_place}
use Rattle.sizes.specs.Meaning.{Sizes, distinct_sizes, size_record_width}
use Rattle.sizes.specs.declared.size_record.SizeRecord.{SizeRecord}

-- 'place and size'
abbrev pub read_size : List ℕ → SizeRecord
read_size ws = record { bind = read_place ws; size = size_standing ws 1 }

-- 'size (at least 1)'
abbrev pub size_good : List ℕ → Bool
size_good ws = place_well_formed (word_at ws 0) && size_well_formed (word_at ws 1)

-- the words of a record
abbrev pub size_record_words : SizeRecord → List ℕ
size_record_words s = place_word s.bind ∷ size_word s.size ∷ []

-- as many records
abbrev pub read_sizes : ℕ → List ℕ → List SizeRecord
read_sizes n ws = records size_record_width read_size n ws

-- the head: its kind, its unnamed bits, and as many records as it counts within the words
unfoldable pub sizes_head : List ℕ → Bool
sizes_head ws = eqb (kind_of (word_at ws 0)) 20 && (eqb (bits 26 16 (word_at ws 0)) 0 && leb (1 + size_record_width * count_of ws) (length ws))

-- words are a size list: well formed is document 01's own term, 'meeting the format above'
unfoldable pub sizes_well_formed : List ℕ → Bool
sizes_well_formed ws =
    short_enough ws && (sizes_head ws && (each size_record_width size_good (count_of ws) (drop 1 ws) && distinct_sizes (read_sizes (count_of ws) (drop 1 ws))))

-- the sizes that words carry, free room behind them
unfoldable pub decode_sizes : List ℕ → Sizes
decode_sizes ws = record { records = read_sizes (count_of ws) (drop 1 ws); room = past size_record_width (count_of ws) (drop 1 ws) }

-- the words that carry sizes
unfoldable pub encode_sizes : Sizes → List ℕ
encode_sizes S = of_kind 20 (length S.records) ∷ (flat size_record_words S.records ++ S.room)

-- what a size list can hold of a record: the same rules, over its meaning
abbrev pub size_encodable : SizeRecord → Bool
size_encodable s = place_encodable s.bind && (ltb s.size size_limit && not (eqb s.size 0))

-- and of the sizes as a whole
unfoldable pub sizes_good : Sizes → Bool
sizes_good S =
    leb (1 + size_record_width * length S.records + length S.room) most_list_words && (every size_encodable S.records && distinct_sizes S.records)
