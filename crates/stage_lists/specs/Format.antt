-- How words carry what passes between stages (document 01, 'Stage list': 'kind 11 (primitive index 26–25: none, false, true; varyings 15–0,
-- at most 63), kind 9, then local varyings by rising location, once each').
use Rattle.std.specs.Prelude.{ℕ, ◌+◌, ◌^◌, ◌*◌, Bool, ◌&&◌, List, ◌∷◌, ◌++◌, eqb, leb, ltb, length, drop, Option, Some, None, true, false}
use Rattle.word.specs.Choice.{pick}
use Rattle.varying.specs.declared.Located.{Located}
use Rattle.word.specs.Words.{word_at, kind_of, bits, of_kind}
use Rattle.varying.specs.Format.{location_well_formed, var_well_formed, var_of, located_of, located_words, located_encodable, payload_well_formed, payload_of, payload_word, payload_encodable}
use Rattle.places.specs.Records.{short_enough, count_of, past, records, each, most_list_words}
use Rattle.word.specs.Lists.{every, flat}
use Rattle.stage_lists.specs.Meaning.{StageIo, rising}
use Rattle.varying.specs.declared.InterfaceVar.{InterfaceVar}

-- 'primitive index 26–25: none, false, true'
abbrev pub primitive_at : ℕ → Option Bool
primitive_at code = pick (eqb code 0) None (pick (eqb code 1) (Some false) (Some true))

-- and the code of each
abbrev pub primitive_code : Option Bool → ℕ
primitive_code None = 0
primitive_code (Some false) = 1
primitive_code (Some true) = 2

-- a variable: a word for its location, and its own
abbrev pub read_located : List ℕ → Located
read_located ws = located_of (word_at ws 0) (word_at ws 1)

-- both words are of their kind
abbrev pub located_good : List ℕ → Bool
located_good ws = location_well_formed (word_at ws 0) && var_well_formed (word_at ws 1)

-- as many variables
abbrev pub read_varyings : ℕ → List ℕ → List Located
read_varyings n ws = records 2 read_located n ws

-- the variable whose word was found at a position
abbrev pub variable_found : List ℕ → Option ℕ → Option InterfaceVar
variable_found ws (Some i) = Some (var_of (word_at ws i))
variable_found ws None = None

-- the head: its kind, a code of the primitive index, its unnamed bits, 'at most 63', the payload, and as many variables within the words
unfoldable pub stage_head : List ℕ → Bool
stage_head ws =
    eqb (kind_of (word_at ws 0)) 11 && (ltb (bits 26 25 (word_at ws 0)) 3 && (eqb (bits 24 16 (word_at ws 0)) 0
    && (leb (count_of ws) 63 && (leb (2 + 2 * count_of ws) (length ws) && payload_well_formed (word_at ws 1)))))

-- 'a list out any number' of words
unfoldable pub out_well_formed : List ℕ → Bool
out_well_formed ws = stage_head ws && (each 2 located_good (count_of ws) (drop 2 ws) && rising (read_varyings (count_of ws) (drop 2 ws)))

-- words are a stage list
abbrev pub stage_well_formed : List ℕ → Bool
stage_well_formed ws = short_enough ws && out_well_formed ws

-- what words carry to the next stage, free room behind its variables
unfoldable pub decode_stage : List ℕ → StageIo
decode_stage ws =
    record {
      primitive = primitive_at (bits 26 25 (word_at ws 0));
      payload = payload_of (word_at ws 1);
      varyings = read_varyings (count_of ws) (drop 2 ws);
      room = past 2 (count_of ws) (drop 2 ws);
    }

-- the words that carry it
unfoldable pub encode_stage : StageIo → List ℕ
encode_stage S =
    of_kind 11 (2 ^ 25 * primitive_code S.primitive + length S.varyings) ∷ payload_word S.payload
    ∷ (flat located_words S.varyings ++ S.room)

-- what a list out can hold: the same rules, over its meaning
unfoldable pub out_good : StageIo → Bool
out_good S =
    leb (length S.varyings) 63 && (payload_encodable S.payload && (every located_encodable S.varyings && rising S.varyings))

-- and a stage list
abbrev pub stage_good : StageIo → Bool
stage_good S = leb (2 + 2 * length S.varyings + length S.room) most_list_words && out_good S
