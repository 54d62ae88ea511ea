-- What the program prints (document 01, 'Deliveries': 'A program reads a pack's bytes …').
use Rattle.std.specs.Prelude.{ℕ, ◌%◌, ◌||◌, not, List, [], ◌∷◌, ◌++◌, eqb, ltb, length, replicate, None}
use Rattle.word.specs.Choice.{pick}
use Rattle.word.specs.Numbers as Number
use Rattle.word.specs.Answers.{refused}
use Rattle.layouts.specs.Format.{encode_layout, used_words}
use Rattle.sizes.specs.Format.{encode_sizes}
use Rattle.stage_lists.specs.Format.{encode_stage}
use Rattle.interface.specs.Meaning.{EntryPoint}
use Rattle.interface.specs.Format.{Decoded, Damaged, Malformed, Pack, decode, decoded_number, stage_code}
use Rattle.stage.specs.Meaning.{codes, lent, Call, call, Outcome}
use Rattle.stage.specs.Stage.{check_stage}
use Rattle.report.specs.Text.{words_of, line, hex_lines}

-- 'over one list of 8 groups and 1,024 words'
abbrev pub empty_layout : List ℕ
empty_layout = encode_layout (record { groups = 8; entries = []; room = replicate 1023 0 })

-- 'from an empty one': no primitive index, no payload, no varyings; with room for as many words as a stage can hand on
abbrev pub empty_stage : List ℕ
empty_stage = encode_stage (record { primitive = None; payload = None; varyings = []; room = replicate 126 0 })

-- no sizes are recorded, and there is no room for any: deriving records none
abbrev pub empty_sizes : List ℕ
empty_sizes = encode_sizes (record { records = []; room = [] })

-- the layout list and the stage list as the entry points so far left them, and the text so far
pub record Run : Type 0 where
  pub layout : List ℕ
  pub io : List ℕ
  pub text : List ℕ

-- a run by its parts
abbrev pub ran : List ℕ → List ℕ → List ℕ → Run
ran layout io text = record { layout = layout; io = io; text = text }

-- 'derives each entry point …, triangles, no dual source, depth attached'
abbrev pub stage_call : List ℕ → EntryPoint → List ℕ → List ℕ → Call
stage_call pack e layout io = call pack e.name (codes (stage_code e.stage) 3 1 0 1) (lent layout empty_sizes io empty_stage)

-- what the stage check of one entry point comes to
unfoldable pub derived : List ℕ → EntryPoint → List ℕ → List ℕ → Outcome
derived pack e layout io = check_stage (stage_call pack e layout io)

-- 'feeding each accepted list on'; after a refusal the last accepted one is still fed on
abbrev pub fed_on : Outcome → List ℕ → List ℕ
fed_on o io = pick (eqb o.answer.number 0) o.out io

-- a run with one more outcome: the layout it left, the list that is fed on, and its line
abbrev pub noted : ℕ → Run → Outcome → Run
noted stage r o = ran o.layout (fed_on o r.io) (r.text ++ line stage o.answer)

-- one entry point
abbrev pub run_entry : List ℕ → EntryPoint → Run → Run
run_entry pack e r = noted (stage_code e.stage) r (derived pack e r.layout r.io)

-- 'each entry point in order'
unfoldable pub run_entries : List ℕ → List EntryPoint → Run → Run
run_entries pack [] r = r
run_entries pack (e ∷ es) r = let next = run_entry pack e r in run_entries pack es next

-- before the first entry point
abbrev pub start_run : Run
start_run = ran empty_layout empty_stage []

-- the lines of the stages, then the layout's words
abbrev pub run_text : Run → List ℕ
run_text r = r.text ++ hex_lines (used_words r.layout)

-- 'A pack refused prints stage 9 and no words'
abbrev pub refused_pack : ℕ → List ℕ
refused_pack number = line 9 (refused number)

-- a pack's text, by what its words decode to
abbrev pub decoded_text : List ℕ → Decoded → List ℕ
decoded_text pack Damaged = refused_pack (decoded_number Damaged)
decoded_text pack Malformed = refused_pack (decoded_number Malformed)
decoded_text pack (Pack i) = run_text (run_entries pack i.entries start_run)

-- 'a byte count not divisible by 4 is 1', and so is more than a pack can hold
unfoldable pub report : List ℕ → List ℕ
report bytes =
    pick (not (eqb (length bytes % 4) 0) || ltb 16384 (length bytes)) (refused_pack Number.damaged_pack) (decoded_text (words_of bytes) (decode (words_of bytes)))
