-- The choice of an entry point (document 01, 'Names' and refusals 10 to 12).
use Rattle.std.specs.Prelude.{ℕ, ◌+◌, Bool, List, [], ◌∷◌, eqb, ltb, Option, Some, None, Result, Ok, Err}
use Rattle.word.specs.Choice.{pick}
use Rattle.word.specs.Numbers as Number
use Rattle.word.specs.Answers.{refused}
use Rattle.word.specs.Refusals.{refusal, refusal_answer, answer_with}
use Rattle.word.specs.declared.answer.Answer.{Answer}
use Rattle.word.specs.declared.refusal.Number.TheVariants.{EntryNone, EntrySeveral}
use Rattle.word.specs.declared.refusal.Refusal.{Refusal}
use Rattle.interface.specs.Meaning.{EntryPoint}
use Rattle.interface.specs.Format.{Decoded, Damaged, Malformed, Pack, decode, decoded_number, interface_of, stage_at, stage_code, named}
use Rattle.interface.specs.declared.types.ShaderStage.{ShaderStage}
use Rattle.entry_points.specs.declared.choose.ChoiceError.{ChoiceError}
use Rattle.entry_points.specs.declared.choose.ChoiceError.TheVariants.{Absent, Several}

-- the entry points of an accepted pack
abbrev pub entries_in : List ℕ → List EntryPoint
entries_in ws = (interface_of (decode ws)).entries

-- the first of a stage and a name, by its position, counted on from a number
unfoldable pub find_from : ShaderStage → List ℕ → List EntryPoint → ℕ → Option ℕ
find_from stage name [] i = None
find_from stage name (e ∷ es) i = let rest = find_from stage name es (i + 1) in pick (named stage name e) (Some i) rest

-- the entry point of a stage and a name, by its position among all entry points
abbrev pub find_entry_point : ShaderStage → List ℕ → List EntryPoint → Option ℕ
find_entry_point stage name es = find_from stage name es 0

-- what a look-up by stage and name answers: 10 where there is none
abbrev pub find_number : Option ℕ → ℕ
find_number (Some i) = 0
find_number None = Number.entry_absent

-- whether an entry point has a stage
abbrev pub of_stage : ShaderStage → EntryPoint → Bool
of_stage stage e = eqb (stage_code e.stage) (stage_code stage)

-- a second one of the stage makes the choice ambiguous
unfoldable pub only_from : ShaderStage → Option ℕ → List EntryPoint → ℕ → Result ℕ ChoiceError
only_from stage None [] i = Err Absent
only_from stage (Some j) [] i = Ok j
only_from stage None (e ∷ es) i = let rest = only_from stage (pick (of_stage stage e) (Some i) None) es (i + 1) in rest
only_from stage (Some j) (e ∷ es) i = let rest = only_from stage (Some j) es (i + 1) in pick (of_stage stage e) (Err Several) rest

-- 'Without a given name the stage must have exactly one entry point'
abbrev pub only_entry_point : ShaderStage → List EntryPoint → Result ℕ ChoiceError
only_entry_point stage es = only_from stage None es 0

-- none is 11 and several 12
abbrev pub choice_refusal : ChoiceError → Refusal
choice_refusal Absent = refusal EntryNone 0 0 0
choice_refusal Several = refusal EntrySeveral 0 0 0

-- 'its position from 0 is the first detail'
abbrev pub only_answer : Result ℕ ChoiceError → Answer
only_answer (Ok i) = answer_with (Ok i)
only_answer (Err e) = refusal_answer (choice_refusal e)

-- 'Choosing a name where none is given: 1, 2, 3, 11, 12'
unfoldable pub finalize_name : Decoded → ℕ → Answer
finalize_name Damaged stage = refused (decoded_number Damaged)
finalize_name Malformed stage = refused (decoded_number Malformed)
finalize_name (Pack i) stage = pick (ltb stage 5) (only_answer (only_entry_point (stage_at stage) i.entries)) (refused Number.bad_call)
