-- One stage check, whole: 'A stage: 1, 2, 3, 10, 4; then, first failure ending it'.
use Rattle.std.specs.Prelude.{ℕ, ◌+◌, ◌*◌, Bool, ◌&&◌, List, eqb, ltb, length, Option, Some, None}
use Rattle.word.specs.Choice.{pick, yes}
use Rattle.word.specs.Numbers as Number
use Rattle.word.specs.Answers.{accepted, refused, both}
use Rattle.word.specs.declared.answer.Answer.{Answer}
use Rattle.bindings.specs.declared.types.Resource.{Resource}
use Rattle.layouts.specs.Meaning.{Layout}
use Rattle.sizes.specs.Meaning.{Sizes}
use Rattle.stage_lists.specs.Meaning.{StageIo}
use Rattle.layouts.specs.Format.{layout_well_formed, decode_layout, encode_layout}
use Rattle.sizes.specs.Format.{sizes_well_formed, decode_sizes, encode_sizes}
use Rattle.stage_lists.specs.Format.{stage_well_formed, decode_stage, encode_stage}
use Rattle.interface.specs.Meaning.{EntryPoint, Interface, entry_point_nth}
use Rattle.interface.specs.Format.{Decoded, Damaged, Malformed, Pack, decode, decoded_number, stage_at}
use Rattle.entry_points.specs.Rules.{find_entry_point, find_number}
use Rattle.interface.specs.declared.types.ShaderStage.{ShaderStage}
use Rattle.interface.specs.declared.types.Limits.{Limits}
use Rattle.input_steps.specs.Workgroup.{workgroup_step}
use Rattle.input_steps.specs.Inputs.{Walked, input_steps, start_walk}
use Rattle.output_steps.specs.Outputs.{slots_step, local_count}
use Rattle.last_steps.specs.Last.{last_step}
use Rattle.output_steps.specs.ListOut.{stage_out}
use Rattle.output_steps.specs.declared.types.Request.{Request}
use Rattle.input_steps.specs.declared.types.InputWalk.{InputWalk}
use Rattle.stage.specs.Meaning.{Lent, Call, Outcome, outcome, and_then}
use Rattle.resource_steps.specs.Meaning.{State, state}
use Rattle.resource_steps.specs.Resources.{resource_steps, pair_uses}
use Rattle.stage.specs.declared.types.Codes.{Codes}

-- ---- the steps behind the resources: they alter no list

-- 'Provided only: each pair in pack order'
abbrev pub pair_step : Bool → List Resource → EntryPoint → Layout → Answer
pair_step derived resources e L = pick (yes derived) accepted (pair_uses L resources e.pairs)

abbrev pub input_walk : Request → EntryPoint → StageIo → Walked
input_walk q e inputs = input_steps q.stage inputs.varyings e.inputs start_walk

-- outputs, slots and what is left, once the inputs passed
unfoldable pub behind_inputs : Request → Limits → EntryPoint → StageIo → InputWalk → Answer
behind_inputs q l e inputs w = both (slots_step q.stage q l e w.locals) (last_step q l e inputs w)

-- the workgroup size, the inputs and what follows them: neither the mode nor the layout is looked at
abbrev pub behind_pairs : Request → Interface → EntryPoint → StageIo → Answer
behind_pairs q i e inputs =
    both (workgroup_step q.stage e.workgroup i.limits)
    (both (input_walk q e inputs).answer (behind_inputs q i.limits e inputs (input_walk q e inputs).walk))

unfoldable pub judgement : Bool → Request → Interface → EntryPoint → StageIo → Layout → Answer
judgement derived q i e inputs L = both (pair_step derived i.resources e L) (behind_pairs q i e inputs)

-- ---- the body of a stage check, over the meaning

-- all steps in order, 'nothing is undone'
unfoldable pub stage_body : Bool → Request → Interface → EntryPoint → StageIo → Layout → Sizes → State
stage_body derived q i e inputs L S =
    and_then (resource_steps q.stage derived i.resources e.pairs e.resources L S) λ L S.
    state (judgement derived q i e inputs L) L S

-- ---- the call

-- 'any lent list bad'; the list out may hold anything
unfoldable pub lists_good : List ℕ → List ℕ → List ℕ → Bool
lists_good layout sizes inputs = layout_well_formed layout && (sizes_well_formed sizes && stage_well_formed inputs)

-- 'or the call's stage, topology, mode or flag'
abbrev pub codes_good : Codes → Bool
codes_good c = ltb c.stage 5 && (ltb c.topology 6 && (ltb c.mode 2 && (ltb c.dual_source 2 && ltb c.depth 2)))

unfoldable pub call_good : Lent → Codes → Bool
call_good t c = lists_good t.layout t.sizes t.inputs && codes_good c

-- what good codes ask for, but for the mode
abbrev pub request_of : Codes → Request
request_of c = record { stage = stage_at c.stage; topology = c.topology; dual_source = eqb c.dual_source 1; depth = eqb c.depth 1 }

-- 'mode 0 provided or 1 derived'
abbrev pub derived_of : Codes → Bool
derived_of c = eqb c.mode 1

-- a refusal that changes no lent list
abbrev pub unchanged : Lent → ℕ → Outcome
unchanged t number = outcome (refused number) t.layout t.sizes t.out

-- the words that the list out takes, which 4 asks for
abbrev pub out_words : EntryPoint → ℕ
out_words e = 2 + 2 * local_count e.outputs

-- 'on 0 the list out is written from its start and its free room kept'
abbrev pub handed_out : Answer → ShaderStage → EntryPoint → InputWalk → List ℕ → List ℕ
handed_out a stage e w out = pick (eqb a.number 0) (encode_stage (stage_out stage e w out)) out

-- what a body came to, as the words of the lists
unfoldable pub finish : Request → Lent → EntryPoint → InputWalk → State → Outcome
finish q t e w x =
    outcome x.answer (encode_layout x.layout) (encode_sizes x.sizes)
    (handed_out x.answer q.stage e w t.out)

unfoldable pub run_body : Bool → Request → Lent → Interface → EntryPoint → Outcome
run_body derived q t i e =
    finish q t e (input_walk q e (decode_stage t.inputs)).walk
    (stage_body derived q i e (decode_stage t.inputs) (decode_layout t.layout) (decode_sizes t.sizes))

-- 4, then the steps
abbrev pub on_entry_point : Bool → Request → Lent → Interface → EntryPoint → Outcome
on_entry_point derived q t i e = pick (ltb (length t.out) (out_words e)) (unchanged t Number.short_out) (run_body derived q t i e)

abbrev pub on_chosen : Bool → Request → Lent → Interface → Option ℕ → Outcome
on_chosen derived q t i (Some position) = on_entry_point derived q t i (entry_point_nth i.entries position)
on_chosen derived q t i None = unchanged t (find_number None)

-- the entry point of the call's stage and name
abbrev pub on_named : Call → Interface → Outcome
on_named c i =
    on_chosen (derived_of c.codes) (request_of c.codes) c.lent i (find_entry_point (request_of c.codes).stage c.name i.entries)

abbrev pub on_decoded : Call → Decoded → Outcome
on_decoded c Damaged = unchanged c.lent (decoded_number Damaged)
on_decoded c Malformed = unchanged c.lent (decoded_number Malformed)
on_decoded c (Pack i) = pick (call_good c.lent c.codes) (on_named c i) (unchanged c.lent Number.bad_call)

-- the stage check
unfoldable pub check_stage : Call → Outcome
check_stage c = on_decoded c (decode c.pack)
