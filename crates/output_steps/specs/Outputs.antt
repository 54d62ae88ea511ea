-- The outputs of an entry point, and the slots between stages (document 01, 'Vertex: places are …', 'Fragment: …'; WebGPU, 'validating inter-stage interfaces').
use Rattle.std.specs.Prelude.{ℕ, ◌+◌, ◌-◌, ◌/◌, Bool, true, false, not, ◌&&◌, ◌||◌, List, [], ◌∷◌, eqb, ltb}
use Rattle.word.specs.Choice.{pick, yes}
use Rattle.word.specs.Numbers as Number
use Rattle.word.specs.Answers.{answer, accepted, refused, both}
use Rattle.word.specs.declared.answer.Answer.{Answer}
use Rattle.interface.specs.Meaning.{EntryPoint}
use Rattle.interface.specs.declared.types.ShaderStage.{ShaderStage}
use Rattle.interface.specs.declared.types.ShaderStage.TheVariants as Stage
use Rattle.interface.specs.declared.types.BuiltIn.TheVariants as In
use Rattle.interface.specs.declared.types.Varying.{Varying}
use Rattle.interface.specs.declared.types.Varying.TheVariants as Var
use Rattle.interface.specs.declared.types.Limits.{Limits}
use Rattle.output_steps.specs.declared.types.Request.{Request}

-- ---- outputs and slots

abbrev pub clip_part : Varying → ℕ
clip_part (Var.Local location iv) = 0
clip_part (Var.BuiltIn (In.Other slots)) = 0
clip_part (Var.BuiltIn (In.PrimitiveIndex slots)) = 0
clip_part (Var.BuiltIn (In.DrawIndex slots)) = 0
clip_part (Var.BuiltIn (In.FragDepth slots)) = 0
clip_part (Var.BuiltIn (In.ClipDistances size)) = (size + 3) / 4

-- 'clip size over 4 rounded up'
unfoldable pub clip_slot_count : List Varying → ℕ
clip_slot_count [] = 0
clip_slot_count (v ∷ vs) = clip_part v + clip_slot_count vs

abbrev pub built_in_part : Varying → ℕ
built_in_part (Var.Local location iv) = 0
built_in_part (Var.BuiltIn (In.Other slots)) = slots
built_in_part (Var.BuiltIn (In.PrimitiveIndex slots)) = slots
built_in_part (Var.BuiltIn (In.DrawIndex slots)) = slots
built_in_part (Var.BuiltIn (In.FragDepth slots)) = slots
built_in_part (Var.BuiltIn (In.ClipDistances size)) = 0

-- 'each built-in input's slots'
unfoldable pub built_in_slot_count : List Varying → ℕ
built_in_slot_count [] = 0
built_in_slot_count (v ∷ vs) = built_in_part v + built_in_slot_count vs

abbrev pub is_local : Varying → ℕ
is_local (Var.Local location iv) = 1
is_local (Var.BuiltIn b) = 0

unfoldable pub local_count : List Varying → ℕ
local_count [] = 0
local_count (v ∷ vs) = is_local v + local_count vs

abbrev pub location_use : ℕ → ℕ → ℕ → Varying → Answer
location_use number past limit (Var.Local location iv) = pick (ltb location past) accepted (answer number location limit 0)
location_use number past limit (Var.BuiltIn b) = accepted

-- the first local variable at or past a location is refused; the limit shown is the undeducted one
unfoldable pub location_uses : ℕ → ℕ → ℕ → List Varying → Answer
location_uses number past limit [] = accepted
location_uses number past limit (v ∷ vs) = let rest = location_uses number past limit vs in both (location_use number past limit v) rest

abbrev pub count_use : ℕ → ℕ → ℕ → ℕ → Answer
count_use number count slots limit = pick (ltb slots count) (answer number count limit 0) accepted

-- 'less 1 for a point list'
abbrev pub point_part : ℕ → ℕ
point_part topology = pick (eqb topology 0) 1 0

-- 'Vertex: places are the inter-stage limit, less 1 for a point list, less clip size over 4 rounded up; the highest location is the limit
-- less 1 less the clip part. Any of these below zero is 65, before outputs are looked at. Then 60, 61'
unfoldable pub vertex_outputs : ℕ → ℕ → List Varying → Answer
vertex_outputs topology limit outputs =
    pick (ltb limit (point_part topology + clip_slot_count outputs) || ltb limit (1 + clip_slot_count outputs)) (refused Number.slots_used_up)
    (both (location_uses Number.vertex_location (limit - clip_slot_count outputs) limit outputs)
    (count_use Number.vertex_count (local_count outputs) (limit - (point_part topology + clip_slot_count outputs)) limit))

abbrev pub is_depth : Varying → Bool
is_depth (Var.Local location iv) = false
is_depth (Var.BuiltIn (In.Other slots)) = false
is_depth (Var.BuiltIn (In.PrimitiveIndex slots)) = false
is_depth (Var.BuiltIn (In.DrawIndex slots)) = false
is_depth (Var.BuiltIn (In.FragDepth slots)) = true
is_depth (Var.BuiltIn (In.ClipDistances size)) = false

abbrev pub is_primitive : Varying → Bool
is_primitive (Var.Local location iv) = false
is_primitive (Var.BuiltIn (In.Other slots)) = false
is_primitive (Var.BuiltIn (In.PrimitiveIndex slots)) = true
is_primitive (Var.BuiltIn (In.DrawIndex slots)) = false
is_primitive (Var.BuiltIn (In.FragDepth slots)) = false
is_primitive (Var.BuiltIn (In.ClipDistances size)) = false

unfoldable pub any_of : (Varying → Bool) → List Varying → Bool
any_of test [] = false
any_of test (v ∷ vs) = let rest = any_of test vs in pick (test v) true rest

-- 66 'dual source; depth attachment' 67
unfoldable pub attachment_use : Bool → Bool → Bool → List Varying → Answer
attachment_use dual depth shader outputs =
    pick (yes dual && not shader) (refused Number.dual_source) (pick (any_of is_depth outputs && not depth) (refused Number.depth_attachment) accepted)

-- 'Fragment: the limit less each built-in input's slots … 65. Then 62, 63, 64, 66, 67'
unfoldable pub fragment_slots : ℕ → ℕ → List Varying → Answer
fragment_slots limit locals inputs =
    pick (ltb limit (built_in_slot_count inputs)) (refused Number.slots_used_up)
    (both (location_uses Number.fragment_location limit limit inputs) (count_use Number.fragment_count locals (limit - built_in_slot_count inputs) limit))

unfoldable pub fragment_outputs : Request → Limits → EntryPoint → ℕ → Answer
fragment_outputs q l e locals =
    both (fragment_slots l.max_inter_stage_shader_variables locals e.inputs)
    (both (location_uses Number.colour_location l.max_color_attachments l.max_color_attachments e.outputs)
    (attachment_use q.dual_source q.depth e.dual e.outputs))

-- what a stage puts out, or a fragment stage takes in, against the slots that there are
unfoldable pub slots_step : ShaderStage → Request → Limits → EntryPoint → ℕ → Answer
slots_step Stage.Vertex q l e locals = vertex_outputs q.topology l.max_inter_stage_shader_variables e.outputs
slots_step Stage.Fragment q l e locals = fragment_outputs q l e locals
slots_step Stage.Compute q l e locals = accepted
slots_step Stage.Task q l e locals = accepted
slots_step Stage.Mesh q l e locals = accepted
