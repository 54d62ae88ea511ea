-- Which numbers the steps behind the resources answer.
use Rattle.std.proofs.Common.{Option, Some, None, false}
use Prim.Native.Nat.{ℕ, ◌+◌, ◌-◌, ◌*◌}
use mathlib.Core.Path.{◌≡◌, refl}
use mathlib.Core.Bool.{Bool, true, not, ◌||◌, ◌&&◌}
use mathlib.Core.List.{List, [], ◌∷◌}
use lib.Dec.{eqb, ltb}
use borrow.Author.Tests.{eqb-false}
use Rattle.word.proofs.Truth.{by_test}
use Rattle.word.specs.Choice.{pick, yes}
use Rattle.word.specs.Answers.{answer, accepted, refused, both}
use Rattle.word.specs.declared.answer.Answer.{Answer}
use Rattle.word.specs.Lists.{among}
use Rattle.numeric.specs.Types.{kind_code, fits as fits_type}
use Rattle.bindings.specs.Rules.{same_bool}
use Rattle.bindings.specs.Format.{place_word}
use Rattle.bindings.specs.declared.types.Resource.{Resource}
use Rattle.bindings.specs.declared.types.BindingType.{BindingType}
use Rattle.bindings.specs.declared.types.BindingType.TheVariants as Bind
use Rattle.bindings.specs.declared.types.TextureSampleType.{TextureSampleType}
use Rattle.bindings.specs.declared.types.TextureSampleType.TheVariants as Sample
use Rattle.varying.specs.Rules.{same_payload, payload_present}
use Rattle.varying.specs.declared.InterfaceVar.{InterfaceVar}
use Rattle.varying.specs.declared.Located.{Located}
use Rattle.layouts.specs.Meaning.{Layout}
use Rattle.stage_lists.specs.Meaning.{StageIo, varying_at}
use Rattle.interface.specs.Meaning.{EntryPoint, Interface}
use Rattle.interface.specs.Format.{topology_code}
use Rattle.interface.specs.declared.types.ShaderStage.{ShaderStage}
use Rattle.interface.specs.declared.types.ShaderStage.TheVariants as Stage
use Rattle.interface.specs.declared.types.SamplingPair.{SamplingPair}
use Rattle.interface.specs.declared.types.Varying.{Varying}
use Rattle.interface.specs.declared.types.Varying.TheVariants as Var
use Rattle.interface.specs.declared.types.WorkgroupSize.{WorkgroupSize}
use Rattle.interface.specs.declared.types.Limits.{Limits}
use Rattle.output_steps.specs.declared.types.Request.{Request}
use Rattle.input_steps.specs.Workgroup.{workgroup_use, workgroup_step}
use Rattle.input_steps.specs.Inputs.{vertex_input, fragment_input, input_number, local_step, input_step, input_steps, met_built_in}
use Rattle.output_steps.specs.Outputs.{location_use, location_uses, count_use, clip_slot_count, point_part, local_count, built_in_slot_count, any_of, is_depth, vertex_outputs, attachment_use, fragment_slots, fragment_outputs, slots_step}
use Rattle.last_steps.specs.Last.{value_use, mesh_use, payload_use, payload_match, primitive_use, draw_use, per_vertex_use, last_step}
use Rattle.input_steps.specs.declared.types.InputWalk.{InputWalk}
use Rattle.input_steps.specs.Inputs.{Walked}
use Rattle.resource_steps.specs.Resources.{resource_nth}
use Rattle.resource_steps.specs.Resources.{sample_number, filtering, pair_number, pair_use, pair_uses, type_at}
use Rattle.stage.specs.Stage.{pair_step, input_walk, behind_inputs, judgement}
use Rattle.refusals.specs.Table.{judgement_numbers}
use Rattle.refusals.proofs.Known.{NumberOf, none, one, AnswerOf, passes, fails, either, numbered, not_none, step_both}
use Rattle.interface.specs.declared.types.EntryPointMeshInfo.{EntryPointMeshInfo}

abbrev Known : ℕ → Type 0
Known n = NumberOf judgement_numbers n

abbrev Refusal : ℕ → Type 0
Refusal n = among judgement_numbers n ≡ true

abbrev Step : Answer → Type 0
Step a = AnswerOf judgement_numbers a

both_known : (a b : Answer) → Step a → Step b → Step (both a b)
both_known a b p q = step_both judgement_numbers a b p q

-- ---- pairs

sample_known : (s : TextureSampleType) → Known (sample_number s)
unfolding among
sample_known (Sample.Float f) = either Known (yes f) 0 32 (none refl) (one refl)
sample_known Sample.Depth = (none refl)
sample_known Sample.Sint = one refl
sample_known Sample.Uint = one refl

pair_known : (t s : BindingType) → Known (pair_number t s)
unfolding pair_number among
pair_known (Bind.Texture sample view multi) s = either Known (filtering s) _ _ (sample_known sample) (none refl)
pair_known Bind.ExternalTexture s = (none refl)
pair_known (Bind.Buffer ty d l) s = one refl
pair_known (Bind.Sampler ty) s = one refl
pair_known (Bind.StorageTexture a f v) s = one refl
pair_known (Bind.AccelerationStructure r) s = one refl

pairs_known : (L : Layout) (rs : List Resource) (ps : List SamplingPair) → Step (pair_uses L rs ps)
unfolding pair_uses pair_use
pairs_known L rs [] = passes refl
pairs_known L rs (p ∷ ps) =
    let t = (resource_nth rs p.texture).bind in
    let s = (resource_nth rs p.sampler).bind in
    both_known (pair_use L rs p) (pair_uses L rs ps)
    (numbered judgement_numbers (pair_number (type_at L t) (type_at L s)) (place_word t) (place_word s) 0 (pair_known (type_at L t) (type_at L s)))
    (pairs_known L rs ps)

-- ---- workgroup size and inputs

size_known : (w : WorkgroupSize) (x y z t : ℕ) → Step (workgroup_use w x y z t)
unfolding workgroup_use among
size_known w x y z t =
    either Step (ltb x w.x || (ltb y w.y || (ltb z w.z || ltb t (w.x * w.y * w.z)))) (answer 40 w.x w.y w.z) _ (fails refl)
    (either Step (eqb (w.x * w.y * w.z) 0) (answer 41 w.x w.y w.z) accepted (fails refl) (passes refl))

workgroup_known : (stage : ShaderStage) (w : WorkgroupSize) (l : Limits) → Step (workgroup_step stage w l)
unfolding workgroup_step
workgroup_known Stage.Vertex w l = passes refl
workgroup_known Stage.Fragment w l = passes refl
workgroup_known Stage.Compute w l = size_known w _ _ _ _
workgroup_known Stage.Task w l = size_known w _ _ _ _
workgroup_known Stage.Mesh w l = size_known w _ _ _ _

input_known : (stage : ShaderStage) (iv : InterfaceVar) (p : Option InterfaceVar) → Known (input_number stage iv p)
unfolding input_number vertex_input fragment_input among
input_known Stage.Vertex iv None = one refl
input_known Stage.Fragment iv None = one refl
input_known Stage.Compute iv None = one refl
input_known Stage.Task iv None = one refl
input_known Stage.Mesh iv None = one refl
input_known Stage.Vertex iv (Some p) =
    either Known (eqb (kind_code iv.ty.scalar.kind) (kind_code p.ty.scalar.kind)) (pick (yes iv.per_primitive) 54 0) 51
    (either Known (yes iv.per_primitive) 54 0 (one refl) (none refl)) (one refl)
input_known Stage.Fragment iv (Some p) =
    either Known (eqb iv.interpolation p.interpolation) _ 52
    (either Known (eqb iv.sampling p.sampling) _ 53
    (either Known (fits_type iv.ty p.ty) _ 51
    (either Known (same_bool iv.per_primitive p.per_primitive) 0 54 (none refl) (one refl))
    (one refl))
    (one refl))
    (one refl)
input_known Stage.Compute iv (Some p) = one refl
input_known Stage.Task iv (Some p) = one refl
input_known Stage.Mesh iv (Some p) = one refl

abbrev Walks : Walked → Type 0
Walks w = Step w.answer

local_known : (n location : ℕ) (iv : InterfaceVar) (w : InputWalk) → Known n → Walks (local_step n location iv w)
local_known n location iv w k =
    by_test (eqb n 0) (λ t. rw t (passes refl)) (λ f. rw f (fails (not_none judgement_numbers n k (eqb-false n 0 f))))

walk_known : (stage : ShaderStage) (ps : List Located) (vs : List Varying) (w : InputWalk) → Walks (input_steps stage ps vs w)
unfolding input_steps input_step
walk_known stage ps [] w = passes refl
walk_known stage ps (Var.Local location iv ∷ vs) w =
    let n = input_number stage iv (varying_at location ps) in
    let k = input_known stage iv (varying_at location ps) in
    let x = local_step n location iv w in
    either Walks (eqb x.answer.number 0) (input_steps stage ps vs x.walk) x (walk_known stage ps vs x.walk) (local_known n location iv w k)
walk_known stage ps (Var.BuiltIn b ∷ vs) w = walk_known stage ps vs (met_built_in b w)

-- ---- slots and what is judged last

locations_known : (n past limit : ℕ) (vs : List Varying) → Refusal n → Step (location_uses n past limit vs)
unfolding location_uses
locations_known n past limit [] k = passes refl
locations_known n past limit (Var.Local location iv ∷ vs) k =
    both_known (location_use n past limit (Var.Local location iv)) (location_uses n past limit vs) (either Step (ltb location past) accepted (answer n location limit 0) (passes refl) (fails k))
    (locations_known n past limit vs k)
locations_known n past limit (Var.BuiltIn b ∷ vs) k = locations_known n past limit vs k

count_known : (n count slots limit : ℕ) → Refusal n → Step (count_use n count slots limit)
count_known n count slots limit k = either Step (ltb slots count) (answer n count limit 0) accepted (fails k) (passes refl)

slots_known : (stage : ShaderStage) (q : Request) (l : Limits) (e : EntryPoint) (n : ℕ) → Step (slots_step stage q l e n)
unfolding slots_step vertex_outputs fragment_outputs fragment_slots attachment_use among
slots_known Stage.Vertex q l e n =
    let limit = l.max_inter_stage_shader_variables in
    let clip = clip_slot_count e.outputs in
    let point = point_part q.topology in
    either Step (ltb limit (point + clip) || ltb limit (1 + clip)) (refused 65) _ (fails refl)
    (both_known (location_uses 60 (limit - clip) limit e.outputs) (count_use 61 (local_count e.outputs) (limit - (point + clip)) limit)
    (locations_known 60 (limit - clip) limit e.outputs refl)
    (count_known 61 (local_count e.outputs) (limit - (point + clip)) limit refl))
slots_known Stage.Fragment q l e n =
    let limit = l.max_inter_stage_shader_variables in
    let most = l.max_color_attachments in
    let built = built_in_slot_count e.inputs in
    both_known (fragment_slots limit n e.inputs) _
    (either Step (ltb limit built) (refused 65) _ (fails refl)
    (both_known (location_uses 62 limit limit e.inputs) (count_use 63 n (limit - built) limit) (locations_known 62 limit limit e.inputs refl)
    (count_known 63 n (limit - built) limit refl)))
    (both_known (location_uses 64 most most e.outputs) (attachment_use q.dual_source q.depth e.dual e.outputs)
    (locations_known 64 most most e.outputs refl)
    (either Step (yes q.dual_source && not e.dual) (refused 66) _ (fails refl)
    (either Step (any_of is_depth e.outputs && not q.depth) (refused 67) accepted (fails refl) (passes refl))))
slots_known Stage.Compute q l e n = passes refl
slots_known Stage.Task q l e n = passes refl
slots_known Stage.Mesh q l e n = passes refl

value_known : (n value limit : ℕ) → Refusal n → Step (value_use n value limit)
value_known n value limit k = either Step (ltb limit value) (answer n value limit 0) accepted (fails k) (passes refl)

mesh_known : (t : ℕ) (l : Limits) (m : Option EntryPointMeshInfo) → Step (mesh_use t l m)
unfolding mesh_use among
mesh_known t l None = passes refl
mesh_known t l (Some info) =
    both_known (value_use 70 info.max_vertices l.max_mesh_output_vertices) _ (value_known 70 info.max_vertices l.max_mesh_output_vertices refl)
    (both_known (value_use 71 info.max_primitives l.max_mesh_output_primitives) _ (value_known 71 info.max_primitives l.max_mesh_output_primitives refl)
    (either Step (eqb t (topology_code info.primitive_topology)) accepted (refused 72) (passes refl) (fails refl)))

payload_known : (limit : ℕ) (p : Option ℕ) → Step (payload_use limit p)
unfolding among
payload_known limit None = passes refl
payload_known limit (Some b) = value_known 73 b limit refl

match_known : (stage : ShaderStage) (a b : Option ℕ) → Step (payload_match stage a b)
unfolding payload_match among
match_known Stage.Mesh a b = either Step (same_payload a b) accepted (refused 74) (passes refl) (fails refl)
match_known Stage.Vertex a b = passes refl
match_known Stage.Fragment a b = passes refl
match_known Stage.Compute a b = passes refl
match_known Stage.Task a b = passes refl

primitive_known : (stage : ShaderStage) (r : Bool) (p : Option Bool) → Step (primitive_use stage r p)
unfolding primitive_use among
primitive_known Stage.Fragment r None = passes refl
primitive_known Stage.Fragment r (Some false) = either Step (yes r) (refused 75) accepted (fails refl) (passes refl)
primitive_known Stage.Fragment r (Some true) = either Step (yes r) accepted (refused 76) (passes refl) (fails refl)
primitive_known Stage.Vertex r p = passes refl
primitive_known Stage.Compute r p = passes refl
primitive_known Stage.Task r p = passes refl
primitive_known Stage.Mesh r p = passes refl

draw_known : (stage : ShaderStage) (d : Bool) (p : Option ℕ) → Step (draw_use stage d p)
unfolding draw_use among
draw_known Stage.Mesh d p = either Step (yes d && payload_present p) (refused 77) accepted (fails refl) (passes refl)
draw_known Stage.Vertex d p = passes refl
draw_known Stage.Fragment d p = passes refl
draw_known Stage.Compute d p = passes refl
draw_known Stage.Task d p = passes refl

vertex_known : (v : Bool) (t : ℕ) → Step (per_vertex_use v t)
unfolding per_vertex_use among
vertex_known v t = either Step (yes v && not (eqb t 3 || eqb t 4)) (refused 78) accepted (fails refl) (passes refl)

last_known : (q : Request) (l : Limits) (e : EntryPoint) (inputs : StageIo) (w : InputWalk) → Step (last_step q l e inputs w)
unfolding last_step
last_known q l e inputs w =
    both_known _ _ (mesh_known q.topology l e.mesh)
    (both_known _ _ (payload_known l.max_task_payload_size e.payload)
    (both_known _ _ (match_known q.stage e.payload inputs.payload)
    (both_known _ _ (primitive_known q.stage w.primitive_index inputs.primitive)
    (both_known _ _ (draw_known q.stage w.draw_index inputs.payload) (vertex_known w.per_vertex q.topology)))))

-- ---- all of them

pub judgement_known : (derived : Bool) (q : Request) (i : Interface) (e : EntryPoint) (inputs : StageIo) (L : Layout) → Step (judgement derived q i e inputs L)
unfolding judgement behind_inputs
judgement_known derived q i e inputs L =
    let w = input_walk q e inputs in
    both_known (pair_step derived i.resources e L) _ (either Step (yes derived) _ _ (passes refl) (pairs_known L i.resources e.pairs))
    (both_known (workgroup_step q.stage e.workgroup i.limits) _ (workgroup_known q.stage e.workgroup i.limits)
    (both_known w.answer _ (walk_known q.stage inputs.varyings e.inputs _)
    (both_known (slots_step q.stage q i.limits e w.walk.locals) _ (slots_known q.stage q i.limits e w.walk.locals)
    (last_known q i.limits e inputs w.walk))))
