-- Mesh, payload, primitive and draw index, per vertex (document 01, '70, 71, 72, 73, 74, 75, 76, 77, 78').
use Rattle.std.specs.Prelude.{ℕ, Bool, not, ◌&&◌, ◌||◌, eqb, ltb, Option, Some, None, true, false}
use Rattle.word.specs.Choice.{pick, yes}
use Rattle.word.specs.Numbers as Number
use Rattle.word.specs.Answers.{answer, accepted, refused, both}
use Rattle.word.specs.declared.answer.Answer.{Answer}
use Rattle.varying.specs.Rules.{same_payload, payload_present}
use Rattle.stage_lists.specs.Meaning.{StageIo}
use Rattle.interface.specs.Meaning.{EntryPoint}
use Rattle.interface.specs.Format.{topology_code}
use Rattle.interface.specs.declared.types.ShaderStage.{ShaderStage}
use Rattle.interface.specs.declared.types.ShaderStage.TheVariants as Stage
use Rattle.interface.specs.declared.types.Limits.{Limits}
use Rattle.output_steps.specs.declared.types.Request.{Request}
use Rattle.input_steps.specs.declared.types.InputWalk.{InputWalk}
use Rattle.interface.specs.declared.types.EntryPointMeshInfo.{EntryPointMeshInfo}

-- ---- mesh, payload, primitive and draw index, per vertex

abbrev pub value_use : ℕ → ℕ → ℕ → Answer
value_use number value limit = pick (ltb limit value) (answer number value limit 0) accepted

-- '70, 71, 72' do not depend on the stage
unfoldable pub mesh_use : ℕ → Limits → Option EntryPointMeshInfo → Answer
mesh_use topology l None = accepted
mesh_use topology l (Some info) =
    both (value_use Number.mesh_vertices info.max_vertices l.max_mesh_output_vertices)
    (both (value_use Number.mesh_primitives info.max_primitives l.max_mesh_output_primitives)
    (pick (eqb topology (topology_code info.primitive_topology)) accepted (refused Number.mesh_topology)))

-- 73, on any stage
abbrev pub payload_use : ℕ → Option ℕ → Answer
payload_use limit None = accepted
payload_use limit (Some bytes) = value_use Number.payload_large bytes limit

-- 74, on a mesh stage
unfoldable pub payload_match : ShaderStage → Option ℕ → Option ℕ → Answer
payload_match Stage.Mesh shader input = pick (same_payload shader input) accepted (refused Number.payload_mismatch)
payload_match Stage.Vertex shader input = accepted
payload_match Stage.Fragment shader input = accepted
payload_match Stage.Compute shader input = accepted
payload_match Stage.Task shader input = accepted

-- 75 and 76, on a fragment stage behind a mesh stage
unfoldable pub primitive_use : ShaderStage → Bool → Option Bool → Answer
primitive_use Stage.Fragment read None = accepted
primitive_use Stage.Fragment read (Some false) = pick (yes read) (refused Number.invalid_primitive_index) accepted
primitive_use Stage.Fragment read (Some true) = pick (yes read) accepted (refused Number.missing_primitive_index)
primitive_use Stage.Vertex read written = accepted
primitive_use Stage.Compute read written = accepted
primitive_use Stage.Task read written = accepted
primitive_use Stage.Mesh read written = accepted

-- 77, on a mesh stage behind a task stage
unfoldable pub draw_use : ShaderStage → Bool → Option ℕ → Answer
draw_use Stage.Mesh draw input = pick (yes draw && payload_present input) (refused Number.draw_index) accepted
draw_use Stage.Vertex draw input = accepted
draw_use Stage.Fragment draw input = accepted
draw_use Stage.Compute draw input = accepted
draw_use Stage.Task draw input = accepted

-- '78 is due after a per-vertex local input unless the topology is 3 or 4'
unfoldable pub per_vertex_use : Bool → ℕ → Answer
per_vertex_use per_vertex_read topology = pick (yes per_vertex_read && not (eqb topology 3 || eqb topology 4)) (refused Number.per_vertex_not_triangles) accepted

-- '74, 75, 76, 77, 78': the payload, and that of the stage before with whether it writes a primitive index
abbrev pub match_uses : Request → Option ℕ → Option ℕ → Option Bool → InputWalk → Answer
match_uses q payload input written w =
    both (payload_match q.stage payload input)
    (both (primitive_use q.stage w.primitive_index written)
    (both (draw_use q.stage w.draw_index input) (per_vertex_use w.per_vertex q.topology)))

-- '70, 71, 72, 73', and these behind them
abbrev pub last_uses : Request → Limits → Option EntryPointMeshInfo → Option ℕ → Option ℕ → Option Bool → InputWalk → Answer
last_uses q l mesh payload input written w =
    both (mesh_use q.topology l mesh) (both (payload_use l.max_task_payload_size payload) (match_uses q payload input written w))

unfoldable pub last_step : Request → Limits → EntryPoint → StageIo → InputWalk → Answer
last_step q l e inputs w = last_uses q l e.mesh e.payload inputs.payload inputs.primitive w
