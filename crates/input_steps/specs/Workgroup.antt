-- The workgroup size of an entry point (document 01, 'Compute, task, mesh'; WebGPU, limits of compute stages).
use Rattle.std.specs.Prelude.{ℕ, ◌*◌, ◌||◌, List, eqb, ltb, get_or}
use Rattle.word.specs.Choice.{pick}
use Rattle.word.specs.Numbers as Number
use Rattle.word.specs.Answers.{answer, accepted}
use Rattle.word.specs.declared.answer.Answer.{Answer}
use Rattle.interface.specs.declared.types.ShaderStage.{ShaderStage}
use Rattle.interface.specs.declared.types.ShaderStage.TheVariants as Stage
use Rattle.interface.specs.declared.types.WorkgroupSize.{WorkgroupSize}
use Rattle.interface.specs.declared.types.Limits.{Limits}

-- ---- workgroup size

-- the size whose three dimensions stand in a list
abbrev pub size_of : List ℕ → WorkgroupSize
size_of ds = record { x = get_or ds 0 0; y = get_or ds 1 0; z = get_or ds 2 0 }

-- 'each dimension, then the whole-number product, against limits (40); then 41', with the dimensions as details
unfoldable pub workgroup_use : WorkgroupSize → ℕ → ℕ → ℕ → ℕ → Answer
workgroup_use size x y z total =
    pick (ltb x size.x || (ltb y size.y || (ltb z size.z || ltb total (size.x * size.y * size.z))))
    (answer Number.workgroup_too_large size.x size.y size.z)
    (pick (eqb (size.x * size.y * size.z) 0) (answer Number.workgroup_zero size.x size.y size.z) accepted)

-- 'Compute, task, mesh'; task and mesh use their one dimension limit three times
unfoldable pub workgroup_step : ShaderStage → WorkgroupSize → Limits → Answer
workgroup_step Stage.Vertex size l = accepted
workgroup_step Stage.Fragment size l = accepted
workgroup_step Stage.Compute size l =
    workgroup_use size l.max_compute_workgroup_size_x l.max_compute_workgroup_size_y l.max_compute_workgroup_size_z
    l.max_compute_invocations_per_workgroup
workgroup_step Stage.Task size l =
    workgroup_use size l.max_task_invocations_per_dimension l.max_task_invocations_per_dimension l.max_task_invocations_per_dimension
    l.max_task_invocations_per_workgroup
workgroup_step Stage.Mesh size l =
    workgroup_use size l.max_mesh_invocations_per_dimension l.max_mesh_invocations_per_dimension l.max_mesh_invocations_per_dimension
    l.max_mesh_invocations_per_workgroup
