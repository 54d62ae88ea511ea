-- The inputs of an entry point against what the stage before provides (document 01, 'Inputs, in order'; WebGPU, 'validating inter-stage interfaces').
use Rattle.std.specs.Prelude.{ℕ, ◌+◌, true, false, ◌||◌, List, [], ◌∷◌, eqb, Option, Some, None}
use Rattle.word.specs.Choice.{pick, yes}
use Rattle.word.specs.Numbers as Number
use Rattle.word.specs.Answers.{answer, accepted}
use Rattle.word.specs.declared.answer.Answer.{Answer}
use Rattle.numeric.specs.Types.{kind_code, fits}
use Rattle.bindings.specs.Rules.{same_bool}
use Rattle.varying.specs.declared.InterfaceVar.{InterfaceVar}
use Rattle.varying.specs.declared.Located.{Located}
use Rattle.stage_lists.specs.Meaning.{varying_at}
use Rattle.interface.specs.declared.types.ShaderStage.{ShaderStage}
use Rattle.interface.specs.declared.types.ShaderStage.TheVariants as Stage
use Rattle.interface.specs.declared.types.BuiltIn.{BuiltIn}
use Rattle.interface.specs.declared.types.BuiltIn.TheVariants as In
use Rattle.interface.specs.declared.types.Varying.{Varying}
use Rattle.interface.specs.declared.types.Varying.TheVariants as Var
use Rattle.input_steps.specs.declared.types.InputWalk.{InputWalk}

-- ---- inputs

-- 'Vertex: 50, 51, 54': only scalar kinds are compared, and only the shader's own per-primitive bit is looked at
unfoldable pub vertex_input : InterfaceVar → InterfaceVar → ℕ
vertex_input iv provided =
    pick (eqb (kind_code iv.ty.scalar.kind) (kind_code provided.ty.scalar.kind)) (pick (yes iv.per_primitive) Number.input_per_primitive 0)
    Number.input_type

-- 'fragment: 50, 52, 53, 51, 54'
unfoldable pub fragment_input : InterfaceVar → InterfaceVar → ℕ
fragment_input iv provided =
    pick (eqb iv.interpolation provided.interpolation)
    (pick (eqb iv.sampling provided.sampling)
    (pick (fits iv.ty provided.ty)
    (pick (same_bool iv.per_primitive provided.per_primitive) 0 Number.input_per_primitive)
    Number.input_type)
    Number.input_sampling)
    Number.input_interpolation

-- 'other stages: a local one is 50, or 51 if provided'
unfoldable pub input_number : ShaderStage → InterfaceVar → Option InterfaceVar → ℕ
input_number stage iv None = Number.input_missing
input_number Stage.Vertex iv (Some provided) = vertex_input iv provided
input_number Stage.Fragment iv (Some provided) = fragment_input iv provided
input_number Stage.Compute iv (Some provided) = Number.input_type
input_number Stage.Task iv (Some provided) = Number.input_type
input_number Stage.Mesh iv (Some provided) = Number.input_type

abbrev pub start_walk : InputWalk
start_walk = record { primitive_index = false; draw_index = false; per_vertex = false; locals = 0 }

-- a local input met: per vertex is interpolation 4
abbrev pub met_local : InterfaceVar → InputWalk → InputWalk
met_local iv w =
    record { primitive_index = w.primitive_index; draw_index = w.draw_index; per_vertex = w.per_vertex || eqb iv.interpolation 4; locals = w.locals + 1 }

abbrev pub met_built_in : BuiltIn → InputWalk → InputWalk
met_built_in (In.Other slots) w = w
met_built_in (In.PrimitiveIndex slots) w = record { primitive_index = true; draw_index = w.draw_index; per_vertex = w.per_vertex; locals = w.locals }
met_built_in (In.DrawIndex slots) w = record { primitive_index = w.primitive_index; draw_index = true; per_vertex = w.per_vertex; locals = w.locals }
met_built_in (In.FragDepth slots) w = w
met_built_in (In.ClipDistances size) w = w

-- a walk as far as it went, and its answer
pub record Walked : Type 0 where
  pub walk : InputWalk
  pub answer : Answer

abbrev pub walked : InputWalk → Answer → Walked
walked w a = record { walk = w; answer = a }

-- '50–54 location'
abbrev pub local_step : ℕ → ℕ → InterfaceVar → InputWalk → Walked
local_step number location iv w = pick (eqb number 0) (walked (met_local iv w) accepted) (walked w (answer number location 0 0))

-- one input: a local one is judged, a built-in one is noted
unfoldable pub input_step : ShaderStage → List Located → Varying → InputWalk → Walked
input_step stage provided (Var.Local location iv) w = local_step (input_number stage iv (varying_at location provided)) location iv w
input_step stage provided (Var.BuiltIn b) w = walked (met_built_in b w) accepted

abbrev pub walk_on : Walked → (InputWalk → Walked) → Walked
walk_on x k = pick (eqb x.answer.number 0) (k x.walk) x

-- 'Inputs, in order'
unfoldable pub input_steps : ShaderStage → List Located → List Varying → InputWalk → Walked
input_steps stage provided [] w = walked w accepted
input_steps stage provided (v ∷ vs) w = walk_on (input_step stage provided v w) λ w. input_steps stage provided vs w
