-- What a stage hands on (document 01, 'Stage list').
use Rattle.std.specs.Prelude.{ℕ, ◌+◌, ◌*◌, Bool, ◌||◌, List, [], ◌∷◌, length, drop, Option, Some, None, true, false}
use Rattle.word.specs.Choice.{pick, yes}
use Rattle.varying.specs.declared.Located.{Located}
use Rattle.stage_lists.specs.Meaning.{StageIo, insert}
use Rattle.interface.specs.Meaning.{EntryPoint}
use Rattle.interface.specs.declared.types.ShaderStage.{ShaderStage}
use Rattle.interface.specs.declared.types.ShaderStage.TheVariants as Stage
use Rattle.interface.specs.declared.types.Varying.{Varying}
use Rattle.interface.specs.declared.types.Varying.TheVariants as Var
use Rattle.input_steps.specs.declared.types.InputWalk.{InputWalk}
use Rattle.output_steps.specs.Outputs.{any_of, is_primitive}

-- ---- what the stage hands on

-- 'by rising location, once each', the last of equal locations kept
unfoldable pub locals_of : List Varying → List Located → List Located
locals_of [] vs = vs
locals_of (Var.Local location iv ∷ others) vs = locals_of others (insert (record { location = location; var = iv }) vs)
locals_of (Var.BuiltIn b ∷ others) vs = locals_of others vs

-- none but for a mesh stage: there whether a primitive index is among its outputs or its inputs
abbrev pub primitive_out : ShaderStage → Bool → Option Bool
primitive_out Stage.Mesh written = pick (yes written) (Some true) (Some false)
primitive_out Stage.Vertex written = None
primitive_out Stage.Fragment written = None
primitive_out Stage.Compute written = None
primitive_out Stage.Task written = None

-- the list out over the words lent for it: what is written at their start, and the free room behind that
unfoldable pub stage_out : ShaderStage → EntryPoint → InputWalk → List ℕ → StageIo
stage_out stage e w out =
    record {
      primitive = primitive_out stage (w.primitive_index || any_of is_primitive e.outputs);
      payload = e.payload;
      varyings = locals_of e.outputs [];
      room = drop (2 + 2 * length (locals_of e.outputs [])) out;
    }
