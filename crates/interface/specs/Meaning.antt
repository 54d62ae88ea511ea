-- What a module pack holds (document 01, 'Module pack', 'Entry point', 'Varying').
use Rattle.std.specs.Prelude.{ℕ, zero, suc, Bool, false, List, [], ◌∷◌, Option, None}
use Rattle.bindings.specs.declared.types.Resource.{Resource}
use Rattle.interface.specs.declared.types.ShaderStage.{ShaderStage}
use Rattle.interface.specs.declared.types.Varying.{Varying}
use Rattle.interface.specs.declared.types.SamplingPair.{SamplingPair}
use Rattle.interface.specs.declared.types.WorkgroupSize.{WorkgroupSize}
use Rattle.interface.specs.declared.types.Limits.{Limits}
use Rattle.interface.specs.declared.types.ShaderStage.TheVariants as Stage
use Rattle.interface.specs.declared.types.EntryPointMeshInfo.{EntryPointMeshInfo}

-- an entry point; its resources and the members of its pairs are indexes of the pack's resources, and its name is bytes
pub record EntryPoint : Type 0 where
  pub stage : ShaderStage
  pub name : List ℕ
  pub dual : Bool
  pub workgroup : WorkgroupSize
  pub payload : Option ℕ
  pub mesh : Option EntryPointMeshInfo
  pub resources : List ℕ
  pub pairs : List SamplingPair
  pub inputs : List Varying
  pub outputs : List Varying

pub record Interface : Type 0 where
  pub limits : Limits
  pub resources : List Resource
  pub entries : List EntryPoint

-- an entry point with nothing in it
abbrev pub empty_entry_point : EntryPoint
empty_entry_point =
    record {
      stage = Stage.Vertex;
      name = [];
      dual = false;
      workgroup = record { x = 0; y = 0; z = 0 };
      payload = None;
      mesh = None;
      resources = [];
      pairs = [];
      inputs = [];
      outputs = [];
    }

-- the entry point at a position; past the end an empty one
unfoldable pub entry_point_nth : List EntryPoint → ℕ → EntryPoint
entry_point_nth [] i = empty_entry_point
entry_point_nth (e ∷ es) zero = e
entry_point_nth (e ∷ es) (suc i) = entry_point_nth es i
