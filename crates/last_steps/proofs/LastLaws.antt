-- What holds of a case holds of the value that is that case.
use Rattle.std.proofs.Common.{◌≡◌, ℕ, Bool, Option}
use Rattle.word.specs.declared.answer.Answer.{Answer}
use Rattle.interface.specs.declared.types.EntryPointMeshInfo.{EntryPointMeshInfo}
use Rattle.interface.specs.declared.types.Limits.{Limits}
use Rattle.interface.specs.declared.types.ShaderStage.{ShaderStage}
use Rattle.last_steps.specs.Last.{mesh_use, primitive_use}

pub mesh_at_lem : (topology : ℕ) (l : Limits) (m k : Option EntryPointMeshInfo) (r : Answer) → m ≡ k → r ≡ mesh_use topology l k → r ≡ mesh_use topology l m
mesh_at_lem topology l m k r e h = rw e h

pub primitive_at_lem : (stage s : ShaderStage) (r : Answer) → stage ≡ s → (read : Bool) (written : Option Bool) → r ≡ primitive_use s read written
    → r ≡ primitive_use stage read written
primitive_at_lem stage s r e read written h = rw e h
