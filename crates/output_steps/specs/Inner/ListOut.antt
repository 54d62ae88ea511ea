-- One output handed on: a step of what a stage writes into the list out.
use Rattle.std.specs.Prelude.{Bool, true}
use Rattle.varying.specs.Format.{located_encodable}
use Rattle.stage_lists.specs.Meaning.{StageIo, inserted}
use Rattle.interface.specs.declared.types.Varying.{Varying}
use Rattle.interface.specs.declared.types.Varying.TheVariants as Var

-- what the words of a stage list can hold of an output; those of an accepted pack can be encoded
abbrev pub output_encodable : Varying → Bool
output_encodable (Var.Local location iv) = located_encodable (record { location = location; var = iv })
output_encodable (Var.BuiltIn b) = true

-- a local output is put into its place, a built-in one is passed over
unfoldable pub handed : Varying → StageIo → StageIo
handed (Var.Local location iv) S = inserted (record { location = location; var = iv }) S
handed (Var.BuiltIn b) S = S
