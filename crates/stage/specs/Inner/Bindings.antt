-- The bindings as the code takes them.
use Rattle.std.specs.Prelude.{Bool}
use Rattle.layouts.specs.Meaning.{Layout}
use Rattle.sizes.specs.Meaning.{Sizes}
use Rattle.interface.specs.Meaning.{EntryPoint, Interface}
use Rattle.interface.specs.declared.types.ShaderStage.{ShaderStage}
use Rattle.resource_steps.specs.Meaning.{State, state}
use Rattle.stage.specs.Meaning.{and_then}
use Rattle.resource_steps.specs.Resources.{resource_steps}
use Rattle.stage.specs.Stage.{pair_step}

-- each resource, then each pair
abbrev pub binding_steps : Bool → ShaderStage → Interface → EntryPoint → Layout → Sizes → State
binding_steps derived stage i e L S =
    and_then (resource_steps stage derived i.resources e.pairs e.resources L S) λ L S.
    state (pair_step derived i.resources e L) L S
