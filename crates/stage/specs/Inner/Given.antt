-- What the check of a pack gives the steps of an entry point.
use Rattle.std.specs.Prelude.{◌≡◌, true, length}
use Rattle.word.specs.Lists.{every}
use Rattle.interface.specs.Meaning.{EntryPoint, Interface}
use Rattle.output_steps.specs.Inner.ListOut.{output_encodable}
use Rattle.resource_steps.specs.Inner.Given.{each_below, each_encodable, pairs_below}

-- what it names stands among the resources, and can be handed on
pub record Named (i : Interface) (e : EntryPoint) : Type 0 where
  pub encodable : each_encodable i.resources ≡ true
  pub below : each_below (length i.resources) e.resources ≡ true
  pub pairs : pairs_below (length i.resources) e.pairs ≡ true
  pub outputs : every output_encodable e.outputs ≡ true
