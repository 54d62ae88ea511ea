use mathlib.Core.Path.{◌∙◌}
use Rattle.resource_steps.proofs.ResourceParts.{position_there, place_there}
use Rattle.resource_steps.proofs.table.ResourceTable.place.Goals as goal

pub position_at-requires : goal.position_at-requires
position_at-requires c = position_there _ _ _ c.self.view_is c.self.invariant _ c.requires

pub returns : goal.returns
returns c = place_there _ _ _ c.self.view_is c.self.invariant _ c.requires _ (c.from-at.ensures ∙ c.position_at.ensures)
