use mathlib.Core.Path.{◌∙◌}
use Rattle.resource_steps.proofs.ResourceParts.{position_there, words_listed, words_encodable}
use Rattle.resource_steps.proofs.table.ResourceTable.words.Goals as goal

pub position_at-requires : goal.position_at-requires
position_at-requires c = position_there _ _ _ c.self.view_is c.self.invariant _ c.requires.in_bounds

pub invariant_of-result : goal.invariant_of-result
invariant_of-result c =
    let q = c.from-at.ensures ∙ c.position_at.ensures in
    record { encodable = words_encodable _ _ _ c.self.view_is c.self.invariant _ c.requires.in_bounds _ q _ c.size_at.ensures c.requires.encodable }

pub returns : goal.returns
returns c =
    let q = c.from-at.ensures ∙ c.position_at.ensures in
    words_listed _ _ _ c.self.view_is c.self.invariant _ c.requires.in_bounds _ q _ c.size_at.ensures
