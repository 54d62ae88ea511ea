use Rattle.bokwingi.proofs.DetailLaws.{stage_handed, stage_layout, stage_sizes, stage_out_lem}
use Rattle.bokwingi.proofs.bokwingi_check_stage.Goals as goal

pub returns-clause-handed : goal.returns-clause-handed
returns-clause-handed c = stage_handed _ _ _ _ _ c.check_stage-outcome.ensures _ _ _ (rw c.from.ensures at c.hand_out.ensures)

pub returns-clause-layout_after : goal.returns-clause-layout_after
returns-clause-layout_after c = search stage_layout

pub returns-clause-sizes_after : goal.returns-clause-sizes_after
returns-clause-sizes_after c = search stage_sizes

pub returns-clause-out_after : goal.returns-clause-out_after
returns-clause-out_after c = search stage_out_lem
