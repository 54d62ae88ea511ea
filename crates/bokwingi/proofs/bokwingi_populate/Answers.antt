use Rattle.bokwingi.proofs.DetailLaws.{pair_handed, pair_out}
use Rattle.bokwingi.proofs.bokwingi_populate.Goals as goal

pub returns-clause-handed : goal.returns-clause-handed
returns-clause-handed c = pair_handed _ _ _ c.populate_types-outcome.ensures _ _ _ (rw c.from.ensures at c.hand_out.ensures)

pub returns-clause-out_after : goal.returns-clause-out_after
returns-clause-out_after c = search pair_out
