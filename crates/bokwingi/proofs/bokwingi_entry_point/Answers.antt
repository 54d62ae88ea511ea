use Rattle.bokwingi.proofs.DetailLaws.{handed_on}
use Rattle.bokwingi.proofs.bokwingi_entry_point.Goals as goal

pub returns : goal.returns
returns c = search handed_on
