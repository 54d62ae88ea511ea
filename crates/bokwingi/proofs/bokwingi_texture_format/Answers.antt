use Rattle.bokwingi.proofs.DetailLaws.{handed_on}
use Rattle.bokwingi.proofs.bokwingi_texture_format.Goals as goal

pub returns : goal.returns
returns c = search handed_on
