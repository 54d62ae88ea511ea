use Rattle.places.proofs.PlaceWays.{content_nowhere, content_found, content_onward}
use Rattle.places.proofs.places.Records.has_place.Goals as goal

pub returns-then-self-i : goal.returns-then-self-i
returns-then-self-i g c = search content_found

pub loop-i-preserved : goal.loop-i-preserved
loop-i-preserved g c = search content_onward

pub returns : goal.returns
returns g c = search content_nowhere
