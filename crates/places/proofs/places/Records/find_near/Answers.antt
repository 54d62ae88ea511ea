use Rattle.places.proofs.PlaceWays.{near_record}
use Rattle.places.proofs.places.Records.find_near.Goals as goal

pub returns-then-self-near-clause-position : goal.returns-then-self-near-clause-position
returns-then-self-near-clause-position g c = search near_record
