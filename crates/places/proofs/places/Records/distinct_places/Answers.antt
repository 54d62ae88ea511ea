use Rattle.places.proofs.MarkLaws.{few_distinct}
use Rattle.places.proofs.places.Records.distinct_places.Goals as goal

pub returns-then-self-lt2 : goal.returns-then-self-lt2
returns-then-self-lt2 g c = search few_distinct
