use Rattle.places.proofs.MarkLaws.{unmarked, mark_lacks}
use Rattle.places.proofs.places.Records.has_marked.Goals as goal

pub returns-then-marks-slot_of-eq0 : goal.returns-then-marks-slot_of-eq0
returns-then-marks-slot_of-eq0 g c = search (unmarked, mark_lacks)
