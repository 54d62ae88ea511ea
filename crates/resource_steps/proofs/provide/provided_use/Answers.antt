use Rattle.resource_steps.proofs.ResourceLaws.{found_few}
use Rattle.resource_steps.proofs.provide.provided_use.Goals as goal

pub note-requires : goal.note-requires
note-requires c = search found_few
