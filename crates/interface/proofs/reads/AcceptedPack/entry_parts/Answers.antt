use Rattle.interface.proofs.ReadsParts.{nth_placed}
use Rattle.interface.proofs.reads.AcceptedPack.entry_parts.Goals as goal

pub returns-clause-placed : goal.returns-clause-placed
returns-clause-placed c = search nth_placed
