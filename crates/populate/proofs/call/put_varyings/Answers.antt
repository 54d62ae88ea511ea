use Rattle.populate.proofs.CallWays.{written_none}
use Rattle.populate.proofs.call.put_varyings.Goals as goal

pub populate-requires-clause-before : goal.populate-requires-clause-before
populate-requires-clause-before c = search written_none
