use lib.ListN.{get_or-eq_default}
use Rattle.word.proofs.word.Goals as goal

pub returns-else-at-s : goal.returns-else-at-s
returns-else-at-s c = search get_or-eq_default
