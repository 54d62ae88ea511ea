use Rattle.stage_lists.proofs.OutStores.{var_again, last_counted, last_placed}
use Rattle.stage_lists.proofs.list_out.place_last.Goals as goal

pub returns-then-out-n-clause-words : goal.returns-then-out-n-clause-words
returns-then-out-n-clause-words c = search (last_placed, var_again)

pub returns-then-out-n-clause-count : goal.returns-then-out-n-clause-count
returns-then-out-n-clause-count c = search last_counted
