use lib.ListN.{length-set}
use Rattle.std.proofs.Common.{refl, rules, arith}
use Rattle.places.proofs.Records.{push_start, push_onward, all_stored}
use Rattle.places.proofs.stores.store.Goals as goal

pub loop-i-init : goal.loop-i-init
loop-i-init g c = (refl, search push_start)

pub loop-i-preserved : goal.loop-i-preserved
loop-i-preserved g c = (simp length-set (omega arith), search (push_onward, rules))

pub returns : goal.returns
returns g c = search (all_stored, rules)
