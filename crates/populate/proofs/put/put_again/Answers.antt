use lib.ListN.{length-set}
use native.Mathlib.Omega.{arith}
use Rattle.std.proofs.Common.{refl}
use Rattle.populate.proofs.Puts.{again_start, again_on, again_done}
use Rattle.populate.proofs.put.put_again.Goals as goal

pub loop-i-init : goal.loop-i-init
loop-i-init c = (refl, search again_start)

pub loop-i-preserved : goal.loop-i-preserved
loop-i-preserved c = (simp length-set (omega arith), search again_on)

pub returns : goal.returns
returns c = search again_done
