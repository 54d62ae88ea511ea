use Rattle.std.proofs.Common.{◌≡◌, take}
use Rattle.word.proofs.Sums.{added}
use Rattle.word.proofs.closing_sum.Given as goal

abbrev pub invariant-loop-w : goal.invariant-loop-w
invariant-loop-w l = l.total ≡ added (take l.w-index l.before) 0
