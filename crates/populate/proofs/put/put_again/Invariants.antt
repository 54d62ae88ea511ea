use Rattle.populate.specs.Inner.Written.{put}
use Rattle.std.proofs.Common.{◌≡◌, ◌+◌, take, drop, length}
use Rattle.populate.proofs.put.put_again.Given as goal

abbrev pub invariant-loop-i : goal.invariant-loop-i
invariant-loop-i l = (length l.out ≡ length l.initial.out) × ((l.to + l.i, l.out) ≡ put l.initial.out l.to (take l.i (drop l.first l.initial.out)))
