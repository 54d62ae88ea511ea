use Rattle.std.proofs.Common.{◌≡◌, drop}
use Rattle.entry_check.specs.Inner.Walks.{has_head}
use Rattle.entry_check.proofs.check_names.head_again.Given as goal

abbrev pub invariant-loop-g : goal.invariant-loop-g
invariant-loop-g l = has_head l.body l.h l.heads ≡ has_head l.body l.h (drop l.g-index l.heads)
