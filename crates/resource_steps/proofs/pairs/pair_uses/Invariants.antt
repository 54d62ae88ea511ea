use mathlib.Core.Path.{◌≡◌}
use lib.ListN.{length, drop}
use mathlib.Core.Bool.{true}
use Rattle.layouts.specs.Format.{decode_layout}
use Rattle.interface.specs.Format.{pairs_of}
use Rattle.resource_steps.specs.Inner.Given.{pairs_below}
use Rattle.resource_steps.specs.Resources.{pair_uses}
use Rattle.resource_steps.proofs.pairs.pair_uses.Given as goal

abbrev pub invariant-loop-w : goal.invariant-loop-w
invariant-loop-w l =
    (pairs_below (length l.resources) (pairs_of (drop l.w-index l.pairs)) ≡ true)
    × (pair_uses (decode_layout l.layout.words.now) l.resources (pairs_of l.pairs) ≡ pair_uses (decode_layout l.layout.words.now) l.resources (pairs_of (drop l.w-index l.pairs)))
