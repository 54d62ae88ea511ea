use mathlib.Core.Path.{◌≡◌}
use lib.ListN.{drop}
use Rattle.interface.specs.Format.{pairs_of}
use Rattle.resource_steps.specs.Resources.{named_texture}
use Rattle.resource_steps.proofs.derive.named_texture.Given as goal

abbrev pub invariant-loop-w : goal.invariant-loop-w
invariant-loop-w l = named_texture l.texture (pairs_of l.pairs) ≡ named_texture l.texture (pairs_of (drop l.w-index l.pairs))
