use mathlib.Core.Path.{◌≡◌}
use lib.ListN.{length, drop}
use mathlib.Core.Bool.{true}
use Rattle.layouts.specs.Format.{layout_well_formed, decode_layout}
use Rattle.interface.specs.Format.{contents, pairs_of}
use Rattle.resource_steps.specs.Inner.Given.{each_below}
use Rattle.resource_steps.specs.Resources.{derive_steps}
use Rattle.resource_steps.proofs.DeriveLaws.{derive_behind}
use Rattle.resource_steps.proofs.derive.derive_steps.Given as goal

abbrev pub invariant-loop-passed : goal.invariant-loop-passed
invariant-loop-passed l =
    (layout_well_formed l.layout ≡ true) × (each_below (length l.resources.table) (contents (drop l.passed l.listed)) ≡ true)
    × (derive_steps l.stage l.resources.table (pairs_of l.pairs) (contents l.listed) (decode_layout l.initial.layout)
    ≡ derive_behind l.passed (derive_steps l.stage l.resources.table (pairs_of l.pairs) (contents (drop l.passed l.listed)) (decode_layout l.layout)))
