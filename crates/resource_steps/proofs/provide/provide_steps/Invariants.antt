use mathlib.Core.Path.{◌≡◌}
use lib.ListN.{length, drop}
use mathlib.Core.Bool.{true}
use Rattle.sizes.specs.Format.{sizes_well_formed, decode_sizes}
use Rattle.layouts.specs.Format.{decode_layout}
use Rattle.interface.specs.Format.{contents}
use Rattle.resource_steps.specs.Inner.Given.{each_below}
use Rattle.resource_steps.specs.Inner.Notes.{provide_notes}
use Rattle.resource_steps.specs.Resources.{provide_steps}
use Rattle.resource_steps.proofs.ProvideLaws.{provide_behind}
use Rattle.resource_steps.proofs.provide.provide_steps.Given as goal

abbrev pub invariant-loop-passed : goal.invariant-loop-passed
invariant-loop-passed l =
    (sizes_well_formed l.sizes ≡ true) × (each_below (length l.resources.table) (contents (drop l.passed l.listed)) ≡ true)
    × (provide_steps l.stage (decode_layout l.layout.words.now) l.resources.table (contents l.listed) (decode_sizes l.initial.sizes)
    ≡ provide_behind l.passed (provide_steps l.stage (decode_layout l.layout.words.now) l.resources.table (contents (drop l.passed l.listed)) (decode_sizes l.sizes)))
    × (provide_notes l.stage (decode_layout l.layout.words.now) l.resources.table (contents l.listed) (decode_sizes l.initial.sizes) l.initial.entries
    ≡ provide_notes l.stage (decode_layout l.layout.words.now) l.resources.table (contents (drop l.passed l.listed)) (decode_sizes l.sizes) l.entries)
