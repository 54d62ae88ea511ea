use native.Mathlib.Omega.{arith}
use Rattle.places.proofs.Words.{slice_holds}
use Rattle.places.proofs.Ways.{test_fails, test_passes}
use Rattle.layouts.specs.Format.{layout_well_formed}
use Rattle.layouts.proofs.LayoutWays.{head_holds, entries_tested, entries_distinct}
use Rattle.layouts.proofs.layout.layout_well_formed.Goals as goal

pub returns-then-not-short_enough : goal.returns-then-not-short_enough
unfolding layout_well_formed
returns-then-not-short_enough c = search test_fails

pub returns-then-not-layout_head : goal.returns-then-not-layout_head
unfolding layout_well_formed
returns-then-not-layout_head c = search (test_fails, test_passes)

pub slice_bounds-entries-count : goal.slice_bounds-entries-count
slice_bounds-entries-count c = omega (arith, head_holds _ _ c.layout_head.ensures c.if-not-layout_head.false)

pub slice_bounds-entries-start : goal.slice_bounds-entries-start
slice_bounds-entries-start c = omega (arith, head_holds _ _ c.layout_head.ensures c.if-not-layout_head.false)

pub counted-n-requires : goal.counted-n-requires
counted-n-requires c = omega (arith, head_holds _ _ c.layout_head.ensures c.if-not-layout_head.false)

pub invariant_of-entries-clause-within : goal.invariant_of-entries-clause-within
invariant_of-entries-clause-within c = slice_holds _ 1 _ (omega (arith, head_holds _ _ c.layout_head.ensures c.if-not-layout_head.false))

pub returns-then-not-entries_good : goal.returns-then-not-entries_good
unfolding layout_well_formed
returns-then-not-entries_good c = search (test_fails, test_passes, entries_tested)

pub returns : goal.returns
unfolding layout_well_formed
returns c = search (test_passes, entries_tested, entries_distinct)
