use native.Mathlib.Omega.{arith}
use Rattle.places.proofs.Words.{slice_holds}
use Rattle.places.proofs.Ways.{test_fails, test_passes}
use Rattle.sizes.specs.Format.{sizes_well_formed}
use Rattle.sizes.proofs.SizeWays.{head_holds, sizes_tested, sizes_distinct}
use Rattle.sizes.proofs.sizes.sizes_well_formed.Goals as goal

pub returns-then-not-short_enough : goal.returns-then-not-short_enough
unfolding sizes_well_formed
returns-then-not-short_enough c = search test_fails

pub returns-then-not-sizes_head : goal.returns-then-not-sizes_head
unfolding sizes_well_formed
returns-then-not-sizes_head c = search (test_fails, test_passes)

pub slice_bounds-records-count : goal.slice_bounds-records-count
slice_bounds-records-count c = omega (arith, head_holds _ _ c.sizes_head.ensures c.if-not-sizes_head.false)

pub slice_bounds-records-start : goal.slice_bounds-records-start
slice_bounds-records-start c = omega (arith, head_holds _ _ c.sizes_head.ensures c.if-not-sizes_head.false)

pub counted-n-requires : goal.counted-n-requires
counted-n-requires c = omega (arith, head_holds _ _ c.sizes_head.ensures c.if-not-sizes_head.false)

pub invariant_of-records-clause-within : goal.invariant_of-records-clause-within
invariant_of-records-clause-within c = slice_holds _ 1 _ (omega (arith, head_holds _ _ c.sizes_head.ensures c.if-not-sizes_head.false))

pub returns-then-not-sizes_good : goal.returns-then-not-sizes_good
unfolding sizes_well_formed
returns-then-not-sizes_good c = search (test_fails, test_passes, sizes_tested)

pub returns : goal.returns
unfolding sizes_well_formed
returns c = search (test_passes, sizes_tested, sizes_distinct)
