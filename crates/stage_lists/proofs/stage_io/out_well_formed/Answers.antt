use native.Mathlib.Omega.{arith}
use borrow.Author.Rules.{rules}
use Rattle.places.proofs.Words.{slice_holds}
use Rattle.places.proofs.Ways.{test_fails, test_passes}
use Rattle.stage_lists.specs.Format.{out_well_formed}
use Rattle.stage_lists.proofs.StageWays.{head_holds, varyings_tested, rising_tested}
use Rattle.stage_lists.proofs.stage_io.out_well_formed.Goals as goal

pub returns-then-not-stage_head : goal.returns-then-not-stage_head
unfolding out_well_formed
returns-then-not-stage_head c = search test_fails

pub slice_bounds-varyings-count : goal.slice_bounds-varyings-count
slice_bounds-varyings-count c = omega (arith, head_holds _ _ c.stage_head.ensures c.if-not-stage_head.false)

pub slice_bounds-varyings-start : goal.slice_bounds-varyings-start
slice_bounds-varyings-start c = omega (arith, head_holds _ _ c.stage_head.ensures c.if-not-stage_head.false)

pub counted-n-requires : goal.counted-n-requires
counted-n-requires c = omega (arith, head_holds _ _ c.stage_head.ensures c.if-not-stage_head.false)

pub varyings_good-requires : goal.varyings_good-requires
varyings_good-requires c = (search rules, slice_holds _ 2 _ (omega (arith, head_holds _ _ c.stage_head.ensures c.if-not-stage_head.false)))

pub returns-then-not-varyings_good : goal.returns-then-not-varyings_good
unfolding out_well_formed
returns-then-not-varyings_good c = search (test_fails, test_passes, varyings_tested)

pub rises-requires : goal.rises-requires
rises-requires c = (search rules, slice_holds _ 2 _ (omega (arith, head_holds _ _ c.stage_head.ensures c.if-not-stage_head.false)))

pub returns : goal.returns
unfolding out_well_formed
returns c = search (test_passes, varyings_tested, rising_tested)
