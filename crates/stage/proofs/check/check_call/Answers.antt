use Rattle.std.proofs.Common.{rules}
use Rattle.stage.proofs.CheckLaws.{good_layout, good_sizes, good_inputs}
use Rattle.stage.proofs.RunLaws.{stage_call_lem, stage_went}
use Rattle.stage.proofs.check.check_call.Goals as goal

pub invariant_of-inputs : goal.invariant_of-inputs
invariant_of-inputs c = record { well_formed = good_inputs _ _ _ _ _ c.call_good.ensures (search rules) }

pub on_named-requires : goal.on_named-requires
on_named-requires c =
    let good = c.call_good.ensures in
    (good_layout _ _ _ _ _ good (search rules), good_sizes _ _ _ _ _ good (search rules))

pub returns-then-call_good : goal.returns-then-call_good
returns-then-call_good c = search stage_went

pub returns : goal.returns
returns c = rw c.plain.ensures (search stage_call_lem)
