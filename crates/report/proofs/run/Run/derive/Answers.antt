use Rattle.report.proofs.Running.{derived_answer_lem, derived_layout, accepted_fed, refused_fed}
use Rattle.report.proofs.run.Run.derive.Goals as goal

pub returns-then-is_ok-clause-value : goal.returns-then-is_ok-clause-value
returns-then-is_ok-clause-value c = search derived_answer_lem

pub returns-then-is_ok-clause-layout_after : goal.returns-then-is_ok-clause-layout_after
returns-then-is_ok-clause-layout_after c = search derived_layout

pub returns-then-is_ok-clause-io_after : goal.returns-then-is_ok-clause-io_after
returns-then-is_ok-clause-io_after c = search (accepted_fed, c.is_ok.ensures.value)

pub returns-else-is_ok-clause-value : goal.returns-else-is_ok-clause-value
returns-else-is_ok-clause-value c = search derived_answer_lem

pub returns-else-is_ok-clause-layout_after : goal.returns-else-is_ok-clause-layout_after
returns-else-is_ok-clause-layout_after c = search derived_layout

pub returns-else-is_ok-clause-io_after : goal.returns-else-is_ok-clause-io_after
returns-else-is_ok-clause-io_after c = search (refused_fed, c.is_ok.ensures.value)
