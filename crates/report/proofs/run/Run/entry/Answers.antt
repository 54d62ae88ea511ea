use Rattle.std.proofs.Common.{◌∙◌}
use Rattle.report.proofs.Running.{entry_run}
use Rattle.report.proofs.run.Run.entry.Goals as goal

pub returns-clause-run : goal.returns-clause-run
returns-clause-run c = let said = c.from.ensures ∙ c.derive-outcome.ensures.value in search (entry_run, said)
