use Rattle.interface.proofs.ReadsParts.{short_pack}
use Rattle.report.proofs.Running.{heads_begin, run_begin, heads_onward, head_there, entry_there, name_there, run_onward, run_ended}
use borrow.Author.Rules.{rules}
use Rattle.report.proofs.run.Run.entries.Goals as goal

pub loop-init : goal.loop-init
loop-init c = (search rules, search short_pack, search rules, search heads_begin, search run_begin)

pub entry-requires : goal.entry-requires
entry-requires c = (search name_there, search rules)

pub entry_end-head-requires : goal.entry_end-head-requires
entry_end-head-requires c = (search head_there, search entry_there, search rules)

pub loop-preserved : goal.loop-preserved
loop-preserved c = (search rules, search rules, search rules, search heads_onward, search run_onward)

pub returns-clause-run : goal.returns-clause-run
returns-clause-run c = search run_ended
