use Rattle.std.proofs.Common.{rules}
use Rattle.interface.specs.Format.{index_well_formed}
use Rattle.entry_check.proofs.CheckSteps.{none_behind, words_lack, all_go, all_stop, all_ended}
use Rattle.entry_check.proofs.CheckPairs.{marks_begin, not_held, held, marks_go, marks_end}
use Rattle.entry_check.proofs.check_entry.Pack.indexes_next.Goals as goal

pub returns-in_err-words-clause-rest : goal.returns-in_err-words-clause-rest
returns-in_err-words-clause-rest c =
    search (none_behind, words_lack (index_well_formed c.args.self.now.count) c.args.self.now.body.now c.args.from c.args.n c.requires c.in_err-words.ensures.lookup.0)

pub loop-w-init : goal.loop-w-init
loop-w-init c = (search rules, search marks_begin)

pub returns-in_err-index-clause-rest : goal.returns-in_err-index-clause-rest
returns-in_err-index-clause-rest c =
    search (none_behind, all_stop (index_well_formed c.args.self.now.count), c.in_ok-words.ensures.lookup.0, not_held, c.in_err-index.ensures)

pub loop-w-preserved : goal.loop-w-preserved
loop-w-preserved c = (search (all_go, held, c.in_ok-index.ensures), search (marks_go, c.in_ok-index.ensures))

pub returns-clause-rest : goal.returns-clause-rest
returns-clause-rest c = search (all_ended, c.in_ok-words.ensures.lookup.0)

pub returns-clause-listed : goal.returns-clause-listed
returns-clause-listed c = search (marks_end, c.in_ok-words.ensures.lookup.0)
