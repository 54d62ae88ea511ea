use Rattle.std.proofs.Common.{rules}
use Rattle.entry_check.proofs.CheckSteps.{none_behind, words_lack, all_stop, all_ended}
use Rattle.entry_check.proofs.check_entry.words_next.Goals as goal

pub returns-in_err-words-clause-rest : goal.returns-in_err-words-clause-rest
returns-in_err-words-clause-rest g c passes said = search (none_behind, words_lack passes c.args.body.now c.args.from c.args.n c.requires.in_bounds c.in_err-words.ensures.lookup.0)

pub returns-then-not-test-clause-rest : goal.returns-then-not-test-clause-rest
returns-then-not-test-clause-rest g c passes said =
    let told = said _ _ (search rules) c.test.ensures in
    search (rules, all_stop passes, told, c.in_ok-words.ensures.lookup.0)

pub returns-clause-rest : goal.returns-clause-rest
returns-clause-rest g c passes said =
    let all = c.loop-w.invariant passes said in
    search (all_ended passes, all, c.in_ok-words.ensures.lookup.0)
