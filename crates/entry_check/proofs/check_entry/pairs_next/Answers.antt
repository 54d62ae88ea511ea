use Rattle.std.proofs.Common.{rules}
use Rattle.entry_check.specs.Inner.Walks.{pair_by_roles}
use Rattle.entry_check.proofs.check_entry.pairs_next.Goals as goal

pub returns-clause-rest : goal.returns-clause-rest
returns-clause-rest c = c.words_next.ensures.rest (pair_by_roles c.args.table.now) (λ w b k e. search rules)
