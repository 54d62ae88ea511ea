use Rattle.std.proofs.Common.{rules}
use Rattle.interface.specs.Format.{of_word}
use Rattle.entry_check.proofs.check_entry.kinds_next.Goals as goal

pub returns-clause-rest : goal.returns-clause-rest
returns-clause-rest c = c.words_next.ensures.rest (of_word c.args.kind) (λ w b k e. search rules)
