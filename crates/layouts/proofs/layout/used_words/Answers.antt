use borrow.Author.Rules.{rules}
use Rattle.layouts.proofs.LayoutWays.{used_are, used_counted}
use Rattle.layouts.proofs.layout.used_words.Goals as goal

pub returns-clause-words : goal.returns-clause-words
returns-clause-words c = search (used_are, rules)

pub returns-clause-value : goal.returns-clause-value
returns-clause-value c = search (used_counted, rules)
