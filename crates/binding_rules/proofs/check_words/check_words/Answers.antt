use Rattle.std.proofs.Common.{rules}
use Rattle.binding_rules.proofs.AnswerLaws.{check_no_resource, check_no_entry, check_served, check_refused}
use Rattle.binding_rules.proofs.check_words.check_words.Goals as goal

pub returns-then-not-resource_alone : goal.returns-then-not-resource_alone
returns-then-not-resource_alone c = rw c.plain.ensures (search check_no_resource)

pub returns-then-not-entry_alone : goal.returns-then-not-entry_alone
returns-then-not-entry_alone c = rw c.plain-then-not-entry_alone.ensures (search check_no_entry)

pub returns-in-Ok : goal.returns-in-Ok
returns-in-Ok c = search check_served

pub returns-in-Err : goal.returns-in-Err
returns-in-Err c = search (rules, check_refused)
