use Rattle.std.proofs.Common.{rules}
use Rattle.binding_rules.proofs.AnswerLaws.{derive_no_resource, derive_found, derive_none, derive_encodable}
use Rattle.binding_rules.proofs.check_words.derive_words.Goals as goal

pub returns-then-not-resource_alone : goal.returns-then-not-resource_alone
returns-then-not-resource_alone c = rw c.plain.ensures (search derive_no_resource)

pub binding_word-requires : goal.binding_word-requires
binding_word-requires c = search derive_encodable

pub least_word-requires : goal.least_word-requires
least_word-requires c = search derive_encodable

pub returns-in-Ok : goal.returns-in-Ok
returns-in-Ok c = search derive_found

pub returns-in-Err : goal.returns-in-Err
returns-in-Err c = search (rules, derive_none)
