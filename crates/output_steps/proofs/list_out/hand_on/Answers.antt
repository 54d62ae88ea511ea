use Rattle.output_steps.proofs.ListOutLaws.{local_encodable, local_few, local_roomy, local_handed, built_in_handed}
use borrow.Author.Rules.{rules}
use Rattle.output_steps.proofs.list_out.hand_on.Goals as goal

pub insert_words-requires-clause-variable : goal.insert_words-requires-clause-variable
insert_words-requires-clause-variable c = (search rules, search local_encodable)

pub insert_words-requires-clause-room : goal.insert_words-requires-clause-room
insert_words-requires-clause-room c = (search local_few, search local_roomy)

pub returns-then-kind-eq12-clause-result_after : goal.returns-then-kind-eq12-clause-result_after
returns-then-kind-eq12-clause-result_after c = search local_handed

pub returns-clause-result_after : goal.returns-clause-result_after
returns-clause-result_after c = search built_in_handed
