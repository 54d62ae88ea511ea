use Rattle.binding_rules.proofs.AnswerLaws.{alone_ends, alone_encodable}
use Rattle.binding_rules.proofs.check_words.resource_alone.Goals as goal

pub returns-clause-meaning : goal.returns-clause-meaning
returns-clause-meaning c = alone_ends c.args.ws.now _ _ c.eq.ensures c.resource_next.ensures.rest c.resource_next.ensures.end

pub returns-clause-encodable : goal.returns-clause-encodable
returns-clause-encodable c = search alone_encodable
