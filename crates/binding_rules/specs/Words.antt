-- The words of a derived entry, as an answer.
use Rattle.std.specs.Prelude.{Result, Ok, Err}
use Rattle.word.specs.Answers.{answer}
use Rattle.word.specs.Refusals.{refusal_answer}
use Rattle.word.specs.declared.answer.Answer.{Answer}
use Rattle.word.specs.declared.refusal.Refusal.{Refusal}
use Rattle.binding_rules.specs.declared.check_words.EntryWords.{EntryWords}

-- the type word and the least-size word are the first two details
abbrev pub entry_answer : Result EntryWords Refusal → Answer
entry_answer (Ok words) = answer 0 words.ty words.least 0
entry_answer (Err r) = refusal_answer r
