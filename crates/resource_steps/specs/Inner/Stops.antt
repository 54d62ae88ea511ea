-- What a step that may refuse one of a list comes to: an answer, and how many passed.
use Rattle.std.specs.Prelude.{ℕ, Result, Ok, Err}
use Rattle.word.specs.Answers.{accepted}
use Rattle.word.specs.Refusals.{refusal_answer}
use Rattle.word.specs.declared.answer.Answer.{Answer}
use Rattle.resource_steps.specs.declared.types.Stopped.{Stopped}

-- the answer of a list of which one may be refused
abbrev pub stopped_answer : {A : Type 0} → Result A Stopped → Answer
stopped_answer (Ok value) = accepted
stopped_answer (Err stopped) = refusal_answer stopped.refusal

-- how many of as many passed
abbrev pub stopped_passed : {A : Type 0} → ℕ → Result A Stopped → ℕ
stopped_passed n (Ok value) = n
stopped_passed n (Err stopped) = stopped.passed
