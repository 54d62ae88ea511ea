-- What a refusal says, as an answer.
use Rattle.std.specs.Prelude.{ℕ, Result, Ok, Err}
use Rattle.word.specs.declared.answer.Answer.{Answer}
use Rattle.word.specs.declared.refusal.Number.{Number}
use Rattle.word.specs.declared.refusal.Refusal.{Refusal}
use Rattle.word.specs.Numbers.{number_of}
use Rattle.word.specs.Answers.{answer, accepted}

abbrev pub refusal : Number → ℕ → ℕ → ℕ → Refusal
refusal number first second third = record { number = number; first = first; second = second; third = third }

-- a refusal's number and details
abbrev pub refusal_answer : Refusal → Answer
refusal_answer r = answer (number_of r.number) r.first r.second r.third

-- a check that alters nothing: accepted, or refused
abbrev pub answer_of : {A : Type 0} → Result A Refusal → Answer
answer_of (Ok value) = accepted
answer_of (Err r) = refusal_answer r

-- a check that hands a number out: the first detail of its acceptance
abbrev pub answer_with : Result ℕ Refusal → Answer
answer_with (Ok first) = answer 0 first 0 0
answer_with (Err r) = refusal_answer r

-- a test that names a number where it refuses; 0 is none
abbrev pub number_or_none : {A : Type 0} → Result A Number → ℕ
number_or_none (Ok value) = 0
number_or_none (Err n) = number_of n
