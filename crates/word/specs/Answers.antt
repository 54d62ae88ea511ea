-- 'An answer is the number and three details, 0 unless named' (document 01, 'Numbers').
use Rattle.std.specs.Prelude.{ℕ, ◌==◌}
use Rattle.word.specs.declared.answer.Answer.{Answer}
use Rattle.word.specs.Choice.{pick}

abbrev pub answer : ℕ → ℕ → ℕ → ℕ → Answer
answer number first second third = record { number = number; first = first; second = second; third = third }

abbrev pub accepted : Answer
accepted = answer 0 0 0 0

abbrev pub refused : ℕ → Answer
refused number = answer number 0 0 0

-- a judgement that alters nothing, and a second one where it accepted
abbrev pub both : Answer → Answer → Answer
both a b = pick (a.number == 0) b a
