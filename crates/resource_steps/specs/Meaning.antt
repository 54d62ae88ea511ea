-- What resources come to, in either mode.
use Rattle.word.specs.declared.answer.Answer.{Answer}
use Rattle.layouts.specs.Meaning.{Layout}
use Rattle.sizes.specs.Meaning.{Sizes}

-- an answer, and the layout and sizes with what the steps so far recorded
pub record State : Type 0 where
  pub answer : Answer
  pub layout : Layout
  pub sizes : Sizes

abbrev pub state : Answer → Layout → Sizes → State
state a L S = record { answer = a; layout = L; sizes = S }
