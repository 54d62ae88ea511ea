-- A call of the stage check, and what it comes to.
use Rattle.std.specs.Prelude.{ℕ, List, eqb}
use Rattle.word.specs.Choice.{pick}
use Rattle.word.specs.declared.answer.Answer.{Answer}
use Rattle.layouts.specs.Meaning.{Layout}
use Rattle.sizes.specs.Meaning.{Sizes}
use Rattle.stage.specs.declared.types.Codes.{Codes}
use Rattle.resource_steps.specs.Meaning.{State}

-- the numbers of a call by themselves
abbrev pub codes : ℕ → ℕ → ℕ → ℕ → ℕ → Codes
codes stage topology mode dual depth = record { stage = stage; topology = topology; mode = mode; dual_source = dual; depth = depth }

-- the lists that a call lends
pub record Lent : Type 0 where
  pub layout : List ℕ
  pub sizes : List ℕ
  pub inputs : List ℕ
  pub out : List ℕ

abbrev pub lent : List ℕ → List ℕ → List ℕ → List ℕ → Lent
lent l s i o = record { layout = l; sizes = s; inputs = i; out = o }

-- 'The call gives a stage, a name of any bytes, topology 0–4 or 5 for none, mode 0 provided or 1 derived, and two fragment flags
-- (dual source, depth attached), 0 or 1', with the words of the pack and the lists that are lent
pub record Call : Type 0 where
  pub pack : List ℕ
  pub name : List ℕ
  pub codes : Codes
  pub lent : Lent

abbrev pub call : List ℕ → List ℕ → Codes → Lent → Call
call pack name codes t = record { pack = pack; name = name; codes = codes; lent = t }

-- the answer, and the lent lists at exit
pub record Outcome : Type 0 where
  pub answer : Answer
  pub layout : List ℕ
  pub sizes : List ℕ
  pub out : List ℕ

abbrev pub outcome : Answer → List ℕ → List ℕ → List ℕ → Outcome
outcome a l s o = record { answer = a; layout = l; sizes = s; out = o }

-- 'first failure ending it': a second step where the first accepted
abbrev pub and_then : State → (Layout → Sizes → State) → State
and_then x k = pick (eqb x.answer.number 0) (k x.layout x.sizes) x
