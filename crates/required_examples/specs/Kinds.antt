-- What an example says, and when it holds by the definitions that the contracts cite.
use Rattle.std.specs.Prelude.{ℕ, Bool, true, false, ◌&&◌, List, [], ◌∷◌, eqb}
use Rattle.word.specs.Choice.{pick}
use Rattle.word.specs.declared.answer.Answer.{Answer}
use Rattle.numeric.specs.Types.{fits}
use Rattle.numeric.specs.declared.types.NumericType.{NumericType}
use Rattle.bindings.specs.Rules.{check_binding_use, use_number, same_bool}
use Rattle.bindings.specs.declared.types.ResourceType.{ResourceType}
use Rattle.bindings.specs.declared.types.BindingType.{BindingType}
use Rattle.stage.specs.Meaning.{Call, Outcome}
use Rattle.stage.specs.Stage.{check_stage}

pub data Example : Type 0 where
  -- a resource on an entry: the number of the answer
  on_entry : ResourceType → BindingType → ℕ → Example
  -- a type below another: yes or no
  below : NumericType → NumericType → Bool → Example
  -- a stage check: its answer, and every lent list after it, whole
  checked : Call → Outcome → Example

-- the stage check that the examples are about
abbrev pub stage_check : Call → Outcome
stage_check c = check_stage c

abbrev pub same_answer : Answer → Answer → Bool
same_answer a b = eqb a.number b.number && (eqb a.first b.first && (eqb a.second b.second && eqb a.third b.third))

-- the same words in the same order
unfoldable pub same_words : List ℕ → List ℕ → Bool
same_words [] [] = true
same_words [] (w ∷ ws) = false
same_words (v ∷ vs) [] = false
same_words (v ∷ vs) (w ∷ ws) = let rest = same_words vs ws in pick (eqb v w) rest false

abbrev pub same_outcome : Outcome → Outcome → Bool
same_outcome a b =
    same_answer a.answer b.answer && (same_words a.layout b.layout && (same_words a.sizes b.sizes && same_words a.out b.out))

abbrev pub holds : Example → Bool
holds (on_entry resource entry number) = eqb (use_number (check_binding_use resource entry)) number
holds (below a b expected) = same_bool (fits a b) expected
holds (checked call expected) = same_outcome (stage_check call) expected

unfoldable pub all_hold : List Example → Bool
all_hold [] = true
all_hold (d ∷ ds) = let rest = all_hold ds in pick (holds d) rest false
