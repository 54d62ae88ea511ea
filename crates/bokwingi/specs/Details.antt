-- How an answer is handed to a caller in C: the number as the result, the details in a lent slice.
use Rattle.std.specs.Prelude.{ℕ, ◌≡◌, List, [], ◌∷◌}
use Rattle.word.specs.declared.answer.Answer.{Answer}

-- the first three words of a list, as many as there are, replaced by the details; the rest untouched
unfoldable pub with_details : List ℕ → Answer → List ℕ
with_details [] a = []
with_details (x ∷ []) a = a.first ∷ []
with_details (x ∷ y ∷ []) a = a.first ∷ a.second ∷ []
with_details (x ∷ y ∷ z ∷ rest) a = a.first ∷ a.second ∷ a.third ∷ rest

-- an answer handed out: its number is the result, its details stand in the lent slice
pub record Handed (a : Answer) (number : ℕ) (before after : List ℕ) : Type 0 where
  pub result : number ≡ a.number
  pub details : after ≡ with_details before a
