-- Readers of a format: from words to a meaning and the words behind it, or a fault.
use Rattle.std.specs.Prelude.{ℕ, zero, suc, Bool, Option, Some, None, List, [], ◌∷◌, drop}
use Rattle.word.specs.Choice.{pick}

pub data Parsed (A : Type 0) : Type 0 where
  fault : Parsed A
  got : A → List ℕ → Parsed A

-- reads on from where a reader stopped
abbrev pub next : {A B : Type 0} → Parsed A → (A → List ℕ → Parsed B) → Parsed B
next fault k = fault
next (got a rest) k = k a rest

-- one word that passes a test
abbrev pub one : (ℕ → Bool) → List ℕ → Parsed ℕ
one test [] = fault
one test (w ∷ ws) = pick (test w) (got w ws) fault

-- as many of a record as a count says
unfoldable pub several : {A : Type 0} → ℕ → (List ℕ → Parsed A) → List ℕ → Parsed (List A)
several zero read ws = got [] ws
several (suc n) read ws = next (read ws) λ a rest. next (several n read rest) λ others rest. got (a ∷ others) rest

-- where a reader stopped, whatever it read: at the words behind, or nowhere
pub data Rest : Type 0 where
  nowhere : Rest
  from : List ℕ → Rest

abbrev pub behind : {A : Type 0} → Parsed A → Rest
behind fault = nowhere
behind (got a rest) = from rest

-- a position as the words from there on, if there is one
abbrev pub rest_of : List ℕ → Option ℕ → Rest
rest_of ws None = nowhere
rest_of ws (Some at) = from (drop at ws)
