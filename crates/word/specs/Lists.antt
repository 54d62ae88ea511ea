-- Tests of lists, and the words of records.
use Rattle.std.specs.Prelude.{ℕ, Bool, true, false, List, [], ◌∷◌, ◌++◌, ◌==◌}
use Rattle.word.specs.Choice.{pick}

-- each of a list passes a test
unfoldable pub every : {A : Type 0} → (A → Bool) → List A → Bool
every test [] = true
every test (a ∷ others) = let rest = every test others in pick (test a) rest false

-- one of a list of numbers
unfoldable pub among : List ℕ → ℕ → Bool
among [] n = false
among (m ∷ ms) n = let rest = among ms n in pick (n == m) true rest

-- the words of records, one after the other
unfoldable pub flat : {A : Type 0} → (A → List ℕ) → List A → List ℕ
flat words [] = []
flat words (a ∷ others) = words a ++ flat words others
