-- Where the variable at a location stands among the words of a stage list.
use Rattle.std.specs.Prelude.{ℕ, ◌+◌, List, [], ◌∷◌, eqb, Option, Some, None}
use Rattle.word.specs.Choice.{pick}
use Rattle.varying.specs.declared.Located.{Located}

-- where the word of the variable at a location stands, the first variable's at a position and each next one's two words on
unfoldable pub location_from : ℕ → List Located → ℕ → Option ℕ
location_from location [] at = None
location_from location (v ∷ vs) at = let rest = location_from location vs (at + 2) in pick (eqb v.location location) (Some at) rest
