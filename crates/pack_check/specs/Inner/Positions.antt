-- The positions that the check of a pack writes into its two tables, whether it accepts the pack or not.
use Rattle.std.specs.Prelude.{ℕ, zero, suc, ◌-◌, List, [], ◌∷◌, ◌++◌, length, drop}
use Rattle.word.specs.Choice.{pick}
use Rattle.word.specs.Words.{word_at, bits}
use Rattle.word.specs.Parse.{Parsed, fault, got, one, several}
use Rattle.bindings.specs.Format.{read_resource}
use Rattle.interface.specs.Format.{of_word, edition_well_formed, totals_well_formed, read_entry_point, damaged, body}
use Rattle.interface.specs.Inner.Parts.{resource_count}

-- words written over the start of a table
abbrev pub over : List ℕ → List ℕ → List ℕ
over positions table = positions ++ drop (length positions) table

-- on from what a reader got; nothing where it faulted
abbrev pub on_read : {A : Type 0} → Parsed A → (A → List ℕ → List ℕ) → List ℕ
on_read fault k = []
on_read (got a rest) k = k a rest

-- the positions of as many records, from one on, up to the first that cannot be read
unfoldable pub positions : {A : Type 0} → (List ℕ → Parsed A) → List ℕ → ℕ → ℕ → List ℕ
positions read ws zero at = []
positions read ws (suc n) at = on_read (read (drop at ws)) λ a rest. at ∷ positions read ws n (length ws - length rest)

-- those of as many entry points as a word says, behind as many resources; nothing where not all resources can be read
unfoldable pub entries_from : ℕ → List ℕ → List ℕ
entries_from totals ws =
    on_read (several (bits 26 16 totals) read_resource (drop 15 ws)) λ resources rest.
    positions (read_entry_point resources) ws (bits 15 0 totals) (length ws - length rest)

-- positions behind the two heads and thirteen limits; nothing where one of these words is malformed
unfoldable pub behind_limits : List ℕ → List ℕ → List ℕ
behind_limits ws at =
    pick (edition_well_formed (word_at ws 0)) (pick (totals_well_formed (word_at ws 1)) (on_read (several 13 (one (of_word 3)) (drop 2 ws)) λ limits rest. at) []) []

-- the positions of resources and of entry points among the words before the closing one
abbrev pub resources_noted : List ℕ → List ℕ
resources_noted ws = behind_limits ws (positions read_resource ws (resource_count ws) 15)

abbrev pub entries_noted : List ℕ → List ℕ
entries_noted ws = behind_limits ws (entries_from (word_at ws 1) ws)

-- the tables of a pack: nothing where it is damaged
unfoldable pub resource_positions : List ℕ → List ℕ
resource_positions ws = pick (damaged ws) [] (resources_noted (body ws))

unfoldable pub entry_positions : List ℕ → List ℕ
entry_positions ws = pick (damaged ws) [] (entries_noted (body ws))
