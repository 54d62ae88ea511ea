-- What the definitions say of written-out resources and entries (document 01, 'Traps').
use Prim.Native.Nat.{ℕ, ◌+◌, ◌*◌, ◌^◌}
use mathlib.Core.Path.{◌≡◌, refl}
use mathlib.Core.Bool.{Bool, true, false}
use mathlib.Core.List.{List, [], ◌∷◌}
use lib.Dec.{eqb}
use Rattle.word.specs.Choice.{pick, yes}
use Rattle.word.specs.Words.{of_kind}
use Rattle.bindings.specs.Rules.{view_fits, storage_fits, texture_use, acceleration_use, check_binding_use, derive_binding_type}
use Rattle.bindings.specs.Format.{resource_type_well_formed, resource_type_of, read_resource, binding_type_well_formed, binding_type_of, entry_well_formed, entry_of}
use Rattle.bindings.specs.Answers.{check_words, derive_words}

-- words of group 1, binding 7
abbrev place : ℕ
place = of_kind 4 (2 ^ 23 * 1 + 7)

abbrev typed : ℕ → ℕ → ℕ
typed type content = 2 ^ 23 * type + content

abbrev buffer : ℕ → ℕ → List ℕ
buffer code size = place ∷ of_kind 16 (typed 0 code) ∷ of_kind 6 size ∷ []

abbrev other : ℕ → ℕ → List ℕ
other type content = place ∷ of_kind 16 (typed type content) ∷ []

abbrev entry : ℕ → ℕ → ℕ → List ℕ
entry type content least = place ∷ of_kind 18 (typed type content) ∷ of_kind 6 least ∷ of_kind 19 1 ∷ []

abbrev storage : ℕ → ℕ → ℕ
storage format access = 2 ^ 16 * access + 2 ^ 8 * format + 1

-- the number given on a resource and an entry
abbrev served : List ℕ → List ℕ → ℕ
served resource provided = (check_words resource provided).number

pub record Example : Type 0 where
  pub found : ℕ
  pub right : ℕ

pub examples : List Example
examples =
    -- an entry's format that can't be stored, and one in another view
    record { found = served (other 4 (storage 0 2)) (entry 4 (storage 28 1) 0); right = 30 } ∷
    record { found = served (other 2 0) (entry 4 (storage 28 1) 0); right = 26 } ∷
    -- atomic is compared with atomic, load and store
    record { found = served (other 4 (storage 0 7)) (entry 4 (storage 0 3) 0); right = 0 } ∷
    -- vertex return
    record { found = served (other 6 1) (entry 6 0 0); right = 22 } ∷
    -- a space that is neither uniform nor storage, and an entry that is read-only and not storage
    record { found = (derive_words (buffer 16 64) false).number; right = 24 } ∷
    record { found = served (buffer 0 64) (entry 0 2 0); right = 3 } ∷
    []

pub all_right : List Example → Bool
all_right [] = true
all_right (e ∷ es) = pick (eqb e.found e.right) (all_right es) false

pub examples_right : all_right examples ≡ true
unfolding all_right examples
    check_words derive_words read_resource resource_type_well_formed resource_type_of binding_type_well_formed binding_type_of entry_well_formed entry_of
    view_fits storage_fits texture_use acceleration_use check_binding_use derive_binding_type yes
examples_right = refl
