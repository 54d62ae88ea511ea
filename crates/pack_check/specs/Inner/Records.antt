-- What the functions that check the records of a pack carry along; only contracts of inner functions cite these.
use Rattle.std.specs.Prelude.{ℕ, ◌<◌, ◌≤◌, ◌≡◌, List, [], ◌∷◌, eqb, length, drop}
use Rattle.word.specs.Choice.{pick}
use Rattle.word.specs.Words.{word_at, bits}
use Rattle.word.specs.Parse.{Parsed, several, Rest, nowhere, from, behind}
use Rattle.bindings.specs.Format.{read_resource, type_code}
use Rattle.bindings.specs.declared.types.Resource.{Resource}
use Rattle.interface.specs.Meaning.{EntryPoint}
use Rattle.interface.specs.Format.{stage_at, distinct_names, read_entry_point}
use Rattle.entry_check.specs.declared.role.Role.{Role}
use Rattle.entry_check.specs.declared.role.Role.TheVariants.{Other, Sampler, Texture}
use Rattle.entry_check.specs.Inner.Walks.{thence, pack_resources, name_behind}

-- the part of a resource in a pair from the word of kind 16
abbrev pub role_of : ℕ → Role
role_of w =
    pick (eqb (type_code w) 1) Sampler
    (pick (eqb (type_code w) 2) Texture (pick (eqb (type_code w) 3) Texture (pick (eqb (type_code w) 5) Texture Other)))

-- an entry point's stage and name stand at a position
pub record HeadAt (ws : List ℕ) (h : ℕ) (e : EntryPoint) : Type 0 where
  pub known : bits 26 24 (word_at ws h) < 5
  pub stage : e.stage ≡ stage_at (bits 26 24 (word_at ws h))
  pub name : e.name ≡ name_behind ws h

pub data Headed (ws : List ℕ) : List ℕ → List EntryPoint → Type 0 where
  none : Headed ws [] []
  more : {h : ℕ} {hs : List ℕ} {e : EntryPoint} {es : List EntryPoint} → HeadAt ws h e → Headed ws hs es → Headed ws (h ∷ hs) (e ∷ es)

-- entry points whose names differ
unfoldable pub entries_behind : List Resource → ℕ → List ℕ → Rest
entries_behind resources n ws = thence (several n (read_entry_point resources) ws) λ entries rest. pick (distinct_names entries) (from rest) nowhere

-- resources and entry points, as many as a word says
unfoldable pub records_behind : ℕ → List ℕ → Rest
records_behind totals ws = thence (several (bits 26 16 totals) read_resource ws) λ resources rest. entries_behind resources (bits 15 0 totals) rest

-- ---- positions of records

-- a position where a reader stops
pub record Stop {A : Type 0} (p : Parsed A) (ws : List ℕ) (at : ℕ) : Type 0 where
  pub some : 1 ≤ at
  pub within : at ≤ length ws
  pub rest : from (drop at ws) ≡ behind p

-- so many positions of a table: at each stops the reader of as many records as stand before it
pub record Stops {A : Type 0} (read : List ℕ → Parsed A) (ws : List ℕ) (start n : ℕ) (table : List ℕ) : Type 0 where
  pub each : (k : ℕ) → k < n → Stop (several k read (drop start ws)) ws (word_at table k)

-- the same for as many entry points as a word says, behind as many resources
pub record EntryStops (ws : List ℕ) (totals : ℕ) (heads : List ℕ) : Type 0 where
  pub start : ℕ
  pub begin : Stop (several (bits 26 16 totals) read_resource (drop 15 ws)) ws start
  pub stops : Stops (read_entry_point (pack_resources (bits 26 16 totals) ws)) ws start (bits 15 0 totals) heads
