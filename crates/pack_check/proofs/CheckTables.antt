-- Laws of the positions that are written into tables, for packs that are accepted and for others.
use Prim.Native.Nat.{ℕ, suc, ◌+◌, ◌-◌, ◌<◌, ◌≤◌}
use native.Mathlib.Omega.{arith}
use native.Mathlib.Numerals.{add-one}
use mathlib.Core.Path.{◌≡◌, refl, sym, ◌∙◌}
use mathlib.Core.Bool.{Bool, true, false, not}
use mathlib.Core.List.{List, [], ◌∷◌, ◌++◌, append_assoc}
use borrow.Author.Tests.{not-true, not-false}
use lib.ListN.{length, take, drop, set, length-drop, take-append-drop}
use lib.Seq.{drop-cons, drop-set-lt, take-suc-set}
use Rattle.word.specs.Words.{word_at, bits}
use Rattle.word.specs.Parse.{Parsed, one, several, nowhere, from, behind}
use Rattle.word.proofs.Rests.{faulted, got_from}
use Rattle.bindings.specs.Format.{read_resource}
use Rattle.interface.specs.Format.{of_word, edition_well_formed, totals_well_formed, read_entry_point, damaged, body}
use Rattle.interface.specs.Inner.Parts.{resource_count}
use Rattle.entry_check.specs.Inner.Walks.{listed, pack_resources}
use Rattle.pack_check.specs.Inner.Positions.{over, on_read, positions, entries_from, behind_limits, resources_noted, entries_noted, resource_positions, entry_positions}

-- ---- one more position

-- as many words are left behind a position as the words are longer than it
from_end : (ws : List ℕ) (r : ℕ) → r ≤ length ws → length ws - length (drop r ws) ≡ r
from_end ws r h = omega (arith, length-drop r ws)

module _ {A : Type 0} (read : List ℕ → Parsed A) (ws : List ℕ) (k at : ℕ) where
  -- none from a record on that cannot be read
  position_last : nowhere ≡ behind (read (drop at ws)) → positions read ws (suc k) at ≡ []
  unfolding positions
  position_last f = rw (faulted (read (drop at ws)) f)

  -- that of a record that was read, and those behind it
  position_more : (r : ℕ) → from (drop r ws) ≡ behind (read (drop at ws)) → r ≤ length ws → positions read ws (suc k) at ≡ at ∷ positions read ws k r
  unfolding positions
  position_more r f h =
      got_from (read (drop at ws)) (drop r ws) (λ p. on_read p (λ a rest. at ∷ positions read ws k (length ws - length rest)) ≡ at ∷ positions read ws k r) f
      (λ a. rw (from_end ws r h))

-- a walk that writes them: its start, one more, its ways out
pub positions_begin : {A : Type 0} (read : List ℕ → Parsed A) (ws table : List ℕ) (n at : ℕ)
    → over (positions read ws n at) table ≡ take 0 table ++ over (positions read ws (n - 0) at) (drop 0 table)
positions_begin read ws table n at = let z : n - 0 ≡ n = omega arith in rw z

module _ {A : Type 0} (read : List ℕ → Parsed A) (ws table goal : List ℕ) (n i at : ℕ)
    (inv : goal ≡ take i table ++ over (positions read ws (n - i) at) (drop i table)) where
  -- where none is left, the table is done
  unwritten : positions read ws (n - i) at ≡ [] → table ≡ goal
  unwritten e = sym (inv ∙ rw e (take-append-drop i table))

  pub positions_ended : n ≤ i → table ≡ goal
  unfolding positions
  positions_ended h = let z : n - i ≡ 0 = omega arith in unwritten (rw z)

  module _ (h : i < n) where
    left_one : n - i ≡ suc (n - (i + 1))
    left_one = omega arith

    pub positions_stop : nowhere ≡ behind (read (drop at ws)) → table ≡ goal
    positions_stop f = unwritten (rw left_one (position_last read ws (n - (i + 1)) at f))

    pub positions_more : (r room : ℕ) → from (drop r ws) ≡ behind (read (drop at ws)) → r ≤ length ws → n ≤ room → room ≤ length table
        → goal ≡ take (i + 1) (set table i at) ++ over (positions read ws (n - (i + 1)) r) (drop (i + 1) (set table i at))
    positions_more r room f l few long =
        let p = positions read ws (n - suc i) r in
        inv ∙ rw (left_one, position_more read ws (n - (i + 1)) at r f l, add-one i, take-suc-set table i at (omega arith), drop-set-lt (suc i) table i at (omega arith), drop-cons table i 0 (omega arith))
        (sym (append_assoc (take i table) (at ∷ []) (p ++ drop (length p) (drop (suc i) table))))

-- ---- entry points behind resources

module _ (ws table : List ℕ) (totals : ℕ) where
  -- none where not all resources were read, else those from behind them on
  pub entries_unread : nowhere ≡ behind (several (bits 26 16 totals) read_resource (drop 15 ws)) → table ≡ over (entries_from totals ws) table
  unfolding entries_from
  entries_unread e = rw (faulted (several (bits 26 16 totals) read_resource (drop 15 ws)) e)

  pub entries_noted_lem : (m : List ℕ) (p : ℕ) → from (drop p ws) ≡ behind (several (bits 26 16 totals) read_resource (drop 15 ws)) → p ≤ length ws
      → m ≡ over (positions (read_entry_point (pack_resources (bits 26 16 totals) ws)) ws (bits 15 0 totals) p) table → m ≡ over (entries_from totals ws) table
  unfolding entries_from
  entries_noted_lem m p e h g =
      got_from (several (bits 26 16 totals) read_resource (drop 15 ws)) (drop p ws)
      (λ q. m ≡ over (positions (read_entry_point (listed q)) ws (bits 15 0 totals) p) table
      → m ≡ over (on_read q λ resources rest. positions (read_entry_point resources) ws (bits 15 0 totals) (length ws - length rest)) table) e
      (λ rs d. rw (from_end ws p h) d) g

-- ---- behind the heads and the limits

-- a malformed word there leaves the tables as they were; else they get what the walk behind writes
module _ (ws : List ℕ) (w : ℕ) (b : Bool) (e : w ≡ word_at ws 0) (f : b ≡ edition_well_formed w) where
  pub edition_unwritten : (table at : List ℕ) → not b ≡ true → table ≡ over (behind_limits ws at) table
  unfolding behind_limits
  edition_unwritten table at t = rw (← e, ← f, not-true b t)

  module _ (totals : ℕ) (c : Bool) (t : not b ≡ false) (g : totals ≡ word_at ws 1) (h : c ≡ totals_well_formed totals) where
    pub totals_unwritten : (table at : List ℕ) → not c ≡ true → table ≡ over (behind_limits ws at) table
    unfolding behind_limits
    totals_unwritten table at u = rw (← e, ← f, not-false b t, ← g, ← h, not-true c u)

    module _ (u : not c ≡ false) where
      pub limits_unwritten : (table at : List ℕ) → nowhere ≡ behind (several 13 (one (of_word 3)) (drop 2 ws)) → table ≡ over (behind_limits ws at) table
      unfolding behind_limits
      limits_unwritten table at k = rw (← e, ← f, not-false b t, ← g, ← h, not-false c u, faulted (several 13 (one (of_word 3)) (drop 2 ws)) k)

      module _ (table m : List ℕ) (r : ℕ) (k : from (drop r ws) ≡ behind (several 13 (one (of_word 3)) (drop 2 ws))) where
        passed : (at : List ℕ) → at ≡ behind_limits ws at
        unfolding behind_limits
        passed at =
            rw (← e, ← f, not-false b t, ← g, ← h, not-false c u)
            (got_from (several 13 (one (of_word 3)) (drop 2 ws)) (drop r ws) (λ p. at ≡ on_read p λ limits rest. at) k (λ limits. refl))

        pub resources_written : m ≡ over (positions read_resource ws (bits 26 16 totals) 15) table → m ≡ over (resources_noted ws) table
        resources_written d = rw (← passed (positions read_resource ws (resource_count ws) 15), ← g) d

        pub entries_written : m ≡ over (entries_from totals ws) table → m ≡ over (entries_noted ws) table
        entries_written d = rw (← passed (entries_from (word_at ws 1) ws), ← g) d

-- ---- the whole pack

-- a damaged pack leaves the tables as they were; else they get what the walk over its words writes
module _ (ws table : List ℕ) (b : Bool) (e : b ≡ damaged ws) where
  module _ (t : b ≡ true) where
    pub no_resource_positions : table ≡ over (resource_positions ws) table
    unfolding resource_positions
    no_resource_positions = rw (← e, t)

    pub no_entry_positions : table ≡ over (entry_positions ws) table
    unfolding entry_positions
    no_entry_positions = rw (← e, t)

  module _ (t : b ≡ false) (m : List ℕ) where
    pub resource_positions_lem : m ≡ over (resources_noted (body ws)) table → m ≡ over (resource_positions ws) table
    unfolding resource_positions
    resource_positions_lem d = rw (← e, t) d

    pub entry_positions_lem : m ≡ over (entries_noted (body ws)) table → m ≡ over (entry_positions ws) table
    unfolding entry_positions
    entry_positions_lem d = rw (← e, t) d
