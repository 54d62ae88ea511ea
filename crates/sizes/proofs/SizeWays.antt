-- The code's ways through a size list.
use Prim.Native.Nat.{ℕ, ◌+◌, ◌*◌, ◌<◌, ◌≤◌, max}
use native.Mathlib.Omega.{arith}
use mathlib.Core.Path.{◌≡◌, sym, ◌∙◌}
use mathlib.Core.Bool.{Bool, true, ◌&&◌}
use mathlib.Core.List.{List}
use lib.Dec.{eqb, leb}
use lib.ListN.{length, drop, set}
use lib.Seq.{set-get_or}
use borrow.Author.Tests.{leb-true}
use Rattle.word.specs.Words.{word_at, kind_of, bits}
use Rattle.word.proofs.Truth.{second}
use Rattle.places.specs.Places.{distinct_places, places}
use Rattle.sizes.specs.Meaning.{distinct_sizes, size_places}
use Rattle.places.specs.Records.{count_of, each}
use Rattle.sizes.specs.Format.{read_size, size_good, read_sizes, sizes_head}
use Rattle.places.proofs.Records.{read_mapped}
use Rattle.places.proofs.Words.{slice_from, slice_from_is}

pub head_word_lem : (ws : List ℕ) (w k : ℕ) (r : Bool) → w ≡ word_at ws 0 → k ≡ kind_of w
    → r ≡ (eqb k 20 && (eqb (bits 26 16 w) 0 && leb (1 + 2 * bits 15 0 w) (length ws))) → r ≡ sizes_head ws
unfolding sizes_head count_of
head_word_lem ws w k r e q h = rw (← e, ← q) h

pub head_holds : (ws : List ℕ) (b : Bool) → b ≡ sizes_head ws → b ≡ true → 1 + 2 * count_of ws ≤ length ws
unfolding sizes_head
head_holds ws b e h = let t = sym e ∙ h in search (leb-true, second)

-- whether each record passes, told of the words behind the head
pub sizes_tested : (l : List ℕ) (n : ℕ) (b : Bool) → n ≡ count_of l → b ≡ each 2 size_good n (slice_from l 1) → b ≡ each 2 size_good (count_of l) (drop 1 l)
sizes_tested l n b e h = rw (e, slice_from_is l 1) at h

-- ---- places

pub size_places_lem : (n : ℕ) (ws : List ℕ) → size_places (read_sizes n ws) ≡ places 2 n ws
size_places_lem n ws = read_mapped 2 read_size (λ s. s.bind) n ws

pub sizes_distinct : (l : List ℕ) (n : ℕ) (r : Bool) → n ≡ count_of l → r ≡ distinct_places (places 2 n (slice_from l 1))
    → r ≡ distinct_sizes (read_sizes (count_of l) (drop 1 l))
sizes_distinct l n r e h = rw (size_places_lem (count_of l) (drop 1 l)) (rw (e, slice_from_is l 1) at h)

-- the larger of a word and the one at a position
module _ (l : List ℕ) (at w : ℕ) where
  pub word_raised : word_at l at < w → set l at w ≡ set l at (max (word_at l at) w)
  word_raised h = let m : max (word_at l at) w ≡ w = omega arith in rw m

  pub word_kept : w ≤ word_at l at → l ≡ set l at (max (word_at l at) w)
  word_kept h = let m : max (word_at l at) w ≡ word_at l at = omega arith in rw m (sym (set-get_or l at 0))
