-- The code's ways through a layout list.
use Rattle.std.proofs.Common.{Option}
use Prim.Native.Nat.{ℕ, ◌+◌, ◌*◌, ◌%◌, ◌<◌, ◌≤◌, min}
use native.Mathlib.Omega.{arith}
use mathlib.Core.Path.{◌≡◌, sym, ◌∙◌}
use mathlib.Core.Bool.{Bool, true, ◌&&◌}
use mathlib.Core.List.{List}
use lib.Dec.{eqb, leb}
use lib.ListN.{length, drop, take}
use lib.Seq.{drop-drop, take_all, take-length, length-take-le}
use borrow.Author.Tests.{leb-true, leb-false}
use Rattle.word.specs.Words.{word_at, kind_of, bits}
use Rattle.bindings.specs.Format.{entry_well_formed, entry_well_formed_at, entry_at, entry_of}
use Rattle.bindings.specs.declared.types.ResourceBinding.{ResourceBinding}
use Rattle.bindings.specs.declared.types.BindGroupLayoutEntry.{BindGroupLayoutEntry}
use Rattle.word.proofs.Truth.{first, second, by_test}
use Rattle.places.specs.Inner.Begins.{place_first}
use Rattle.places.specs.Places.{place_from, distinct_places, found_below, places}
use Rattle.layouts.specs.Meaning.{distinct_entries, entry_places, find_entry, entry_nth, empty_entry}
use Rattle.places.specs.Records.{each, count_of}
use Rattle.layouts.specs.Format.{groups_of, read_entry, entry_good, read_entries, layout_head, layout_well_formed, decode_layout, used_words}
use Rattle.places.proofs.Records.{each_weaker, read_length, read_mapped, nth_record}
use Rattle.layouts.proofs.LayoutLists.{well_formed}
use Rattle.layouts.proofs.LayoutLaws.{nth_get_or}
use Rattle.places.proofs.Words.{there, slice_from, slice_from_is, slice_holds}
use Rattle.word.proofs.Parse.{first_of}

pub head_word_lem : (ws : List ℕ) (w k : ℕ) (r : Bool) → w ≡ word_at ws 0 → k ≡ kind_of w
    → r ≡ (eqb k 17 && (leb (bits 26 16 w) 8 && leb (1 + 4 * bits 15 0 w) (length ws))) → r ≡ layout_head ws
unfolding layout_head count_of groups_of
head_word_lem ws w k r e q h = rw (← e, ← q) h

pub head_holds : (ws : List ℕ) (b : Bool) → b ≡ layout_head ws → b ≡ true → 1 + 4 * count_of ws ≤ length ws
unfolding layout_head
head_holds ws b e h = let t = sym e ∙ h in search (leb-true, second)

-- whether each entry passes, told of the words behind the head
pub entries_tested : (l : List ℕ) (n groups : ℕ) (b : Bool) → n ≡ count_of l → groups ≡ (decode_layout l).groups → b ≡ each 4 (entry_good groups) n (slice_from l 1)
    → b ≡ each 4 (entry_good (groups_of l)) (count_of l) (drop 1 l)
unfolding decode_layout
entries_tested l n groups b e g h = rw (e, g, slice_from_is l 1) at h

-- ---- places

entry_places_lem : (n : ℕ) (ws : List ℕ) → entry_places (read_entries n ws) ≡ places 4 n ws
unfolding entry_of
entry_places_lem n ws = read_mapped 4 read_entry (λ e. e.bind) n ws

pub entries_distinct : (l : List ℕ) (n : ℕ) (r : Bool) → n ≡ count_of l → r ≡ distinct_places (places 4 n (slice_from l 1))
    → r ≡ distinct_entries (read_entries (count_of l) (drop 1 l))
entries_distinct l n r e h = rw (entry_places_lem (count_of l) (drop 1 l)) (rw (e, slice_from_is l 1) at h)

pub entry_found : (l : List ℕ) (n : ℕ) (place : ResourceBinding) (r : Option ℕ) → n ≡ count_of l → r ≡ place_from place (places 4 n (slice_from l 1)) 0
    → r ≡ find_entry place (decode_layout l)
unfolding decode_layout
entry_found l n place r e h = rw (entry_places_lem (count_of l) (drop 1 l)) (rw (e, slice_from_is l 1) at h)

module _ (l : List ℕ) (n : ℕ) (f : layout_well_formed l ≡ true) (e : n ≡ count_of l) where
  -- entries begin with a place's word
  pub entries_begin : each 4 place_first n (slice_from l 1) ≡ true
  unfolding entry_well_formed
  entries_begin =
      rw (e, slice_from_is l 1)
      (each_weaker 4 (entry_good (groups_of l)) place_first (λ ws t. first (place_first ws) _ (first (entry_well_formed_at ws 0) _ t)) (count_of l) (drop 1 l) (well_formed l f).good)

  -- no two entries have one place
  pub entries_differ : distinct_places (places 4 n (slice_from l 1)) ≡ true
  entries_differ = rw (e, slice_from_is l 1) (rw (entry_places_lem (count_of l) (drop 1 l)) at (well_formed l f).distinct)

  pub entries_within : 4 * n ≤ length (slice_from l 1)
  entries_within = slice_holds l 1 (4 * n) (omega (arith, (well_formed l f).holds))

pub entries_counted : (l : List ℕ) → length (decode_layout l).entries ≡ count_of l
unfolding decode_layout
entries_counted l = read_length 4 read_entry (count_of l) (drop 1 l)

pub entry_below : (l : List ℕ) (n : ℕ) (r : Option ℕ) → n ≡ count_of l → found_below n r ≡ true → found_below (length (decode_layout l).entries) r ≡ true
entry_below l n r e h = rw (entries_counted l, ← e) h

pub groups_decoded : (l : List ℕ) (w : ℕ) → w ≡ word_at l 0 → bits 26 16 w ≡ (decode_layout l).groups
unfolding decode_layout groups_of
groups_decoded l w e = rw e

-- ---- the entry at a position

pub nth_read : (n i : ℕ) (ws : List ℕ) → i < n → entry_nth (read_entries n ws) i ≡ read_entry (drop (4 * i) ws)
nth_read n i ws h = nth_get_or (read_entries n ws) i ∙ nth_record 4 read_entry n i ws empty_entry h

module _ (l : List ℕ) (i n : ℕ) (e : n ≡ count_of l) where
  pub entry_read : (r : BindGroupLayoutEntry) → i < n → r ≡ entry_at l (1 + 4 * i) → r ≡ entry_nth (decode_layout l).entries i
  unfolding decode_layout
  entry_read r h f =
      rw (
        nth_read (count_of l) i (drop 1 l) (omega arith),
        drop-drop (4 * i) 1 l,
        first_of l (1 + 4 * i),
        there l (1 + 4 * i) 1,
        there l (1 + 4 * i) 2,
        there l (1 + 4 * i) 3,
      ) f

-- ---- the words in use

module _ (l : List ℕ) (w n r : ℕ) (e : w ≡ word_at l 0) (f : n ≡ 1 + 4 * (w % 65536)) (m : r ≡ min n (length l)) where
  pub used_are : take r l ≡ used_words l
  unfolding count_of
  used_are =
      let t : used_words l ≡ take n l = rw (f, e) in
      by_test (leb n (length l))
      (λ b. let h : n ≤ length l = leb-true n (length l) b in let k : r ≡ n = omega arith in rw k (sym t))
      (λ b.
      let h : length l < n = leb-false n (length l) b in
      let k : r ≡ length l = omega arith in
      rw k (take-length l ∙ sym (t ∙ take_all n l (omega arith))))

  -- there are as many as were counted
  pub used_counted : r ≡ length (used_words l)
  used_counted = rw (← used_are) (sym (length-take-le r l (omega arith)))
