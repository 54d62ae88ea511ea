-- What the code's stores into a layout list make of it.
use Prim.Native.Nat.{ℕ, suc, ◌+◌, ◌*◌, ◌^◌, ◌<◌, ◌≤◌}
use native.Mathlib.Omega.{arith}
use mathlib.Core.Path.{◌≡◌, refl, sym, ap, ◌∙◌}
use mathlib.Core.Bool.{Bool, true, false}
use mathlib.Core.List.{List, [], ◌∷◌, ◌++◌}
use lib.ListN.{length, drop, get_or, set}
use lib.Seq.{drop-drop}
use borrow.Author.Tests.{leb-true}
use Rattle.word.specs.Choice.{pick}
use Rattle.word.specs.Words.{word_at, kind_of, content_of, bits, of_kind}
use Rattle.bindings.specs.Format.{place_word, size_width, size_word, size_standing, binding_type_of, binding_code, least_size_of, entry_well_formed, entry_words, entry_of, parts_well_formed, entry_of_parts, entry_well_formed_at, entry_at}
use Rattle.bindings.specs.declared.types.BindGroupLayoutEntry.{BindGroupLayoutEntry}
use Rattle.bindings.proofs.EntryFormat.{entry_back, least_back}
use Rattle.word.proofs.Truth.{first, second, by_test}
use Rattle.layouts.specs.Meaning.{Layout, entry_has, entry_nth, empty_entry, pushed, join_bit, seen_by, join_at, joined}
use Rattle.places.specs.Records.{room_for, put, past, each, count_of}
use Rattle.word.specs.Lists.{flat}
use Rattle.layouts.specs.Format.{groups_of, read_entry, read_entries, entry_good, entry_fits, layout_well_formed, decode_layout, encode_layout, layout_good}
use Rattle.places.proofs.Words.{there}
use Rattle.word.proofs.Parse.{first_of}
use Rattle.places.proofs.Records.{read_length, room_left, each_nth, put_more, count_more, set_read}
use Rattle.layouts.proofs.LayoutLists.{entry_form, WellFormed, well_formed, encode_decode, decode_encode, well_formed_encode, good_decode}
use Rattle.layouts.proofs.LayoutLaws.{nth_get_or, joined_set, length_join, good_pushed, good_joined}
use Rattle.layouts.proofs.LayoutWays.{entries_counted, nth_read, entry_read}

-- ---- an entry stored

pub entry_stored : (l m : List ℕ) (at p t least s v : ℕ) → parts_well_formed p t least v ≡ true → s ≡ size_word least → m ≡ put l at (p ∷ t ∷ s ∷ v ∷ [])
    → m ≡ put l at (entry_words (entry_of_parts p t least v))
entry_stored l m at p t least s v f e h = rw (entry_back p t (size_word least) v f, ← e) h

-- ---- a new entry

pub words_kept : (ws : List ℕ) → layout_well_formed ws ≡ true → ws ≡ encode_layout (decode_layout ws)
words_kept ws f = sym (encode_decode ws f)

pub head_there : (ws : List ℕ) → layout_well_formed ws ≡ true → 1 ≤ length ws
head_there ws f = omega (arith, (well_formed ws f).holds)

-- a list of 1,024 words has at most 255 entries
pub layout_few : (ws : List ℕ) → layout_well_formed ws ≡ true → length (decode_layout ws).entries ≤ 255
layout_few ws f = omega (arith, (well_formed ws f).holds, (well_formed ws f).short, entries_counted ws)

pub head_more : (ws : List ℕ) (w : ℕ) → layout_well_formed ws ≡ true → w ≡ word_at ws 0 → w + 1 < 2 ^ 32
head_more ws w f e = let k : kind_of w ≡ 17 = rw e (well_formed ws f).kind in omega arith

pushed_words : (ws : List ℕ) (e : BindGroupLayoutEntry) → layout_well_formed ws ≡ true → 1 + 4 * count_of ws + 4 ≤ length ws
    → set (put ws (1 + 4 * count_of ws) (entry_words e)) 0 (word_at ws 0 + 1) ≡ encode_layout (pushed (decode_layout ws) e)
unfolding encode_layout decode_layout pushed count_of groups_of
pushed_words [] e f h = absurd (omega arith)
pushed_words (w ∷ ws) e f h =
    let t : WellFormed (w ∷ ws) = well_formed (w ∷ ws) f in
    let k : kind_of w ≡ 17 = t.kind in
    let n = bits 15 0 w in
    let few : 1 + 4 * n ≤ 1024 = omega (arith, t.short) in
    let fit : 4 * n ≤ length ws = omega arith in
    let head : of_kind 17 (2 ^ 16 * bits 26 16 w + (n + 1)) ≡ w + 1 = omega arith in
    let form = entry_form (bits 26 16 w) in
    put_more form n ws fit t.good w (w + 1) e ∙ rw (count_more form n ws fit t.good e, head)

pub push_room : (ws : List ℕ) (r : Bool) → r ≡ room_for 4 (past 4 (count_of ws) (drop 1 ws)) → r ≡ room_for 4 (decode_layout ws).room
unfolding decode_layout
push_room ws r h = h

module _ (ws ws' : List ℕ) (p t least s v : ℕ) (r : Bool) (f : layout_well_formed ws ≡ true) (er : r ≡ room_for 4 (past 4 (count_of ws) (drop 1 ws)))
    (q : parts_well_formed p t least v ≡ true) (es : s ≡ size_word least)
    (h : ws' ≡ pick r (set (put ws (1 + 4 * count_of ws) (p ∷ t ∷ s ∷ v ∷ [])) 0 (word_at ws 0 + 1)) ws) where
  abbrev more : BindGroupLayoutEntry
  more = entry_of_parts p t least v

  abbrev after : Layout
  after = pick r (pushed (decode_layout ws) more) (decode_layout ws)

  roomy : r ≡ true → 1 + 4 * count_of ws + 4 ≤ length ws
  roomy k = omega (arith, leb-true 4 (length (past 4 (count_of ws) (drop 1 ws))) (sym er ∙ k), room_left 1 4 (count_of ws) ws (well_formed ws f).holds)

  pub push_encoded : ws' ≡ encode_layout after
  push_encoded =
      by_test r
      (λ k.
      let m = put ws (1 + 4 * count_of ws) (p ∷ t ∷ s ∷ v ∷ []) in
      let g : ws' ≡ set m 0 (word_at ws 0 + 1) = rw k at h in
      let w : m ≡ put ws (1 + 4 * count_of ws) (entry_words more) = entry_stored ws m (1 + 4 * count_of ws) p t least s v q es refl in
      rw k (g ∙ ap (λ (x : List ℕ). set x 0 (word_at ws 0 + 1)) w ∙ pushed_words ws more f (roomy k)))
      (λ k.
      let g : ws' ≡ ws = rw k at h in
      rw k (g ∙ words_kept ws f))

  module _ (fits : entry_fits (decode_layout ws).groups more ≡ true) (u : entry_has more.bind (decode_layout ws).entries ≡ false) where
    push_good : layout_good after ≡ true
    push_good =
        by_test r
        (λ k. rw k (good_pushed (decode_layout ws) (good_decode ws f) more fits u (leb-true 4 (length (decode_layout ws).room) (sym (push_room ws r er) ∙ k))))
        (λ k. rw k (good_decode ws f))

    pub push_decoded : decode_layout ws' ≡ after
    push_decoded = rw push_encoded (decode_encode after push_good)

    pub push_well_formed : layout_well_formed ws' ≡ true
    push_well_formed = rw push_encoded (well_formed_encode after push_good)

-- ---- the words of an entry

module _ (l : List ℕ) (i : ℕ) (h : i < length (decode_layout l).entries) where
  pub entry_there_lem : entry_nth (decode_layout l).entries i ≡ entry_at l (1 + 4 * i)
  entry_there_lem = sym (entry_read l i (count_of l) refl (entry_at l (1 + 4 * i)) (rw entries_counted at h) refl)

  pub entry_well_formed_there : layout_well_formed l ≡ true → entry_well_formed_at l (1 + 4 * i) ≡ true
  entry_well_formed_there f =
      let t : entry_good (groups_of l) (drop (4 * i) (drop 1 l)) ≡ true = each_nth 4 (entry_good (groups_of l)) (count_of l) i (drop 1 l) (well_formed l f).good (rw entries_counted at h) in
      let q : entry_well_formed_at (drop (4 * i) (drop 1 l)) 0 ≡ true = search first in
      rw (drop-drop (4 * i) 1 l, first_of l (1 + 4 * i), there l (1 + 4 * i) 1, there l (1 + 4 * i) 2, there l (1 + 4 * i) 3) at q

module _ (l : List ℕ) (i : ℕ) (f : layout_well_formed l ≡ true) (h : i < length (decode_layout l).entries) where
  abbrev entry : BindGroupLayoutEntry
  entry = entry_nth (decode_layout l).entries i

  words_there : entry_words entry ≡ word_at l (1 + 4 * i) ∷ word_at l (1 + 4 * i + 1) ∷ word_at l (1 + 4 * i + 2) ∷ word_at l (1 + 4 * i + 3) ∷ []
  words_there =
      rw (entry_there_lem l i h)
      (entry_back (word_at l (1 + 4 * i)) (word_at l (1 + 4 * i + 1)) (word_at l (1 + 4 * i + 2)) (word_at l (1 + 4 * i + 3)) (entry_well_formed_there l i h f))

  least_word : least_size_of entry.ty ≡ content_of (word_at l (1 + 4 * i + 2))
  unfolding entry_well_formed entry_of
  least_word =
      let d : entry_well_formed_at l (1 + 4 * i) ≡ true = entry_well_formed_there l i h f in
      rw (entry_there_lem l i h) (least_back (word_at l (1 + 4 * i + 1)) (content_of (word_at l (1 + 4 * i + 2))) (search (first, second) depth 8))

  pub least_there : (r : ℕ) → r ≡ size_standing l (1 + 4 * i + 2) → r ≡ least_size_of entry.ty
  least_there r e = rw least_word e

  pub place_there : (x : ℕ) → x ≡ word_at l (1 + 4 * i + 0) → x ≡ place_word entry.bind
  unfolding entry_words
  place_there x e =
      let z : 1 + 4 * i + 0 ≡ 1 + 4 * i = omega arith in
      rw (e, z) (sym (ap (λ (ws : List ℕ). word_at ws 0) words_there))

  module _ (x : ℕ) (e : x ≡ word_at l (1 + 4 * i + 1)) where
    pub type_there : x ≡ of_kind 18 (binding_code entry.ty)
    unfolding entry_words
    type_there = e ∙ sym (ap (λ (ws : List ℕ). word_at ws 1) words_there)

    pub type_means : binding_type_of x (least_size_of entry.ty) ≡ entry.ty
    unfolding entry_of
    type_means = rw (least_word, e) (sym (ap (λ (e : BindGroupLayoutEntry). e.ty) (entry_there_lem l i h)))

  pub visibility_there : (x r : ℕ) → x ≡ word_at l (1 + 4 * i + 3) → r ≡ content_of x → r ≡ entry.visibility
  unfolding entry_of
  visibility_there x r e q = rw (entry_there_lem l i h, ← e) q

-- ---- positions of an entry's words

module _ (l : List ℕ) (i : ℕ) (f : layout_well_formed l ≡ true) (h : i < length (decode_layout l).entries) where
  entry_low : 4 * i + 4 < length l
  entry_low = omega (arith, (well_formed l f).holds, entries_counted l)

  pub entry_scaled : 4 * i < 2 ^ 64
  entry_scaled = omega (arith, entry_low, (well_formed l f).short)

  pub entry_placed : 1 + 4 * i < 2 ^ 64
  entry_placed = omega (arith, entry_low, (well_formed l f).short)

  module _ (k : ℕ) (n : k < 4) where
    pub word_placed : 1 + 4 * i + k < 2 ^ 64
    word_placed = omega (arith, entry_low, (well_formed l f).short)

    pub word_bytes : (1 + 4 * i + k) * 4 < 2 ^ 64
    word_bytes = omega (arith, entry_low, (well_formed l f).short)

    pub word_inside : 1 + 4 * i + k < length l
    word_inside = omega (arith, entry_low)

  pub size_inside : 1 + 4 * i + 2 + size_width ≤ length l
  size_inside = omega (arith, entry_low)

-- ---- a stage joined

seen_words : (s : ℕ) (e : BindGroupLayoutEntry) → entry_words (seen_by s e) ≡ set (entry_words e) 3 (of_kind 19 (join_bit s e.visibility))
unfolding entry_words
seen_words s e = refl

seen_read : (n i : ℕ) (ws : List ℕ) → i < n → (entry_nth (read_entries n ws) i).visibility ≡ content_of (word_at ws (4 * i + 3))
unfolding entry_of
seen_read n i ws h = ap (λ (e : BindGroupLayoutEntry). e.visibility) (nth_read n i ws h) ∙ rw (there ws (4 * i) 3)

joined_tail : (g n i s : ℕ) (ws : List ℕ) → 4 * n ≤ length ws → each 4 (entry_good g) n ws ≡ true → i < n
    → set ws (4 * i + 3) (of_kind 19 (join_bit s (content_of (word_at ws (4 * i + 3))))) ≡ flat entry_words (join_at s (read_entries n ws) i) ++ past 4 n ws
joined_tail g n i s ws h t k =
    let es = read_entries n ws in
    let v = of_kind 19 (join_bit s (content_of (word_at ws (4 * i + 3)))) in
    let c : entry_words (seen_by s (entry_nth es i)) ≡ set (entry_words (get_or es i empty_entry)) 3 v
    = rw (← nth_get_or es i, ← seen_read n i ws k) (seen_words s (entry_nth es i)) in
    set_read (entry_form g) n i 3 v ws (seen_by s (entry_nth es i)) empty_entry h t k (omega arith) c ∙ ap (λ p. flat entry_words p ++ past 4 n ws) (sym (joined_set s es i))

joined_words : (l : List ℕ) (i s : ℕ) → layout_well_formed l ≡ true → i < length (decode_layout l).entries
    → set l (1 + 4 * i + 3) (of_kind 19 (join_bit s (content_of (word_at l (1 + 4 * i + 3))))) ≡ encode_layout (joined s (decode_layout l) i)
unfolding encode_layout decode_layout joined count_of groups_of
joined_words [] i s f h = absurd (omega (arith, (well_formed [] f).kind))
joined_words (w ∷ ws) i s f h =
    let t : WellFormed (w ∷ ws) = well_formed (w ∷ ws) f in
    let n = bits 15 0 w in
    let q : kind_of w ≡ 17 = t.kind in
    let a : 1 + 4 * i + 3 ≡ suc (4 * i + 3) = omega arith in
    let k : i < n = omega (arith, read_length 4 read_entry n ws) in
    let head : of_kind 17 (2 ^ 16 * bits 26 16 w + n) ≡ w = omega arith in
    rw (
      a,
      length_join s (read_entries n ws) i,
      read_length 4 read_entry n ws,
      head,
      joined_tail (bits 26 16 w) n i s ws (omega (arith, t.holds)) t.good k,
    )

module _ (l : List ℕ) (i s c v : ℕ) (f : layout_well_formed l ≡ true) (h : i < length (decode_layout l).entries) (x : ℕ) (ex : x ≡ word_at l (1 + 4 * i + 3))
    (ec : c ≡ content_of x) (ev : v ≡ join_bit s c) where
  pub join_stored : set l (1 + 4 * i + 3) (0x98000000 + v) ≡ encode_layout (joined s (decode_layout l) i)
  join_stored = rw (ev, ec, ex) (joined_words l i s f h)

  pub join_decoded : s < 5 → decode_layout (set l (1 + 4 * i + 3) (0x98000000 + v)) ≡ joined s (decode_layout l) i
  join_decoded hs = rw join_stored (decode_encode (joined s (decode_layout l) i) (good_joined (decode_layout l) (good_decode l f) s i (omega arith) h))

  pub join_well_formed : s < 5 → layout_well_formed (set l (1 + 4 * i + 3) (0x98000000 + v)) ≡ true
  join_well_formed hs = rw join_stored (well_formed_encode (joined s (decode_layout l) i) (good_joined (decode_layout l) (good_decode l f) s i (omega arith) h))
