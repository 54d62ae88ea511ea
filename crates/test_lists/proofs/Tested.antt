-- What the program's tests say of the lists, entries and variables that it hands on.
use Rattle.std.proofs.Common.{Option, None}
use Rattle.std.proofs.lemmas.Bool.{and_from}
use Prim.Native.Nat.{ℕ, ◌+◌, ◌*◌, ◌^◌, ◌<◌, ◌≤◌, ◌%◌}
use native.Mathlib.Omega.{arith}
use mathlib.Core.Path.{◌≡◌, refl, sym, ◌∙◌}
use mathlib.Core.Bool.{Bool, true, false, not, ◌&&◌}
use mathlib.Core.List.{List, [], ◌∷◌}
use lib.Dec.{leb, ltb}
use lib.ListN.{length, drop, set, length-drop, take}
use lib.Seq.{length-take-le}
use borrow.Author.Tests.{eqb-true, not-true, not-false, lt-ltb, le-ltb, ltb-true, leb-true, eq-eqb}
use Rattle.word.specs.Words.{word_at, kind_of, content_of, bits}
use Rattle.bindings.specs.Format.{place_of, size_limit, size_word, entry_encodable, entry_well_formed, entry_of, parts_well_formed, entry_of_parts, place_well_formed}
use Rattle.bindings.specs.declared.types.ResourceBinding.{ResourceBinding}
use Rattle.bindings.proofs.EntryFormat.{entry_encodable_lem}
use Rattle.varying.specs.Format.{var_well_formed, var_of, located_encodable, payload_of, payload_encodable}
use Rattle.word.proofs.Truth.{first, second}
use Rattle.varying.proofs.Joined.{var_encodable_lem, payload_encodable_lem}
use Rattle.layouts.specs.Meaning.{Layout, entry_places, entry_has, find_entry}
use Rattle.places.specs.Records.{count_of}
use Rattle.layouts.specs.Format.{entry_fits, decode_layout}
use Rattle.stage_lists.specs.Format.{read_located, out_well_formed, stage_well_formed, decode_stage}
use Rattle.places.proofs.PlaceWays.{place_lacks}
use Rattle.places.proofs.Records.{read_length, room_length}
use Rattle.layouts.proofs.LayoutWays.{entries_counted}
use Rattle.stage_lists.proofs.StageWays.{first_there}
use Rattle.test_lists.specs.Room.{has_room}

told_true : (b t : Bool) → b ≡ t → not b ≡ false → t ≡ true
told_true b t e n = sym e ∙ not-false b n

-- the parts of a length of two lists of one length
pub parts_alike : (n m : ℕ) (a b : List ℕ) → n ≤ m → length a ≡ m → length b ≡ m → length (take n a) ≡ length (take n b)
parts_alike n m a b h p q = length-take-le n a (omega arith) ∙ sym (length-take-le n b (omega arith))

pub place_passed : (place : ℕ) → place_well_formed (0x20000000 + place % 0x800_0000) ≡ true
place_passed place = eq-eqb (kind_of (0x20000000 + place % 0x800_0000)) 4 (omega arith)

-- ---- layouts

pub entry_there_lem : (l : List ℕ) (n i : ℕ) → n ≡ count_of l → i < n → i < length (decode_layout l).entries
entry_there_lem l n i e h = rw (entries_counted l, ← e) h

pub group_fits : (p g m : ℕ) → g ≡ m → bits 26 23 p < g → bits 26 23 p < m
group_fits p g m e h = omega arith

pub found_none : (place : ResourceBinding) (L : Layout) (f : Option ℕ) → f ≡ find_entry place L → f ≡ None → find_entry place L ≡ None
found_none place L f q e = sym q ∙ e

-- well formed words are the parts of an entry, by the size that the third carries
module _ (p t s v least : ℕ) (q : least ≡ content_of s) where
  pub least_small : least < size_limit
  least_small = omega arith

  module _ (h : entry_well_formed p t s v ≡ true) where
    size_again : size_word least ≡ s
    unfolding entry_well_formed
    size_again = let k : kind_of s ≡ 6 = search (eqb-true, first, second) depth 8 in omega arith

    pub parts_passed : parts_well_formed p t least v ≡ true
    parts_passed = rw size_again h

    pub entry_fits_lem : (L : Layout) → bits 26 23 p < L.groups → entry_fits L.groups (entry_of_parts p t least v) ≡ true
    unfolding entry_of
    entry_fits_lem L n =
        rw size_again
        (and_from (entry_encodable (entry_of p t s v)) (ltb (bits 26 23 p) L.groups) (entry_encodable_lem p t s v h) (lt-ltb (bits 26 23 p) L.groups n))

pub place_new : (p t least v : ℕ) (L : Layout) → find_entry (place_of p) L ≡ None → entry_has (entry_of_parts p t least v).bind L.entries ≡ false
unfolding entry_of
place_new p t least v L h = sym (place_lacks (place_of p) (entry_places L.entries) (find_entry (place_of p) L) refl h)

-- ---- the list out

pub payload_fits : (p : Option ℕ) (w : ℕ) → p ≡ payload_of w → payload_encodable p ≡ true
payload_fits p w e = rw e (payload_encodable_lem w)

pub located_fits : (location w : ℕ) (b : Bool) → b ≡ var_well_formed w → not b ≡ false → location < 2 ^ 27
    → located_encodable (record { location = content_of (0x60000000 + location); var = var_of w }) ≡ true
located_fits location w b q h n =
    let e : content_of (0x60000000 + location) ≡ location = omega arith in
    rw (e, lt-ltb location (2 ^ 27) n) (var_encodable_lem w (told_true b (var_well_formed w) q h))

own_head : (l : List ℕ) (head : ℕ) → head ≡ word_at l 0 → set l 0 head ≡ l
own_head [] head e = refl
own_head (w ∷ ws) head e = rw e

module _ (l : List ℕ) (h : has_room l ≡ true) where
  list_well_formed : out_well_formed l ≡ true
  unfolding has_room
  list_well_formed = first (out_well_formed l) (ltb (count_of l) 63 && leb (2 + 2 * count_of l + 2) (length l)) h

  counted : (ltb (count_of l) 63 && leb (2 + 2 * count_of l + 2) (length l)) ≡ true
  unfolding has_room
  counted = second (out_well_formed l) (ltb (count_of l) 63 && leb (2 + 2 * count_of l + 2) (length l)) h

  few : length (decode_stage l).varyings < 63
  unfolding decode_stage
  few =
      let n = ltb-true (count_of l) 63 (first (ltb (count_of l) 63) (leb (2 + 2 * count_of l + 2) (length l)) counted) in
      omega (arith, n, read_length 2 read_located (count_of l) (drop 2 l))

  long : 2 + 2 * count_of l + 2 ≤ length l
  long = leb-true (2 + 2 * count_of l + 2) (length l) (second (ltb (count_of l) 63) (leb (2 + 2 * count_of l + 2) (length l)) counted)

  roomy : 2 ≤ length (decode_stage l).room
  unfolding decode_stage
  roomy = omega (arith, long, room_length 2 (count_of l) (drop 2 l), length-drop 2 l)

pub stage_out_lem : (l : List ℕ) (b : Bool) → b ≡ stage_well_formed l → not b ≡ false → out_well_formed l ≡ true
stage_out_lem l b e h = second (leb (length l) 1024) (out_well_formed l) (told_true b (stage_well_formed l) e h)

pub out_there : (l : List ℕ) (b : Bool) → b ≡ out_well_formed l → not b ≡ false → 1 ≤ length l
out_there l b e h = first_there l (told_true b (out_well_formed l) e h)

-- what has room, with its own head
module _ (l : List ℕ) (b : Bool) (q : b ≡ has_room l) (t : not b ≡ false) where
  pub head_there : 0 < length l
  head_there = omega (arith, long l (told_true b (has_room l) q t))

  pub head_stays : (m : List ℕ) → length m ≡ length l → 0 < length m
  head_stays m e = omega (arith, head_there)

  module _ (head : ℕ) (e : head ≡ word_at l 0) where
    pub list_out : out_well_formed (set l 0 head) ≡ true
    list_out = rw (own_head l head e) (list_well_formed l (told_true b (has_room l) q t))

    pub variables_few : length (decode_stage (set l 0 head)).varyings < 63
    variables_few = rw (own_head l head e) (few l (told_true b (has_room l) q t))

    pub room_enough : 2 ≤ length (decode_stage (set l 0 head)).room
    room_enough = rw (own_head l head e) (roomy l (told_true b (has_room l) q t))

-- the code's ways through the test of the room
module _ (l : List ℕ) (b : Bool) (q : b ≡ out_well_formed l) where
  pub no_list : not b ≡ true → false ≡ has_room l
  unfolding has_room
  no_list h = rw (← q, not-true b h)

  module _ (n : ℕ) (h : not b ≡ false) (e : n ≡ count_of l) where
    pub full : 63 ≤ n → ltb n 63 ≡ has_room l
    unfolding has_room
    full k = rw (← q, not-false b h, ← e, le-ltb n 63 k)

    pub rest_decides : n < 63 → leb (2 + 2 * n + 2) (length l) ≡ has_room l
    unfolding has_room
    rest_decides k = rw (← q, not-false b h, ← e, lt-ltb n 63 k)
