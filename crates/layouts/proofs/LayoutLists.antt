-- A layout and its words: what is well formed is exactly what the writer makes.
use Prim.Native.Nat.{ℕ, ◌+◌, ◌*◌, ◌^◌, ◌≤◌}
use native.Mathlib.Omega.{arith}
use mathlib.Core.Path.{◌≡◌, refl, sym, ap}
use mathlib.Core.Bool.{true}
use mathlib.Core.List.{List, [], ◌∷◌, ◌++◌}
use lib.ListN.{length, drop}
use borrow.Author.Tests.{eqb-true, leb-true, le-leb}
use Rattle.std.proofs.lemmas.Bool.{and_from}
use Rattle.word.specs.Words.{word_at, kind_of, bits, of_kind}
use Rattle.bindings.specs.Format.{entry_words, place_of, place_word, entry_of, entry_encodable}
use Rattle.word.proofs.Truth.{first, second}
use Rattle.layouts.specs.Meaning.{Layout, distinct_entries}
use Rattle.word.specs.Lists.{every}
use Rattle.places.specs.Records.{each, count_of}
use Rattle.layouts.specs.Format.{groups_of, read_entry, entry_good, entry_fits, read_entries, layout_head, layout_well_formed, decode_layout, encode_layout, layout_good}
use Rattle.places.proofs.Records.{Joined, Carried, read_length, room_length, flat_read, every_read, carried}
use Rattle.places.proofs.Words.{four}
use lib.Dec.{ltb}
use Rattle.bindings.specs.declared.types.ResourceBinding.{ResourceBinding}
use Rattle.bindings.specs.declared.types.BindGroupLayoutEntry.{BindGroupLayoutEntry}
use Rattle.bindings.proofs.EntryFormat.{place_read, entry_well_formed_lem, entry_read, entry_encodable_lem, entry_back}
use Rattle.places.specs.Places.{read_place}

-- ---- the four words of an entry

entry_wide : (e : BindGroupLayoutEntry) → length (entry_words e) ≡ 4
unfolding entry_words
entry_wide e = refl

entry_again : (e : BindGroupLayoutEntry) (ws : List ℕ) → entry_encodable e ≡ true → read_entry (entry_words e ++ ws) ≡ e
unfolding entry_words
entry_again e ws h = entry_read e h

entry_passed : (groups : ℕ) (e : BindGroupLayoutEntry) (ws : List ℕ) → entry_fits groups e ≡ true → entry_good groups (entry_words e ++ ws) ≡ true
unfolding entry_words
entry_passed groups e ws h =
    let k : entry_encodable e ≡ true = search first in
    let g : ltb e.bind.group groups ≡ true = search second in
    let p : place_of (place_word e.bind) ≡ e.bind = place_read e.bind (search first) in
    rw (entry_well_formed_lem e k, ap (λ (b : ResourceBinding). b.group) p, g)

pub entry_form : (groups : ℕ) → Joined 4 read_entry entry_words (entry_good groups) (entry_fits groups)
unfolding entry_of
entry_form groups =
    record {
      wide = entry_wide;
      written = λ ws h t. rw (entry_back (word_at ws 0) (word_at ws 1) (word_at ws 2) (word_at ws 3) (search first)) (sym (four ws h));
      kept = λ ws t. and_from (entry_encodable (read_entry ws)) (ltb (read_place ws).group groups)
          (entry_encodable_lem (word_at ws 0) (word_at ws 1) (word_at ws 2) (word_at ws 3) (search first)) (search second);
      again = λ e ws t. entry_again e ws (search first);
      passed = entry_passed groups;
    }

-- ---- what well-formed words say

pub record WellFormed (ws : List ℕ) : Type 0 where
  pub short : length ws ≤ 1024
  pub kind : kind_of (word_at ws 0) ≡ 17
  pub groups : groups_of ws ≤ 8
  pub holds : 1 + 4 * count_of ws ≤ length ws
  pub good : each 4 (entry_good (groups_of ws)) (count_of ws) (drop 1 ws) ≡ true
  pub distinct : distinct_entries (read_entries (count_of ws) (drop 1 ws)) ≡ true

pub well_formed : (ws : List ℕ) → layout_well_formed ws ≡ true → WellFormed ws
unfolding layout_well_formed layout_head
well_formed ws h =
    record {
      short = search (leb-true, first);
      kind = search (eqb-true, first, second);
      groups = search (leb-true, first, second);
      holds = search (leb-true, first, second) depth 6;
      good = search (first, second) depth 7;
      distinct = search (second) depth 7;
    }

pub record Good (L : Layout) : Type 0 where
  pub short : 1 + 4 * length L.entries + length L.room ≤ 1024
  pub groups : L.groups ≤ 8
  pub encodable : every (entry_fits L.groups) L.entries ≡ true
  pub distinct : distinct_entries L.entries ≡ true

pub good : (L : Layout) → layout_good L ≡ true → Good L
unfolding layout_good
good L h =
    record {
      short = search (leb-true, first);
      groups = search (leb-true, first, second);
      encodable = search (first, second);
      distinct = search second;
    }

pub is_good : (L : Layout) → Good L → layout_good L ≡ true
unfolding layout_good
is_good L g =
    rw (le-leb (1 + 4 * length L.entries + length L.room) 1024 g.short, le-leb L.groups 8 g.groups, g.encodable, g.distinct)

-- ---- there and back

pub encode_decode : (ws : List ℕ) → layout_well_formed ws ≡ true → encode_layout (decode_layout ws) ≡ ws
unfolding encode_layout decode_layout count_of groups_of
encode_decode [] h = absurd (omega (arith, (well_formed [] h).kind))
encode_decode (w ∷ ws) h =
    let f : WellFormed (w ∷ ws) = well_formed (w ∷ ws) h in
    let k : kind_of w ≡ 17 = f.kind in
    let head : of_kind 17 (2 ^ 16 * bits 26 16 w + bits 15 0 w) ≡ w = omega arith in
    rw (read_length 4 read_entry (bits 15 0 w) ws, head, flat_read (entry_form (bits 26 16 w)) (bits 15 0 w) ws (omega (arith, f.holds)) f.good)

pub good_decode : (ws : List ℕ) → layout_well_formed ws ≡ true → layout_good (decode_layout ws) ≡ true
unfolding decode_layout count_of groups_of
good_decode [] h = absurd (omega (arith, (well_formed [] h).kind))
good_decode (w ∷ ws) h =
    let f : WellFormed (w ∷ ws) = well_formed (w ∷ ws) h in
    let g = bits 26 16 w in
    let n = bits 15 0 w in
    is_good (decode_layout (w ∷ ws))
    (record {
      short = omega (arith, f.short, f.holds, read_length 4 read_entry n ws, room_length 4 n ws);
      groups = f.groups;
      encodable = every_read (entry_form g) n ws f.good;
      distinct = f.distinct;
    })

-- the head of a layout's words
module _ (L : Layout) (h : layout_good L ≡ true) where
  head_kind : kind_of (word_at (encode_layout L) 0) ≡ 17
  unfolding encode_layout
  head_kind = let g : Good L = good L h in omega (arith, g.short, g.groups)

  head_groups : groups_of (encode_layout L) ≡ L.groups
  unfolding encode_layout groups_of
  head_groups = let g : Good L = good L h in omega (arith, g.short, g.groups)

  head_count : count_of (encode_layout L) ≡ length L.entries
  unfolding encode_layout count_of
  head_count = let g : Good L = good L h in omega (arith, g.short, g.groups)

  tail : Carried 4 read_entry (entry_good L.groups) L.entries L.room (drop 1 (encode_layout L))
  unfolding encode_layout
  tail = carried (entry_form L.groups) L.entries L.room (good L h).encodable

  words_length : length (encode_layout L) ≡ 1 + 4 * length L.entries + length L.room
  unfolding encode_layout
  words_length = omega (arith, tail.long)

  pub decode_encode : decode_layout (encode_layout L) ≡ L
  unfolding decode_layout
  decode_encode = rw (head_groups, head_count, tail.again, tail.rest)

  pub well_formed_encode : layout_well_formed (encode_layout L) ≡ true
  unfolding layout_well_formed layout_head
  well_formed_encode =
      let g : Good L = good L h in
      rw (
        head_groups,
        head_count,
        head_kind,
        tail.again,
        tail.pass,
        le-leb (length (encode_layout L)) 1024 (omega (arith, words_length, g.short)),
        le-leb L.groups 8 g.groups,
        le-leb (1 + 4 * length L.entries) (length (encode_layout L)) (omega (arith, words_length)),
        g.distinct,
      )
