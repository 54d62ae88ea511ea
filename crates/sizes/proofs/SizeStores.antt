-- What the code's stores into a size list make of it.
use Rattle.std.proofs.Common.{Option, Some, None}
use Prim.Native.Nat.{ℕ, suc, ◌+◌, ◌-◌, ◌*◌, ◌^◌, ◌<◌, ◌≤◌, max}
use native.Mathlib.Omega.{arith}
use mathlib.Core.Path.{◌≡◌, refl, sym, ap, ◌∙◌}
use mathlib.Core.Bool.{Bool, true, false}
use mathlib.Core.List.{List, [], ◌∷◌, ◌++◌}
use lib.ListN.{length, drop, get_or, set}
use borrow.Author.Tests.{eqb-true, leb-true}
use Rattle.word.specs.Choice.{pick}
use Rattle.word.specs.Words.{word_at, kind_of, content_of, bits, of_kind}
use Rattle.bindings.specs.Format.{place_well_formed, place_of, size_limit, size_word}
use Rattle.word.specs.Lists.{flat}
use Rattle.bindings.specs.declared.types.ResourceBinding.{ResourceBinding}
use Rattle.bindings.proofs.ReadLaws.{place_encodable_lem}
use Rattle.bindings.proofs.EntryFormat.{place_back}
use Rattle.word.proofs.Truth.{first, second, by_test}
use Rattle.sizes.specs.Meaning.{size_places, size_has, size_record, size_fits, recorded}
use Rattle.places.specs.Places.{found_below, place_from, distinct_places, places}
use Rattle.places.specs.Records.{room_for, put, past, each, count_of}
use Rattle.sizes.specs.Format.{read_size, read_sizes, size_good, size_record_words, sizes_well_formed, decode_sizes, encode_sizes, sizes_good}
use Rattle.sizes.specs.declared.size_record.SizeRecord.{SizeRecord}
use Rattle.sizes.specs.Inner.Near.{find_size, note_next}
use Rattle.places.proofs.Words.{there, slice_from, slice_from_is, slice_holds}
use Rattle.places.specs.Inner.Begins.{place_first}
use Rattle.places.proofs.Records.{each_weaker, read_length, room_left, nth_record, each_nth, put_more, count_more, set_read}
use Rattle.places.proofs.PlaceWays.{place_found, place_lacks, found_inside}
use Rattle.sizes.proofs.SizeLists.{size_form, WellFormed, well_formed, encode_decode, decode_encode, well_formed_encode, good_decode}
use Rattle.sizes.proofs.SizeLaws.{raised, no_record, raised_set, length_raised, good_recorded}
use Rattle.sizes.proofs.SizeWays.{size_places_lem}

module _ (s : List ℕ) (n : ℕ) (f : sizes_well_formed s ≡ true) (e : n ≡ count_of s) where
  -- records begin with a place's word
  pub sizes_begin : each 2 place_first n (slice_from s 1) ≡ true
  sizes_begin = rw (e, slice_from_is s 1) (each_weaker 2 size_good place_first (λ ws t. first (place_first ws) _ t) (count_of s) (drop 1 s) (well_formed s f).good)

  -- no two records have one place
  pub sizes_differ : distinct_places (places 2 n (slice_from s 1)) ≡ true
  sizes_differ = rw (e, slice_from_is s 1) (rw (size_places_lem (count_of s) (drop 1 s)) at (well_formed s f).distinct)

  pub records_within : 2 * n ≤ length (slice_from s 1)
  records_within = slice_holds s 1 (2 * n) (omega (arith, (well_formed s f).holds))

-- ---- where the place is

module _ (s : List ℕ) (place : ResourceBinding) (n : ℕ) (r : Option ℕ) (en : n ≡ count_of s) (er : r ≡ place_from place (places 2 n (slice_from s 1)) 0) where
  sought : r ≡ place_from place (size_places (decode_sizes s).records) 0
  unfolding decode_sizes
  sought = rw (size_places_lem (count_of s) (drop 1 s)) (rw (en, slice_from_is s 1) at er)

  pub size_lacks : r ≡ None → size_has place (decode_sizes s).records ≡ false
  size_lacks h = sym (place_lacks place (size_places (decode_sizes s).records) r sought h)

  module _ (i : ℕ) (h : r ≡ Some i) where
    size_there_lem : place_from place (size_places (decode_sizes s).records) 0 ≡ Some i
    size_there_lem = sym sought ∙ h

    size_has_lem : size_has place (decode_sizes s).records ≡ true
    size_has_lem = sym (place_found place (size_places (decode_sizes s).records) r sought i h)

    pub size_fits_lem : true ≡ size_fits place (decode_sizes s)
    size_fits_lem = rw size_has_lem

-- ---- the position that is noted

module _ (s : List ℕ) (next : ℕ) (place : ResourceBinding) (n : ℕ) (r : Option ℕ) (en : n ≡ count_of s) (er : r ≡ place_from place (places 2 n (slice_from s 1)) 0) where
  -- the position behind a record that was found is noted
  pub next_noted : (i : ℕ) → r ≡ Some i → i + 1 ≡ note_next (find_size place (decode_sizes s)) next
  next_noted i h = rw (size_there_lem s place n r en er i h)

  -- where there is none, the note stays
  pub next_kept : r ≡ None → next ≡ note_next (find_size place (decode_sizes s)) next
  next_kept h = let e : find_size place (decode_sizes s) ≡ None = sym (sought s place n r en er) ∙ h in rw e

-- the words of a record that was found
module _ (s : List ℕ) (n i : ℕ) (r : Option ℕ) (f : sizes_well_formed s ≡ true) (en : n ≡ count_of s) (b : found_below n r ≡ true) (h : r ≡ Some i) where
  pub index_inside : 2 * i + 2 < length s
  index_inside = omega (arith, (well_formed s f).holds, found_inside n i r b h)

  pub index_scaled : 2 * i < 2 ^ 64
  index_scaled = omega (arith, index_inside, (well_formed s f).short)

  pub index_placed : 2 * i + 2 < 2 ^ 64
  index_placed = omega (arith, index_inside, (well_formed s f).short)

  pub index_next : (m : ℕ) → 2 ^ 16 ≤ m → i + 1 < m
  index_next m k = omega (arith, index_inside, (well_formed s f).short)

-- ---- a record raised

raised_tail : (n i size : ℕ) (ws : List ℕ) → 2 * n ≤ length ws → each 2 size_good n ws ≡ true → i < n
    → set ws (2 * i + 1) (of_kind 6 (max (content_of (word_at ws (2 * i + 1))) size))
    ≡ flat size_record_words (set (read_sizes n ws) i (raised size (get_or (read_sizes n ws) i no_record))) ++ past 2 n ws
raised_tail n i size ws h t k =
    let ss = read_sizes n ws in
    let v = of_kind 6 (max (content_of (word_at ws (2 * i + 1))) size) in
    let z : (get_or ss i no_record).size ≡ content_of (word_at ws (2 * i + 1))
    = ap (λ (x : SizeRecord). x.size) (nth_record 2 read_size n i ws no_record k) ∙ rw (there ws (2 * i) 1) in
    let c : size_record_words (raised size (get_or ss i no_record)) ≡ set (size_record_words (get_or ss i no_record)) 1 v = rw z in
    set_read size_form n i 1 v ws (raised size (get_or ss i no_record)) no_record h t k (omega arith) c

raised_words : (s : List ℕ) (place : ResourceBinding) (i size : ℕ) → sizes_well_formed s ≡ true → place_from place (size_places (decode_sizes s).records) 0 ≡ Some i
    → i < count_of s → size_has place (decode_sizes s).records ≡ true
    → set s (2 * i + 2) (of_kind 6 (max (content_of (word_at s (2 * i + 2))) size)) ≡ encode_sizes (recorded place size (decode_sizes s))
unfolding encode_sizes decode_sizes recorded count_of
raised_words [] place i size f e k has = absurd (omega (arith, (well_formed [] f).kind))
raised_words (w ∷ ws) place i size f e k has =
    let t : WellFormed (w ∷ ws) = well_formed (w ∷ ws) f in
    let n = bits 15 0 w in
    let q : kind_of w ≡ 20 = t.kind in
    let y : bits 26 16 w ≡ 0 = t.rest in
    let a : 2 * i + 2 ≡ suc (2 * i + 1) = omega arith in
    let head : of_kind 20 n ≡ w = omega arith in
    let z : i - 0 ≡ i = omega arith in
    let r = raised_set place size (read_sizes n ws) 0 i e in
    rw (
      has,
      a,
      length_raised place size (read_sizes n ws),
      read_length 2 read_size n ws,
      head,
      r,
      z,
      raised_tail n i size ws (omega (arith, t.holds)) t.good k,
    )

size_kind : (s : List ℕ) (i : ℕ) → sizes_well_formed s ≡ true → i < count_of s → kind_of (word_at s (2 * i + 2)) ≡ 6
size_kind s i f k =
    let g : size_good (drop (2 * i) (drop 1 s)) ≡ true = each_nth 2 size_good (count_of s) i (drop 1 s) (well_formed s f).good k in
    let q : kind_of (word_at (drop (2 * i) (drop 1 s)) 1) ≡ 6 = search (eqb-true, first, second) in
    let z : 1 + (2 * i + 1) ≡ 2 * i + 2 = omega arith in
    rw (there (drop 1 s) (2 * i) 1, there s 1 (2 * i + 1), z) at q

pub size_raised : (s s' : List ℕ) (p size z n i : ℕ) (r : Option ℕ) → sizes_well_formed s ≡ true → size < size_limit → z ≡ size_word size → n ≡ count_of s
    → r ≡ place_from (place_of p) (places 2 n (slice_from s 1)) 0 → found_below n r ≡ true → r ≡ Some i → s' ≡ set s (2 * i + 2) (max (word_at s (2 * i + 2)) z)
    → s' ≡ encode_sizes (recorded (place_of p) size (decode_sizes s))
size_raised s s' p size z n i r f l ez en er below h e =
    let b : i < count_of s = rw (← en) (found_inside n i r below h) in
    let m : max (word_at s (2 * i + 2)) z ≡ size_word (max (content_of (word_at s (2 * i + 2))) size) = omega (arith, size_kind s i f b) in
    e ∙ rw m (raised_words s (place_of p) i size f (size_there_lem s (place_of p) n r en er i h) b (size_has_lem s (place_of p) n r en er i h))

-- ---- a new record

pub head_there : (s : List ℕ) → sizes_well_formed s ≡ true → 1 ≤ length s
head_there s f = omega (arith, (well_formed s f).holds)

pub head_more : (s : List ℕ) (w : ℕ) → sizes_well_formed s ≡ true → w ≡ word_at s 0 → w + 1 < 2 ^ 32
head_more s w f e = let k : kind_of w ≡ 20 = rw e (well_formed s f).kind in omega arith

pushed_words : (s : List ℕ) (place : ResourceBinding) (size : ℕ) → sizes_well_formed s ≡ true → 1 + 2 * count_of s + 2 ≤ length s
    → set (put s (1 + 2 * count_of s) (size_record_words (size_record place size))) 0 (word_at s 0 + 1)
    ≡ encode_sizes (record { records = (decode_sizes s).records ++ (size_record place size ∷ []); room = drop 2 (decode_sizes s).room })
unfolding encode_sizes decode_sizes count_of
pushed_words [] place size f h = absurd (omega arith)
pushed_words (w ∷ ws) place size f h =
    let t : WellFormed (w ∷ ws) = well_formed (w ∷ ws) f in
    let k : kind_of w ≡ 20 = t.kind in
    let y : bits 26 16 w ≡ 0 = t.rest in
    let n = bits 15 0 w in
    let few : 1 + 2 * n ≤ 1024 = omega (arith, t.short) in
    let fit : 2 * n ≤ length ws = omega arith in
    let head : of_kind 20 (n + 1) ≡ w + 1 = omega arith in
    put_more size_form n ws fit t.good w (w + 1) (size_record place size) ∙ rw (count_more size_form n ws fit t.good (size_record place size), head)

module _ (s : List ℕ) (place : ResourceBinding) (r : Bool) (er : r ≡ room_for 2 (past 2 (count_of s) (drop 1 s))) (new : size_has place (decode_sizes s).records ≡ false) where
  push_room : r ≡ room_for 2 (decode_sizes s).room
  unfolding decode_sizes
  push_room = er

  pub push_fits : r ≡ size_fits place (decode_sizes s)
  push_fits = rw new push_room

pub push_stored : (s s' : List ℕ) (p size z : ℕ) (r : Bool) → sizes_well_formed s ≡ true → r ≡ room_for 2 (past 2 (count_of s) (drop 1 s)) → place_well_formed p ≡ true
    → z ≡ size_word size → size_has (place_of p) (decode_sizes s).records ≡ false
    → s' ≡ pick r (set (put s (1 + 2 * count_of s) (p ∷ z ∷ [])) 0 (word_at s 0 + 1)) s → s' ≡ encode_sizes (recorded (place_of p) size (decode_sizes s))
unfolding recorded
push_stored s s' p size z r f er fp ez new h =
    by_test r
    (λ k.
    let room : 1 + 2 * count_of s + 2 ≤ length s
    = omega (arith, leb-true 2 (length (past 2 (count_of s) (drop 1 s))) (sym er ∙ k), room_left 1 2 (count_of s) s (well_formed s f).holds) in
    let m = put s (1 + 2 * count_of s) (p ∷ z ∷ []) in
    let g : s' ≡ set m 0 (word_at s 0 + 1) = rw k at h in
    let w : put s (1 + 2 * count_of s) (size_record_words (size_record (place_of p) size)) ≡ m = rw (place_back p fp, ← ez) refl in
    rw (new, sym (push_room s (place_of p) r er new) ∙ k) (g ∙ ap (λ (x : List ℕ). set x 0 (word_at s 0 + 1)) (sym w) ∙ pushed_words s (place_of p) size f room))
    (λ k.
    let g : s' ≡ s = rw k at h in
    rw (new, sym (push_room s (place_of p) r er new) ∙ k) (g ∙ sym (encode_decode s f)))

-- ---- what holds of the words after either

module _ (s s' : List ℕ) (p size : ℕ) (f : sizes_well_formed s ≡ true) (o : 1 ≤ size) (l : size < size_limit)
    (e : s' ≡ encode_sizes (recorded (place_of p) size (decode_sizes s))) where
  record_good : sizes_good (recorded (place_of p) size (decode_sizes s)) ≡ true
  record_good = good_recorded (place_of p) size (decode_sizes s) (good_decode s f) (place_encodable_lem p) o l

  pub record_decoded : decode_sizes s' ≡ recorded (place_of p) size (decode_sizes s)
  record_decoded = rw e (decode_encode (recorded (place_of p) size (decode_sizes s)) record_good)

  pub record_well_formed : sizes_well_formed s' ≡ true
  record_well_formed = rw e (well_formed_encode (recorded (place_of p) size (decode_sizes s)) record_good)

pub raised_well_formed : (s s' : List ℕ) (p size z n i : ℕ) (r : Option ℕ) → sizes_well_formed s ≡ true → 1 ≤ size → size < size_limit → z ≡ size_word size → n ≡ count_of s
    → r ≡ place_from (place_of p) (places 2 n (slice_from s 1)) 0 → found_below n r ≡ true → r ≡ Some i → s' ≡ set s (2 * i + 2) (max (word_at s (2 * i + 2)) z) → sizes_well_formed s' ≡ true
raised_well_formed s s' p size z n i r f o l ez en er below h e = record_well_formed s s' p size f o l (size_raised s s' p size z n i r f l ez en er below h e)
