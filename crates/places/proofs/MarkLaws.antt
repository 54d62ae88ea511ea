-- Places with a mark, and places distinct from some record on.
use Prim.Native.Nat.{ℕ, zero, suc, ◌+◌, ◌-◌, ◌*◌, ◌/◌, ◌%◌, ◌^◌, ◌<◌, ◌≤◌, max}
use native.Mathlib.Omega.{arith}
use native.Mathlib.Nat.{mul-suc, mul-zero}
use mathlib.Core.Path.{◌≡◌, refl, sym, ap₂, ◌∙◌}
use mathlib.Core.Bool.{Bool, true, false}
use mathlib.Core.List.{List, [], ◌∷◌}
use lib.Dec.{eqb}
use lib.ListN.{length, drop, get_or, set}
use lib.Seq.{get_or-set_same, get_or-set_other, drop-drop}
use lib.Pow.{pow-lt, shl-shr}
use lib.Bits.{bit_or, or_shr, or_step}
use borrow.Author.Tests.{eqb-true, eqb-false, eq-eqb, ne_eqb}
use Rattle.word.specs.Words.{word_at, bits}
use Rattle.word.specs.Lists.{every}
use Rattle.word.proofs.Truth.{by_test, never}
use Rattle.word.proofs.Lists.{first_passes, rest_passes}
use Rattle.bindings.specs.Format.{place_of}
use Rattle.bindings.specs.declared.types.ResourceBinding.{ResourceBinding}
use Rattle.places.specs.Places.{same_place, place_in, distinct_places, read_place, places}
use Rattle.places.specs.Records.{records}
use Rattle.places.specs.Inner.Marks.{slot, marked, bit_of, taken}
use Rattle.word.proofs.Parse.{first_of}
use Rattle.places.proofs.PlaceLaws.{same_place_eq}
use Rattle.places.proofs.PlaceWays.{content_place}
use Rattle.places.proofs.Records.{records_at, left_none}
use Rattle.places.proofs.Words.{slice_from, slice_from_is}

-- ---- marks

-- a place that fails a test which others pass is none of them
pub unmarked : (test : ResourceBinding → Bool) (p : ResourceBinding) (ps : List ResourceBinding) → every test ps ≡ true → test p ≡ false → false ≡ place_in p ps
unfolding place_in every
unmarked test p [] h z = refl
unmarked test p (q ∷ ps) h z =
    let m : test q ≡ true = first_passes (test q) (every test ps) h in
    let r : false ≡ place_in p ps = unmarked test p ps (rest_passes (test q) (every test ps) h) z in
    by_test (same_place q p) (λ t. never (test p) (rw (← same_place_eq q p t) m) z) (λ f. rw f r)

-- places that pass a test pass one that asks no more
marks_stay : (test more : ResourceBinding → Bool) (ps : List ResourceBinding) → ((p : ResourceBinding) → test p ≡ true → more p ≡ true)
    → every test ps ≡ true → every more ps ≡ true
unfolding every
marks_stay test more [] h t = refl
marks_stay test more (p ∷ ps) h t =
    rw (h p (first_passes (test p) (every test ps) t), marks_stay test more ps h (rest_passes (test p) (every test ps) t))

-- a table of marks
pub mark_lacks : (marks : List ℕ) (p : ResourceBinding) (s : ℕ) → s ≡ slot p → get_or marks s 0 ≡ 0 → marked marks p ≡ false
unfolding marked
mark_lacks marks p s e z = rw (← e, z)

module _ (marks : List ℕ) (s : ℕ) (h : s < length marks) where
  mark_there : (p : ResourceBinding) → s ≡ slot p → marked (set marks s 1) p ≡ true
  unfolding marked
  mark_there p e = rw (← e, get_or-set_same marks s 1 0 h)

  mark_stays : (p : ResourceBinding) → marked marks p ≡ true → marked (set marks s 1) p ≡ true
  unfolding marked
  mark_stays p m =
      by_test (eqb (slot p) s) (λ t. mark_there p (sym (eqb-true (slot p) s t)))
      (λ f. rw (get_or-set_other marks s (slot p) 1 0 (eqb-false (slot p) s f)) m)

-- bits
turned : (x y k : ℕ) → (x + (128 * k + y)) % 64 ≡ (x + y) % 64
turned x y k = omega arith

pub bit_is : (w : ℕ) → (w % 64 + w / 0x10_0000) % 64 ≡ bit_of (place_of w)
bit_is w =
    let u : w % 64 ≡ bits 22 0 w % 64 = omega arith in
    let h : w / 0x10_0000 ≡ 8 * (w / 0x80_0000) + bits 22 0 w / 2 ^ 20 = omega arith in
    let g : w / 0x80_0000 ≡ 16 * (w / 0x800_0000) + bits 26 23 w = omega arith in
    let v : w / 0x10_0000 ≡ 128 * (w / 0x800_0000) + (8 * bits 26 23 w + bits 22 0 w / 2 ^ 20) = omega arith in
    ap₂ (λ x y. (x + y) % 64) u v ∙ turned (bits 22 0 w % 64) (8 * bits 26 23 w + bits 22 0 w / 2 ^ 20) (w / 0x800_0000)

bit_lacks : (mask : ℕ) (p : ResourceBinding) (b : ℕ) → b ≡ bit_of p → (mask / 2 ^ b % 2 ≡ 1 → ⊥) → taken mask p ≡ false
unfolding taken
bit_lacks mask p b e z = rw (← e) (ne_eqb (mask / 2 ^ b % 2) 1 z)

or_bit : (a b k : ℕ) → bit_or a b / 2 ^ k % 2 ≡ max (a / 2 ^ k % 2) (b / 2 ^ k % 2)
or_bit a b k = rw (or_shr a b k) (omega (arith, or_step (a / 2 ^ k) (b / 2 ^ k)))

module _ (mask b : ℕ) (h : b < 64) where
  bit_there : (p : ResourceBinding) → b ≡ bit_of p → taken (bit_or mask (1 * 2 ^ b % 2 ^ 64)) p ≡ true
  unfolding taken
  bit_there p e =
      let s : 1 * 2 ^ b % 2 ^ 64 ≡ 1 * 2 ^ b = omega (arith, pow-lt h) in
      rw (← e, s) (eq-eqb (bit_or mask (1 * 2 ^ b) / 2 ^ b % 2) 1 (omega (arith, or_bit mask (1 * 2 ^ b) b, shl-shr 1 b)))

  bit_stays : (p : ResourceBinding) → taken mask p ≡ true → taken (bit_or mask (1 * 2 ^ b % 2 ^ 64)) p ≡ true
  unfolding taken
  bit_stays p t =
      let o : mask / 2 ^ bit_of p % 2 ≡ 1 = eqb-true (mask / 2 ^ bit_of p % 2) 1 t in
      eq-eqb (bit_or mask (1 * 2 ^ b % 2 ^ 64) / 2 ^ bit_of p % 2) 1 (omega (arith, or_bit mask (1 * 2 ^ b % 2 ^ 64) (bit_of p)))

-- ---- the code's ways from the last record to the first

-- one place twice behind some records is so among all
twice_behind : (width j k : ℕ) (l : List ℕ) → distinct_places (places width k (drop (width * j) l)) ≡ false → distinct_places (places width (j + k) l) ≡ false
unfolding distinct_places records
twice_behind width zero k l h = let o : 0 + k ≡ k = omega arith in rw o (rw mul-zero at h)
twice_behind width (suc j) k l h =
    let e : width + width * j ≡ width * suc j = rw mul-suc (omega arith) in
    let s : suc j + k ≡ suc (j + k) = omega arith in
    let r : distinct_places (places width (j + k) (drop width l)) ≡ false = twice_behind width j k (drop width l) (rw (drop-drop (width * j) width l, e) h) in
    rw s (by_test (place_in (read_place l) (places width (j + k) (drop width l))) (λ t. rw t) (λ f. rw f r))

module _ (width n : ℕ) (ws : List ℕ) where
  pub marks_begin : (test : ResourceBinding → Bool) → every test (places width (n - n) ws) ≡ true
  unfolding every
  marks_begin test = let z : n - n ≡ 0 = omega arith in rw (left_none width read_place (n - n) ws z)

  pub distinct_begins : distinct_places (places width (n - n) ws) ≡ true
  unfolding distinct_places
  distinct_begins = let z : n - n ≡ 0 = omega arith in rw (left_none width read_place (n - n) ws z)

module _ (width n i : ℕ) (l : List ℕ) (fits : i ≤ n) (h : 0 < i) where
  abbrev p : ResourceBinding
  p = place_of (word_at l (width * (i - 1)) % 0x800_0000)

  -- the places of the records behind one, and the same at the position behind it
  abbrev after : List ResourceBinding
  after = places width (n - i) (drop (width * i) l)

  abbrev behind : List ResourceBinding
  behind = places width (n - (i - 1 + 1)) (slice_from l (width * (i - 1 + 1)))

  behind_is : behind ≡ after
  behind_is = let e : i - 1 + 1 ≡ i = omega arith in rw (slice_from_is l (width * (i - 1 + 1)), e)

  one_more : places width (n - (i - 1)) (drop (width * (i - 1)) l) ≡ p ∷ behind
  one_more = records_at width n (i - 1) (omega arith) read_place l ∙ rw (slice_from_is l (width * (i - 1 + 1)), first_of l (width * (i - 1)), content_place (word_at l (width * (i - 1))))

  all_onward : (test more : ResourceBinding → Bool) → ((q : ResourceBinding) → test q ≡ true → more q ≡ true) → more p ≡ true → every test after ≡ true
      → every more (places width (n - (i - 1)) (drop (width * (i - 1)) l)) ≡ true
  unfolding every
  all_onward test more s m t = rw (one_more, m, behind_is) (marks_stay test more after s t)

  pub marks_onward : (marks : List ℕ) (s : ℕ) → s ≡ slot p → s < 1024 → length marks ≡ 1024 → every (marked marks) after ≡ true
      → every (marked (set marks s 1)) (places width (n - (i - 1)) (drop (width * (i - 1)) l)) ≡ true
  marks_onward marks s es b m t =
      let k : s < length marks = omega arith in
      all_onward (marked marks) (marked (set marks s 1)) (mark_stays marks s k) (mark_there marks s k p es) t

  pub bits_onward : (mask b : ℕ) → b ≡ bit_of p → b < 64 → every (taken mask) after ≡ true
      → every (taken (bit_or mask (1 * 2 ^ b % 2 ^ 64))) (places width (n - (i - 1)) (drop (width * (i - 1)) l)) ≡ true
  bits_onward mask b e k t = all_onward (taken mask) (taken (bit_or mask (1 * 2 ^ b % 2 ^ 64))) (bit_stays mask b k) (bit_there mask b k p e) t

  module _ (b : Bool) (eb : b ≡ place_in p behind) where
    pub marked_twice : b ≡ true → false ≡ distinct_places (places width n l)
    unfolding distinct_places
    marked_twice t =
        let d : distinct_places (places width (n - (i - 1)) (drop (width * (i - 1)) l)) ≡ false = rw (one_more, ← eb, t) in
        let m : i - 1 + (n - (i - 1)) ≡ n = omega arith in
        sym (rw m at (twice_behind width (i - 1) (n - (i - 1)) l d))

    pub marked_onward : b ≡ false → distinct_places after ≡ true → distinct_places (places width (n - (i - 1)) (drop (width * (i - 1)) l)) ≡ true
    unfolding distinct_places
    marked_onward f d = rw (one_more, ← eb, f, behind_is) d

  pub bits_apart : (mask b : ℕ) → b ≡ bit_of p → (mask / 2 ^ b % 2 ≡ 1 → ⊥) → every (taken mask) after ≡ true → distinct_places after ≡ true
      → distinct_places (places width (n - (i - 1)) (drop (width * (i - 1)) l)) ≡ true
  bits_apart mask b e z t = marked_onward false (unmarked (taken mask) p behind (rw behind_is t) (bit_lacks mask p b e z)) refl

pub distinct_ended : (width n i : ℕ) (l : List ℕ) → i ≤ 0 → distinct_places (places width (n - i) (drop (width * i) l)) ≡ true → distinct_places (places width n l) ≡ true
distinct_ended width n i l h d =
    let z : i ≡ 0 = omega arith in
    let k : n - 0 ≡ n = omega arith in
    rw (z, mul-zero, k) at d

-- ---- a list of a few records

pub few_distinct : (width n : ℕ) (ws : List ℕ) → n < 2 → true ≡ distinct_places (places width n ws)
unfolding distinct_places records place_in
few_distinct width zero ws h = refl
few_distinct width (suc zero) ws h = refl
few_distinct width (suc (suc n)) ws h = absurd (omega arith)
