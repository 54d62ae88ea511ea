-- The code's ways through a stage list.
use Rattle.std.proofs.Common.{Option, Some, None}
use Prim.Native.Nat.{ℕ, zero, suc, ◌+◌, ◌-◌, ◌*◌, ◌%◌, ◌<◌, ◌≤◌}
use native.Mathlib.Omega.{arith}
use mathlib.Core.Path.{◌≡◌, refl, sym, ◌∙◌}
use mathlib.Core.Bool.{Bool, true, false, not, ◌&&◌}
use mathlib.Core.List.{List, [], ◌∷◌}
use Rattle.varying.specs.declared.Located.{Located}
use lib.Dec.{eqb, leb, ltb}
use lib.ListN.{length, drop}
use lib.Seq.{drop-drop}
use borrow.Author.Tests.{eq-eqb, ne_eqb, lt-ltb, le-ltb, leb-true, not-false}
use Rattle.word.specs.Choice.{pick}
use Rattle.word.specs.Words.{word_at, kind_of, content_of, bits}
use Rattle.varying.specs.Format.{location_well_formed, var_well_formed, payload_well_formed, payload_of}
use Rattle.word.proofs.Truth.{first, second, by_test}
use Rattle.places.specs.Places.{found_below}
use Rattle.stage_lists.specs.Meaning.{rising, varying_at}
use Rattle.places.specs.Records.{records, each, count_of}
use Rattle.stage_lists.specs.Format.{primitive_at, read_located, located_good, read_varyings, variable_found, stage_head, out_well_formed, decode_stage}
use Rattle.stage_lists.specs.Inner.Found.{location_from}
use Rattle.places.proofs.Records.{read_length, nth_record, left_cons, left_none}
use Rattle.places.proofs.Words.{there, slice_from, slice_from_is}
use Rattle.word.proofs.Parse.{first_of}
use Rattle.stage_lists.proofs.StageLists.{well_formed}
use Rattle.stage_lists.proofs.InsertLaws.{location_nth}

-- ---- the head

module _ (ws : List ℕ) (w : ℕ) (r : Bool) (e : w ≡ word_at ws 0) where
  pub head_word_lem : r ≡ (eqb (kind_of w) 11 && (ltb (bits 26 25 w) 3 && (eqb (bits 24 16 w) 0 && (leb (bits 15 0 w) 63
      && (leb (2 + 2 * bits 15 0 w) (length ws) && payload_well_formed (word_at ws 1)))))) → r ≡ stage_head ws
  unfolding stage_head count_of
  head_word_lem h = rw (← e) h

pub head_holds : (ws : List ℕ) (b : Bool) → b ≡ stage_head ws → b ≡ true → 2 + 2 * count_of ws ≤ length ws
unfolding stage_head
head_holds ws b e h = let t = sym e ∙ h in search (leb-true, first, second) depth 7

pub payload_word_lem : (ws : List ℕ) (p : ℕ) (r : Bool) → p ≡ word_at ws 1 → r ≡ payload_well_formed p → r ≡ payload_well_formed (word_at ws 1)
payload_word_lem ws p r e h = rw (← e) h

pub primitive_word : (ws : List ℕ) (w : ℕ) (r : Option Bool) → w ≡ word_at ws 0 → r ≡ primitive_at (bits 26 25 w) → r ≡ (decode_stage ws).primitive
unfolding decode_stage
primitive_word ws w r e h = rw (← e) h

pub primitive_false : (ws : List ℕ) (w : ℕ) → w ≡ word_at ws 0 → bits 26 25 w ≡ 1 → Some false ≡ (decode_stage ws).primitive
primitive_false ws w e h = primitive_word ws w (Some false) e (rw h)

pub payload_decoded : (ws : List ℕ) (w : ℕ) (r : Option ℕ) → w ≡ word_at ws 1 → r ≡ payload_of w → r ≡ (decode_stage ws).payload
unfolding decode_stage
payload_decoded ws w r e h = rw (← e) h

-- ---- a variable's word that is known to be one

pub located_var : (l : List ℕ) (at : ℕ) (b : Bool) → b ≡ located_good (slice_from l at) → not b ≡ false → var_well_formed (word_at l (at + 1)) ≡ true
located_var l at b e h =
    let g : located_good (drop at l) ≡ true = sym (rw slice_from_is at e) ∙ not-false b h in
    rw (there l at 1) at (second (location_well_formed (word_at (drop at l) 0)) (var_well_formed (word_at (drop at l) 1)) g)

-- ---- the variables, told of the words behind the payload

pub varyings_tested : (l : List ℕ) (n : ℕ) (b : Bool) → n ≡ count_of l → b ≡ each 2 located_good n (slice_from l 2) → b ≡ each 2 located_good (count_of l) (drop 2 l)
varyings_tested l n b e h = rw (e, slice_from_is l 2) at h

pub rising_tested : (l : List ℕ) (n : ℕ) (b : Bool) → n ≡ count_of l → b ≡ rising (read_varyings n (slice_from l 2)) → b ≡ rising (read_varyings (count_of l) (drop 2 l))
rising_tested l n b e h = rw (e, slice_from_is l 2) at h

-- ---- rising locations

rising_pair : (v w : Located) (vs : List Located) → rising (v ∷ w ∷ vs) ≡ pick (ltb v.location w.location) (rising (w ∷ vs)) false
unfolding rising
rising_pair v w vs = refl

rising_step : (l : List ℕ) (k at : ℕ) → 2 ≤ k → rising (read_varyings k (drop at l))
    ≡ pick (ltb (content_of (word_at l at)) (content_of (word_at l (at + 2)))) (rising (read_varyings (k - 1) (drop (at + 2) l))) false
rising_step l k at h =
    let z : k ≡ 0 → ⊥ = λ e. omega arith in
    let y : k - 1 ≡ 0 → ⊥ = λ e. omega arith in
    rw (left_cons 2 read_located l k at z, left_cons 2 read_located l (k - 1) (at + 2) y, rising_pair, first_of l at, first_of l (at + 2))

rising_end : (k : ℕ) (ws : List ℕ) → k < 2 → rising (read_varyings k ws) ≡ true
unfolding rising records
rising_end zero ws h = refl
rising_end (suc zero) ws h = refl
rising_end (suc (suc k)) ws h = absurd (omega arith)

module _ (l : List ℕ) (n i : ℕ) (goal : Bool) (inv : goal ≡ rising (read_varyings (n - (i - 1)) (drop (2 * (i - 1)) l))) where
  module _ (h : i < n) (o : 1 ≤ i) where
    stepped : goal ≡ pick (ltb (content_of (word_at l (2 * (i - 1)))) (content_of (word_at l (2 * i)))) (rising (read_varyings (n - (i + 1 - 1)) (drop (2 * (i + 1 - 1)) l))) false
    stepped =
        let a : 2 * (i - 1) + 2 ≡ 2 * i = omega arith in
        let k : n - (i - 1) - 1 ≡ n - (i + 1 - 1) = omega arith in
        let z : 2 * (i + 1 - 1) ≡ 2 * i = omega arith in
        inv ∙ (rising_step l (n - (i - 1)) (2 * (i - 1)) (omega arith) ∙ rw (a, k, z))

    pub rising_falls : content_of (word_at l (2 * i)) ≤ content_of (word_at l (2 * (i - 1))) → false ≡ goal
    rising_falls f = sym (stepped ∙ rw (le-ltb (content_of (word_at l (2 * (i - 1)))) (content_of (word_at l (2 * i))) f))

    pub rising_onward : content_of (word_at l (2 * (i - 1))) < content_of (word_at l (2 * i)) → goal ≡ rising (read_varyings (n - (i + 1 - 1)) (drop (2 * (i + 1 - 1)) l))
    rising_onward f = stepped ∙ rw (lt-ltb (content_of (word_at l (2 * (i - 1)))) (content_of (word_at l (2 * i))) f)

  pub rising_ended : n ≤ i → true ≡ goal
  rising_ended h = sym (inv ∙ rising_end (n - (i - 1)) (drop (2 * (i - 1)) l) (omega arith))

-- ---- where the variable at a location stands

-- of the variables from one on: that one, and the others
pub varyings_from : (l : List ℕ) (n i : ℕ) → i < n
    → read_varyings (n - i) (drop (2 + 2 * i) l) ≡ read_located (drop (2 + 2 * i) l) ∷ read_varyings (n - (i + 1)) (drop (2 + 2 * (i + 1)) l)
varyings_from l n i h =
    let k : n - i - 1 ≡ n - (i + 1) = omega arith in
    let a : 2 + 2 * (i + 1) ≡ 2 + 2 * i + 2 = omega arith in
    left_cons 2 read_located l (n - i) (2 + 2 * i) (λ z. omega arith) ∙ rw (k, a)

module _ (l : List ℕ) (n i location : ℕ) (goal : Option ℕ) (inv : goal ≡ location_from location (read_varyings (n - i) (drop (2 + 2 * i) l)) (3 + 2 * i)) where
  module _ (h : i < n) where
    pub location_hit : word_at l (2 + 2 * i) % 0x800_0000 ≡ location → Some (3 + 2 * i) ≡ goal
    unfolding location_from
    location_hit q = sym (inv ∙ rw (varyings_from l n i h, first_of l (2 + 2 * i), eq-eqb (content_of (word_at l (2 + 2 * i))) location q))

    pub location_miss : (word_at l (2 + 2 * i) % 0x800_0000 ≡ location → ⊥)
        → goal ≡ location_from location (read_varyings (n - (i + 1)) (drop (2 + 2 * (i + 1)) l)) (3 + 2 * (i + 1))
    unfolding location_from
    location_miss q =
        let z : 3 + 2 * (i + 1) ≡ 3 + 2 * i + 2 = omega arith in
        inv ∙ rw (varyings_from l n i h, first_of l (2 + 2 * i), ne_eqb (content_of (word_at l (2 + 2 * i))) location q, z)

  pub location_ended : n ≤ i → None ≡ goal
  unfolding location_from
  location_ended h = let k : n - i ≡ 0 = omega arith in sym (inv ∙ rw (left_none 2 read_located (n - i) (drop (2 + 2 * i) l) k))

-- the variable that is provided at a location is the one whose word stands where it is found
found_from : (l : List ℕ) (location k at : ℕ)
    → variable_found l (location_from location (read_varyings k (drop at l)) (at + 1)) ≡ varying_at location (read_varyings k (drop at l))
unfolding location_from varying_at records
found_from l location zero at = refl
found_from l location (suc k) at =
    let z : at + 1 + 2 ≡ at + 2 + 1 = omega arith in
    by_test (eqb (content_of (word_at (drop at l) 0)) location) (λ t. rw (t, there l at 1))
    (λ f. rw (f, z, drop-drop 2 at l) (found_from l location k (at + 2)))

pub location_found : (l : List ℕ) (n location : ℕ) (r : Option ℕ) → r ≡ location_from location (read_varyings n (drop 2 l)) 3
    → variable_found l r ≡ varying_at location (read_varyings n (drop 2 l))
location_found l n location r e = rw e (found_from l location n 2)

pub location_decoded : (l : List ℕ) (n location : ℕ) (r : Option ℕ) → n ≡ count_of l → r ≡ location_from location (read_varyings n (drop 2 l)) 3
    → r ≡ location_from location (decode_stage l).varyings 3
unfolding decode_stage
location_decoded l n location r e h = rw (← e) h

pub location_provided : (l : List ℕ) (location : ℕ) (r : Option ℕ) → r ≡ location_from location (decode_stage l).varyings 3
    → variable_found l r ≡ varying_at location (decode_stage l).varyings
unfolding decode_stage
location_provided l location r e = location_found l (count_of l) location r e

-- a position found lies in the list
pub within_below : (l : List ℕ) (n i : ℕ) → i < n → 2 + 2 * n ≤ length l → found_below (length l) (Some (3 + 2 * i)) ≡ true
within_below l n i h f = lt-ltb (3 + 2 * i) (length l) (omega arith)

pub first_there : (l : List ℕ) → out_well_formed l ≡ true → 1 ≤ length l
first_there l f = omega (arith, (well_formed l f).holds)

module _ (l : List ℕ) (n : ℕ) (f : out_well_formed l ≡ true) (e : n ≡ count_of l) where
  pub varyings_within : 2 + 2 * n ≤ length l
  varyings_within = omega (arith, (well_formed l f).holds)

  -- the variable at a position
  module _ (i : ℕ) (h : i < n) where
    pub near_inside : 2 + 2 * i < length l
    near_inside = omega (arith, varyings_within)

    pub near_below : found_below (length l) (Some (3 + 2 * i)) ≡ true
    near_below = lt-ltb (3 + 2 * i) (length l) (omega (arith, varyings_within))

    pub near_found : (location : ℕ) → word_at l (2 + 2 * i) % 0x800_0000 ≡ location → Some (3 + 2 * i) ≡ location_from location (decode_stage l).varyings 3
    unfolding decode_stage
    near_found location q =
        let k : i < count_of l = omega arith in
        let vs = read_varyings (count_of l) (drop 2 l) in
        let a = location_nth vs i 3 (read_located []) (well_formed l f).rises (omega (arith, read_length 2 read_located (count_of l) (drop 2 l))) in
        sym (rw (nth_record 2 read_located (count_of l) i (drop 2 l) (read_located []) k, drop-drop (2 * i) 2 l, first_of l (2 + 2 * i), q) at a)
