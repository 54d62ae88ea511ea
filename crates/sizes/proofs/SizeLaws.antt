-- What is done to a size list, over its meaning: each place keeps the largest size recorded.
use Rattle.std.proofs.Common.{Some}
use Prim.Native.Nat.{ℕ, suc, ◌+◌, ◌-◌, ◌^◌, ◌<◌, ◌≤◌, max}
use native.Mathlib.Omega.{arith}
use mathlib.Core.Path.{◌≡◌, refl}
use mathlib.Core.Bool.{true, false, not}
use mathlib.Core.List.{List, [], ◌∷◌, ◌++◌, map-append}
use lib.Dec.{eqb}
use lib.ListN.{length, drop, get_or, set, length-append, length-drop}
use borrow.Author.Tests.{ltb-true, lt-ltb, leb-true, ne_eqb, eqb-false, not-true}
use Rattle.word.specs.Lists.{every}
use Rattle.bindings.specs.Format.{place_encodable}
use Rattle.bindings.specs.declared.types.ResourceBinding.{ResourceBinding}
use Rattle.word.proofs.Truth.{first, second, by_test, never}
use Rattle.sizes.specs.Meaning.{Sizes, size_places, size_has, size_recorded, raise_at, size_record, size_fits, recorded}
use Rattle.places.specs.Records.{room_for}
use Rattle.places.specs.Places.{same_place, place_from, place_in}
use Rattle.sizes.specs.Format.{size_encodable, sizes_good}
use Rattle.sizes.specs.declared.size_record.SizeRecord.{SizeRecord}
use Rattle.word.proofs.Lists.{first_passes, rest_passes}
use Rattle.places.proofs.Records.{every_more}
use Rattle.places.proofs.PlaceLaws.{same_place_eq, same_place_refl, found_not, found_there, in_last, distinct_last}
use Rattle.sizes.proofs.SizeLists.{Good, good, is_good}

abbrev pub raised : ℕ → SizeRecord → SizeRecord
raised size s = record { bind = s.bind; size = max s.size size }

-- past the end of a list
abbrev pub no_record : SizeRecord
no_record = record { bind = record { group = 0; binding = 0 }; size = 0 }

-- the record raised is the one that is found
pub raised_set : (place : ResourceBinding) (size : ℕ) (ss : List SizeRecord) (i j : ℕ) → place_from place (size_places ss) i ≡ Some j
    → raise_at place size ss ≡ set ss (j - i) (raised size (get_or ss (j - i) no_record))
unfolding raise_at place_from
raised_set place size [] i j h = refl
raised_set place size (s ∷ ss) i j h =
    by_test (same_place s.bind place)
    (λ t.
    let e : i ≡ j = cc (rw t at h) in
    let z : j - i ≡ 0 = omega arith in
    rw (t, z))
    (λ f.
    let k = rw f at h in
    let a : i + 1 ≤ j = (found_there place no_record.bind (size_places ss) (i + 1) j k).from in
    let z : j - i ≡ suc (j - (i + 1)) = omega arith in
    rw (f, z, raised_set place size ss (i + 1) j k))

module _ (place : ResourceBinding) (size : ℕ) where
  pub length_raised : (ss : List SizeRecord) → length (raise_at place size ss) ≡ length ss
  unfolding raise_at
  length_raised [] = refl
  length_raised (s ∷ ss) = by_test (same_place s.bind place) (λ t. rw t) (λ f. rw (f, length_raised ss))

  pub places_raised : (ss : List SizeRecord) → size_places (raise_at place size ss) ≡ size_places ss
  unfolding raise_at
  places_raised [] = refl
  places_raised (s ∷ ss) = by_test (same_place s.bind place) (λ t. rw t) (λ f. rw (f, places_raised ss))

  -- ---- the size at a place

  pub size_raised : (ss : List SizeRecord) → size_has place ss ≡ true → size_recorded place (raise_at place size ss) ≡ max (size_recorded place ss) size
  unfolding raise_at size_recorded place_in
  size_raised [] h = never false h refl
  size_raised (s ∷ ss) h =
      by_test (same_place s.bind place) (λ t. rw (t, t)) (λ f. let k = rw f at h in rw (f, f, size_raised ss k))

  pub size_kept : (ss : List SizeRecord) → size ≤ size_recorded place ss → raise_at place size ss ≡ ss
  unfolding raise_at size_recorded
  size_kept [] h = refl
  size_kept (s ∷ ss) h =
      by_test (same_place s.bind place)
      (λ t. let k : size ≤ s.size = rw t at h in let m : max s.size size ≡ s.size = omega arith in rw (t, m))
      (λ f. rw (f, size_kept ss (rw f at h)))

  size_beside : (other : ResourceBinding) (ss : List SizeRecord) → same_place place other ≡ false
      → size_recorded other (raise_at place size ss) ≡ size_recorded other ss
  unfolding raise_at size_recorded
  size_beside other [] n = refl
  size_beside other (s ∷ ss) n =
      by_test (same_place s.bind place)
      (λ t. let e = same_place_eq s.bind place t in let q : same_place s.bind other ≡ false = rw e n in rw (t, q))
      (λ f. by_test (same_place s.bind other) (λ t. rw (f, t)) (λ g. rw (f, g, size_beside other ss n)))

size_none : (place : ResourceBinding) (ss : List SizeRecord) → size_has place ss ≡ false → size_recorded place ss ≡ 0
unfolding size_recorded place_in
size_none place [] h = refl
size_none place (s ∷ ss) h =
    let n = found_not (same_place s.bind place) (size_has place ss) h in
    rw (n.0, size_none place ss n.1)

size_last : (place : ResourceBinding) (size : ℕ) (ss : List SizeRecord) → size_has place ss ≡ false → size_recorded place (ss ++ (size_record place size ∷ [])) ≡ size
unfolding size_recorded place_in
size_last place size [] h = rw (same_place_refl place)
size_last place size (s ∷ ss) h =
    let n = found_not (same_place s.bind place) (size_has place ss) h in
    rw (n.0, size_last place size ss n.1)

size_before : (place other : ResourceBinding) (size : ℕ) (ss : List SizeRecord) → same_place place other ≡ false
    → size_recorded other (ss ++ (size_record place size ∷ [])) ≡ size_recorded other ss
unfolding size_recorded
size_before place other size [] n = rw n
size_before place other size (s ∷ ss) n =
    by_test (same_place s.bind other) (λ t. rw t) (λ f. rw (f, size_before place other size ss n))

-- ---- a size recorded

module _ (place : ResourceBinding) (size : ℕ) (S : Sizes) where
  -- the size at the place is the largest recorded
  pub recorded_size : size_fits place S ≡ true → size_recorded place (recorded place size S).records ≡ max (size_recorded place S.records) size
  unfolding recorded
  recorded_size h =
      by_test (size_has place S.records)
      (λ t. rw t (size_raised place size S.records t))
      (λ f.
      let r : room_for 2 S.room ≡ true = rw f at h in
      rw (f, r, size_last place size S.records f, size_none place S.records f) (omega arith))

  -- other places are unchanged
  pub recorded_beside : (other : ResourceBinding) → same_place place other ≡ false → size_recorded other (recorded place size S).records ≡ size_recorded other S.records
  unfolding recorded
  recorded_beside other n =
      by_test (size_has place S.records)
      (λ t. rw t (size_beside place size other S.records n))
      (λ f. by_test (room_for 2 S.room) (λ t. rw (f, t) (size_before place other size S.records n)) (λ g. rw (f, g)))

  -- nothing is changed by a size that is not larger
  pub recorded_again : size_has place S.records ≡ true → size ≤ size_recorded place S.records → recorded place size S ≡ S
  unfolding recorded
  recorded_again h k = rw (h, size_kept place size S.records k)

  -- after recording, the place has a record
  pub recorded_has : size_fits place S ≡ true → size_has place (recorded place size S).records ≡ true
  unfolding recorded
  recorded_has h =
      by_test (size_has place S.records)
      (λ t. rw (t, places_raised place size S.records, t))
      (λ f.
      let r : room_for 2 S.room ≡ true = rw f at h in
      rw (f, r, map-append (λ (s : SizeRecord). s.bind) S.records (size_record place size ∷ [])) (in_last (size_places S.records) place))

-- ---- the rules stay

encodable_raised : (size : ℕ) (s : SizeRecord) → size < 2 ^ 27 → size_encodable s ≡ true → size_encodable (raised size s) ≡ true
encodable_raised size s l h =
    let p : place_encodable s.bind ≡ true = search first in
    let a : s.size < 2 ^ 27 = search (ltb-true, first, second) in
    let n : not (eqb s.size 0) ≡ true = search second in
    let z = eqb-false s.size 0 (not-true (eqb s.size 0) n) in
    rw (p, lt-ltb (max s.size size) (2 ^ 27) (omega arith), ne_eqb (max s.size size) 0 (λ e. z (omega arith)))

every_raised : (place : ResourceBinding) (size : ℕ) (ss : List SizeRecord) → size < 2 ^ 27 → every size_encodable ss ≡ true → every size_encodable (raise_at place size ss) ≡ true
unfolding raise_at every
every_raised place size [] l h = refl
every_raised place size (s ∷ ss) l h =
    let p = first_passes (size_encodable s) (every size_encodable ss) h in
    let q = rest_passes (size_encodable s) (every size_encodable ss) h in
    by_test (same_place s.bind place)
    (λ t. rw (t, encodable_raised size s l p, q))
    (λ f. rw (f, p, every_raised place size ss l q))

pub good_recorded : (place : ResourceBinding) (size : ℕ) (S : Sizes) → sizes_good S ≡ true → place_encodable place ≡ true → 1 ≤ size → size < 2 ^ 27
    → sizes_good (recorded place size S) ≡ true
unfolding recorded
good_recorded place size S h p o l =
    let g : Good S = good S h in
    let r : size_encodable (size_record place size) ≡ true = rw (p, lt-ltb size (2 ^ 27) l, ne_eqb size 0 (λ e. omega arith)) in
    by_test (size_has place S.records)
    (λ t. rw t
    (is_good (record { records = raise_at place size S.records; room = S.room })
    (record {
      short = omega (arith, g.short, length_raised place size S.records);
      encodable = every_raised place size S.records l g.encodable;
      distinct = rw (places_raised place size S.records) g.distinct;
    })))
    (λ f. by_test (room_for 2 S.room)
    (λ t. rw (f, t)
    (is_good (record { records = S.records ++ (size_record place size ∷ []); room = drop 2 S.room })
    (record {
      short = omega (arith, g.short, leb-true 2 (length S.room) t, length-append S.records (size_record place size ∷ []), length-drop 2 S.room);
      encodable = every_more size_encodable S.records (size_record place size) g.encodable r;
      distinct = distinct_last (λ (s : SizeRecord). s.bind) S.records (size_record place size) g.distinct f;
    })))
    (λ n. rw (f, n) h))
