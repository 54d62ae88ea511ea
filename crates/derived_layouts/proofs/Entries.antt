-- The entries of a layout by position and by place.
use Rattle.std.proofs.Common.{Some}
use Prim.Native.Nat.{ℕ, zero, suc, ◌+◌, ◌<◌}
use native.Mathlib.Omega.{arith}
use mathlib.Core.Path.{◌≡◌}
use mathlib.Core.Bool.{true}
use mathlib.Core.List.{List, [], ◌∷◌}
use lib.ListN.{length}
use Rattle.bindings.specs.declared.types.ResourceBinding.{ResourceBinding}
use Rattle.bindings.specs.declared.types.BindGroupLayoutEntry.{BindGroupLayoutEntry}
use Rattle.word.proofs.Truth.{by_test, never}
use Rattle.places.specs.Places.{same_place, place_from, place_in, distinct_places}
use Rattle.layouts.specs.Meaning.{entry_places, entry_has, distinct_entries, entry_nth}
use Rattle.places.proofs.PlaceLaws.{same_place_eq, passed_not}

-- an entry of a place at a position
pub record EntryFoundAt (place : ResourceBinding) (es : List BindGroupLayoutEntry) (i j : ℕ) : Type 0 where
  pub at : ℕ
  pub sum : j ≡ i + at
  pub there : at < length es
  pub same : same_place (entry_nth es at).bind place ≡ true

module _ (place : ResourceBinding) where
  pub find_sound : (es : List BindGroupLayoutEntry) (i j : ℕ) → place_from place (entry_places es) i ≡ Some j → EntryFoundAt place es i j
  unfolding place_from entry_nth
  find_sound [] i j h = let z : ◌≡◌ {A = ℕ} 0 1 = cc in absurd (omega arith)
  find_sound (e ∷ es) i j h =
      by_test (same_place e.bind place)
      (λ t. let p : i ≡ j = cc (rw t at h) in record { at = 0; sum = omega arith; there = omega arith; same = t })
      (λ f.
      let r = find_sound es (i + 1) j (rw f at h) in
      record { at = suc r.at; sum = omega (arith, r.sum); there = omega (arith, r.there); same = r.same })

  has_nth : (es : List BindGroupLayoutEntry) (k : ℕ) → k < length es → same_place (entry_nth es k).bind place ≡ true → entry_has place es ≡ true
  unfolding entry_nth place_in
  has_nth [] k h s = absurd (omega arith)
  has_nth (e ∷ es) zero h s = rw s
  has_nth (e ∷ es) (suc k) h s = by_test (same_place e.bind place) (λ t. rw t) (λ f. rw f (has_nth es k (omega arith) s))

  -- where places differ, the entry at a place is found at its position
  pub find_unique : (es : List BindGroupLayoutEntry) (i k : ℕ) → distinct_entries es ≡ true → k < length es
      → same_place (entry_nth es k).bind place ≡ true → place_from place (entry_places es) i ≡ Some (i + k)
  unfolding place_from distinct_places entry_nth
  find_unique [] i k d h s = absurd (omega arith)
  find_unique (e ∷ es) i zero d h s = let z : i + 0 ≡ i = omega arith in rw (s, z)
  find_unique (e ∷ es) i (suc k) d h s =
      let p = passed_not (entry_has e.bind es) (distinct_entries es) d in
      by_test (same_place e.bind place)
      (λ t. never (entry_has e.bind es) (rw (same_place_eq e.bind place t) (has_nth es k (omega arith) s)) p.0)
      (λ f. let z : i + suc k ≡ i + 1 + k = omega arith in rw (f, z) (find_unique es (i + 1) k p.1 (omega arith) s))
