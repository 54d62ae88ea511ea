-- Places in a list: one more at the end, and the position of one.
use Rattle.std.proofs.Common.{Some}
use Prim.Native.Nat.{ℕ, zero, suc, ◌+◌, ◌-◌, ◌<◌, ◌≤◌}
use native.Mathlib.Omega.{arith}
use mathlib.Core.Path.{◌≡◌, refl}
use mathlib.Core.Bool.{Bool, true, false}
use mathlib.Core.List.{List, [], ◌∷◌, ◌++◌, map, map-append}
use lib.ListN.{length, get_or}
use borrow.Author.Tests.{eqb-true, eq-eqb}
use Rattle.word.specs.Choice.{pick}
use Rattle.bindings.specs.declared.types.ResourceBinding.{ResourceBinding}
use Rattle.word.proofs.Truth.{first, second, by_test, never}
use Rattle.places.specs.Places.{same_place, place_from, place_in, distinct_places}

pub same_place_eq : (a b : ResourceBinding) → same_place a b ≡ true → a ≡ b
same_place_eq a b h =
    let g : a.group ≡ b.group = search (eqb-true, first) in
    let n : a.binding ≡ b.binding = search (eqb-true, second) in
    λ i. record { group = g i; binding = n i }

pub same_place_refl : (a : ResourceBinding) → same_place a a ≡ true
same_place_refl a = rw (eq-eqb a.group a.group refl, eq-eqb a.binding a.binding refl)

same_place_turned : (a b : ResourceBinding) → same_place a b ≡ false → same_place b a ≡ false
same_place_turned a b h =
    by_test (same_place b a) (λ t. never (same_place a b) (rw (same_place_eq b a t) (same_place_refl a)) h) (λ f. f)

-- a test that stops at what it finds
pub found_not : (b c : Bool) → pick b true c ≡ false → (b ≡ false) × (c ≡ false)
found_not true c h = never true refl h
found_not false c h = (refl, h)

pub passed_not : (b c : Bool) → pick b false c ≡ true → (b ≡ false) × (c ≡ true)
passed_not true c h = never false h refl
passed_not false c h = (refl, h)

-- ---- one more at the end

module _ (place p : ResourceBinding) where
  in_more : (ps : List ResourceBinding) → place_in place ps ≡ false → same_place p place ≡ false → place_in place (ps ++ (p ∷ [])) ≡ false
  unfolding place_in
  in_more [] h s = rw s
  in_more (q ∷ ps) h s =
      let n = found_not (same_place q place) (place_in place ps) h in
      rw (n.0, in_more ps n.1 s)

distinct_more : (ps : List ResourceBinding) (p : ResourceBinding) → distinct_places ps ≡ true → place_in p ps ≡ false → distinct_places (ps ++ (p ∷ [])) ≡ true
unfolding distinct_places place_in
distinct_more [] p d h = refl
distinct_more (q ∷ ps) p d h =
    let n = passed_not (place_in q ps) (distinct_places ps) d in
    let m = found_not (same_place q p) (place_in p ps) h in
    rw (in_more q p ps n.0 (same_place_turned q p m.0), distinct_more ps p n.1 m.1)

pub distinct_last : {A : Type 0} (place : A → ResourceBinding) (p : List A) (a : A) → distinct_places (map place p) ≡ true → place_in (place a) (map place p) ≡ false
    → distinct_places (map place (p ++ (a ∷ []))) ≡ true
distinct_last place p a d h = rw (map-append place p (a ∷ [])) (distinct_more (map place p) (place a) d h)

pub in_last : (ps : List ResourceBinding) (p : ResourceBinding) → place_in p (ps ++ (p ∷ [])) ≡ true
unfolding place_in
in_last [] p = rw (same_place_refl p)
in_last (q ∷ ps) p = by_test (same_place q p) (λ t. rw t) (λ f. rw f (in_last ps p))

-- ---- the position of a place

-- a new place is found at the new last position, others where they were
pub found_last : (ps : List ResourceBinding) (p : ResourceBinding) (i : ℕ) → place_in p ps ≡ false → place_from p (ps ++ (p ∷ [])) i ≡ Some (i + length ps)
unfolding place_from place_in
found_last [] p i h = let z : i + 0 ≡ i = omega arith in rw (same_place_refl p, z)
found_last (q ∷ ps) p i h =
    let n = found_not (same_place q p) (place_in p ps) h in
    let z : i + suc (length ps) ≡ i + 1 + length ps = omega arith in
    rw (n.0, z) (found_last ps p (i + 1) n.1)

pub found_kept : (ps : List ResourceBinding) (place p : ResourceBinding) (i : ℕ) → same_place p place ≡ false
    → place_from place (ps ++ (p ∷ [])) i ≡ place_from place ps i
unfolding place_from
found_kept [] place p i h = rw h
found_kept (q ∷ ps) place p i h = by_test (same_place q place) (λ t. rw t) (λ f. rw f (found_kept ps place p (i + 1) h))

-- what is found stands there
pub record FoundAt (place : ResourceBinding) (ps : List ResourceBinding) (i j : ℕ) (d : ResourceBinding) : Type 0 where
  pub from : i ≤ j
  pub there : j - i < length ps
  pub same : same_place (get_or ps (j - i) d) place ≡ true

pub found_there : (place d : ResourceBinding) (ps : List ResourceBinding) (i j : ℕ) → place_from place ps i ≡ Some j → FoundAt place ps i j d
unfolding place_from
found_there place d [] i j h = let z : ◌≡◌ {A = ℕ} 0 1 = cc in absurd (omega arith)
found_there place d (p ∷ ps) i j h =
    by_test (same_place p place)
    (λ t.
    let e : i ≡ j = cc (rw t at h) in
    let z : j - i ≡ 0 = omega arith in
    record { from = omega arith; there = omega arith; same = rw z t })
    (λ f.
    let r = found_there place d ps (i + 1) j (rw f at h) in
    let a : i + 1 ≤ j = r.from in
    let z : j - i ≡ suc (j - (i + 1)) = omega arith in
    record { from = omega arith; there = omega (arith, r.there); same = rw z r.same })

-- ---- of distinct places, the one at a position is found there

in_nth : (ps : List ResourceBinding) (j : ℕ) (d : ResourceBinding) → j < length ps → place_in (get_or ps j d) ps ≡ true
unfolding place_in
in_nth [] j d h = absurd (omega arith)
in_nth (p ∷ ps) zero d h = rw (same_place_refl p)
in_nth (p ∷ ps) (suc j) d h = by_test (same_place p (get_or ps j d)) (λ t. rw t) (λ f. rw f (in_nth ps j d (omega arith)))

pub found_nth : (ps : List ResourceBinding) (i j : ℕ) (d : ResourceBinding) → distinct_places ps ≡ true → j < length ps
    → place_from (get_or ps j d) ps i ≡ Some (i + j)
unfolding place_from distinct_places
found_nth [] i j d t h = absurd (omega arith)
found_nth (p ∷ ps) i zero d t h = let z : i + 0 ≡ i = omega arith in rw (same_place_refl p, z)
found_nth (p ∷ ps) i (suc j) d t h =
    let n = passed_not (place_in p ps) (distinct_places ps) t in
    let k : j < length ps = omega arith in
    let z : i + suc j ≡ i + 1 + j = omega arith in
    by_test (same_place p (get_or ps j d))
    (λ s. never (place_in p ps) (rw (same_place_eq p (get_or ps j d) s) (in_nth ps j d k)) n.0)
    (λ f. rw (f, z) (found_nth ps (i + 1) j d n.1 k))
