-- Layouts that lose nothing as entries are added and stages joined.
use Prim.Native.Nat.{ℕ, ◌<◌}
use native.Mathlib.Omega.{arith}
use mathlib.Core.Path.{◌≡◌, refl, ◌∙◌}
use mathlib.Core.Bool.{true}
use mathlib.Core.List.{[], ◌∷◌}
use lib.Dec.{eqb}
use lib.ListN.{length, length-append}
use borrow.Author.Tests.{eqb-true, eqb-false, ltb-true, eq-eqb}
use Rattle.bindings.specs.Format.{format_encodable}
use Rattle.bindings.specs.declared.types.BindGroupLayoutEntry.{BindGroupLayoutEntry}
use Rattle.word.proofs.Truth.{first, second, by_test}
use Rattle.layouts.specs.Meaning.{Layout, entry_nth, empty_entry, pushed, sees_bit, join_bit, joined}
use Rattle.layouts.specs.Format.{entry_fits, layout_good}
use Rattle.places.proofs.Records.{every_nth}
use Rattle.layouts.proofs.LayoutLists.{good}
use Rattle.layouts.proofs.LayoutLaws.{nth_get_or, nth_more, length_join, nth_joined, nth_beside, join_bits}
use Rattle.derived_layouts.specs.Theorem.{StandsAt}

-- ---- bits of a visibility

module _ (s v : ℕ) (hs : s < 5) (hv : v < 32) where
  pub join_keeps : (t : ℕ) → t < 5 → sees_bit t v ≡ true → sees_bit t (join_bit s v) ≡ true
  join_keeps t ht h = rw (join_bits s v (omega arith) hv t (omega arith)) (by_test (eqb t s) (λ e. rw e) (λ n. rw n h))

  pub join_sets : sees_bit s (join_bit s v) ≡ true
  join_sets = rw (join_bits s v (omega arith) hv s (omega arith), eq-eqb s s refl)

-- ---- an entry that a layout holds

pub record Encodable (e : BindGroupLayoutEntry) : Type 0 where
  pub format : format_encodable e.ty ≡ true
  pub visibility : e.visibility < 32

pub good_nth : (L : Layout) (k : ℕ) → layout_good L ≡ true → k < length L.entries → Encodable (entry_nth L.entries k)
good_nth L k g h =
    let t : entry_fits L.groups (entry_nth L.entries k) ≡ true
    = rw (nth_get_or L.entries k) (every_nth (entry_fits L.groups) L.entries k empty_entry (good L g).encodable h) in
    record { format = search (first, second); visibility = search (ltb-true, first, second) }

-- ---- every entry of one layout stands in another

abbrev pub Grows : Layout → Layout → Type 0
Grows L M = (k : ℕ) → k < length L.entries → StandsAt L M k

pub grows_refl : (L : Layout) → Grows L L
grows_refl L k h = record { there = h; place = refl; type = refl; seen = λ s l t. t }

pub grows_trans : (L M N : Layout) → Grows L M → Grows M N → Grows L N
grows_trans L M N p q k h =
    let a = p k h in
    let b = q k a.there in
    record { there = b.there; place = b.place ∙ a.place; type = b.type ∙ a.type; seen = λ s l t. b.seen s l (a.seen s l t) }

pub grows_pushed : (L : Layout) (e : BindGroupLayoutEntry) → Grows L (pushed L e)
unfolding pushed
grows_pushed L e k h =
    let same = nth_more L.entries e k h in
    record { there = omega (arith, length-append L.entries (e ∷ [])); place = rw same; type = rw same; seen = λ s l t. rw same t }

pub grows_joined : (L : Layout) (s i : ℕ) → layout_good L ≡ true → s < 5 → Grows L (joined s L i)
unfolding joined
grows_joined L s i g hs k h =
    by_test (eqb k i)
    (λ t.
    let e = eqb-true k i t in
    let there : i < length L.entries = omega arith in
    let same = nth_joined s L.entries i there in
    let short = (good_nth L i g there).visibility in
    rw e
    (record {
      there = omega (arith, length_join s L.entries i);
      place = rw same;
      type = rw same;
      seen = λ r l t. rw same (join_keeps s (entry_nth L.entries i).visibility hs short r l t);
    }))
    (λ f.
    let same = nth_beside s L.entries i k (eqb-false k i f) in
    record { there = omega (arith, length_join s L.entries i); place = rw same; type = rw same; seen = λ r l t. rw same t })
