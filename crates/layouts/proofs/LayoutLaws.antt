-- What is done to a layout, over its meaning: a new entry, a stage joined, and the rules that stay.
use Rattle.std.proofs.Common.{Some}
use Prim.Native.Nat.{ℕ, zero, suc, ◌+◌, ◌<◌, ◌≤◌}
use native.Mathlib.Omega.{arith}
use mathlib.Core.Path.{◌≡◌, refl, sym, ap, ◌∙◌}
use mathlib.Core.Bool.{Bool, true, false, not, ◌&&◌}
use mathlib.Core.List.{List, [], ◌∷◌, ◌++◌, map-append}
use lib.Dec.{eqb, ltb}
use lib.ListN.{length, get_or, set, get_or-append, length-append, length-drop, length-set, length-map}
use lib.Seq.{map-set_same, get_or-set_same, get_or-set_other, get_or-append_seam}
use borrow.Author.Tests.{ltb-true, lt-ltb}
use Rattle.word.specs.Choice.{pick}
use Rattle.bindings.specs.Format.{place_encodable, format_encodable}
use Rattle.bindings.specs.declared.types.ResourceBinding.{ResourceBinding}
use Rattle.bindings.specs.declared.types.BindGroupLayoutEntry.{BindGroupLayoutEntry}
use Rattle.word.proofs.Truth.{first, second, never, all_below, below_all}
use Rattle.layouts.specs.Meaning.{Layout, entry_places, entry_has, find_entry, entry_nth, empty_entry, pushed, sees_bit, join_bit, seen_by, join_at, joined}
use Rattle.places.specs.Places.{same_place}
use Rattle.layouts.specs.Format.{entry_fits, layout_good}
use Rattle.places.proofs.Records.{every_more, every_set, every_nth}
use Rattle.places.proofs.PlaceLaws.{distinct_last, found_last, found_kept}
use Rattle.layouts.proofs.LayoutLists.{Good, good, is_good}

-- ---- entries by position

pub nth_get_or : (es : List BindGroupLayoutEntry) (i : ℕ) → entry_nth es i ≡ get_or es i empty_entry
unfolding entry_nth
nth_get_or [] i = refl
nth_get_or (e ∷ es) zero = refl
nth_get_or (e ∷ es) (suc i) = nth_get_or es i

pub nth_more : (es : List BindGroupLayoutEntry) (e : BindGroupLayoutEntry) (k : ℕ) → k < length es → entry_nth (es ++ (e ∷ [])) k ≡ entry_nth es k
nth_more es e k h = rw (nth_get_or (es ++ (e ∷ [])) k, nth_get_or es k) (get_or-append es (e ∷ []) empty_entry k h)

pub nth_last : (es : List BindGroupLayoutEntry) (e : BindGroupLayoutEntry) → entry_nth (es ++ (e ∷ [])) (length es) ≡ e
nth_last es e = rw (nth_get_or (es ++ (e ∷ [])) (length es)) (get_or-append_seam es e [] empty_entry)

-- ---- a stage joined to a visibility

-- of a stage joined: each bit is as it was, its own is set, and five bits are enough
joins_right : ℕ → ℕ → ℕ → Bool
joins_right s t v = pick (pick (eqb t s) true (sees_bit t v)) (sees_bit t (join_bit s v)) (not (sees_bit t (join_bit s v))) && ltb (join_bit s v) 32

joinings : all_below 5 (λ s. all_below 5 (λ t. all_below 32 (λ v. joins_right s t v))) ≡ true
unfolding joins_right
joinings = refl

same_bool_lem : (a b : Bool) → pick a b (not b) ≡ true → b ≡ a
same_bool_lem true b h = h
same_bool_lem false true h = never false h refl
same_bool_lem false false h = refl

module _ (s v : ℕ) (hs : s ≤ 4) (hv : v < 32) where
  joins : (t : ℕ) → t ≤ 4 → joins_right s t v ≡ true
  joins t ht =
      below_all 32 (λ v. joins_right s t v)
      (below_all 5 (λ t. all_below 32 (λ v. joins_right s t v)) (below_all 5 (λ s. all_below 5 (λ t. all_below 32 (λ v. joins_right s t v))) joinings s (omega arith)) t (omega arith)) v hv

  -- bit t of the new visibility is the old bit, or 1 where t is the stage joined
  pub join_bits : (t : ℕ) → t ≤ 4 → sees_bit t (join_bit s v) ≡ pick (eqb t s) true (sees_bit t v)
  unfolding joins_right
  join_bits t ht =
      same_bool_lem (pick (eqb t s) true (sees_bit t v)) (sees_bit t (join_bit s v))
      (first (pick (pick (eqb t s) true (sees_bit t v)) (sees_bit t (join_bit s v)) (not (sees_bit t (join_bit s v)))) (ltb (join_bit s v) 32) (joins t ht))

  join_short : join_bit s v < 32
  unfolding joins_right
  join_short =
      ltb-true (join_bit s v) 32
      (second (pick (pick (eqb 0 s) true (sees_bit 0 v)) (sees_bit 0 (join_bit s v)) (not (sees_bit 0 (join_bit s v)))) (ltb (join_bit s v) 32) (joins 0 (omega arith)))

-- ---- a stage joined to an entry

pub joined_set : (s : ℕ) (es : List BindGroupLayoutEntry) (i : ℕ) → join_at s es i ≡ set es i (seen_by s (entry_nth es i))
unfolding join_at entry_nth
joined_set s [] i = refl
joined_set s (e ∷ es) zero = refl
joined_set s (e ∷ es) (suc i) = ap (λ l. e ∷ l) (joined_set s es i)

module _ (s : ℕ) (es : List BindGroupLayoutEntry) (i : ℕ) where
  pub length_join : length (join_at s es i) ≡ length es
  length_join = rw (joined_set s es i) (length-set es i (seen_by s (entry_nth es i)))

  places_join : entry_places (join_at s es i) ≡ entry_places es
  places_join =
      rw (joined_set s es i)
      (map-set_same (λ e. e.bind) es i (seen_by s (entry_nth es i)) empty_entry (ap (λ (e : BindGroupLayoutEntry). e.bind) (nth_get_or es i)))

pub nth_joined : (s : ℕ) (es : List BindGroupLayoutEntry) (i : ℕ) → i < length es → entry_nth (join_at s es i) i ≡ seen_by s (entry_nth es i)
nth_joined s es i h = rw (nth_get_or (join_at s es i) i, joined_set s es i) (get_or-set_same es i (seen_by s (entry_nth es i)) empty_entry h)

pub nth_beside : (s : ℕ) (es : List BindGroupLayoutEntry) (i k : ℕ) → (k ≡ i → ⊥) → entry_nth (join_at s es i) k ≡ entry_nth es k
nth_beside s es i k h =
    rw (nth_get_or (join_at s es i) k, joined_set s es i) (get_or-set_other es i k (seen_by s (entry_nth es i)) empty_entry h ∙ sym (nth_get_or es k))

-- ---- rules that stay

fits_joined : (g s : ℕ) (e : BindGroupLayoutEntry) → s ≤ 4 → entry_fits g e ≡ true → entry_fits g (seen_by s e) ≡ true
fits_joined g s e hs h =
    let v : e.visibility < 32 = search (ltb-true, first, second) depth 6 in
    let p : place_encodable e.bind ≡ true = search (first, second) depth 6 in
    let f : format_encodable e.ty ≡ true = search (first, second) depth 6 in
    let b : ltb e.bind.group g ≡ true = search second in
    rw (p, f, b, lt-ltb (join_bit s e.visibility) 32 (join_short s e.visibility hs v))

module _ (L : Layout) (h : layout_good L ≡ true) where
  -- well-formedness is kept by a new entry that the list can hold at a new place
  pub good_pushed : (e : BindGroupLayoutEntry) → entry_fits L.groups e ≡ true → entry_has e.bind L.entries ≡ false → 4 ≤ length L.room
      → layout_good (pushed L e) ≡ true
  unfolding pushed
  good_pushed e f n r =
      let g : Good L = good L h in
      is_good (pushed L e)
      (record {
        short = omega (arith, g.short, length-append L.entries (e ∷ []), length-drop 4 L.room);
        groups = g.groups;
        encodable = every_more (entry_fits L.groups) L.entries e g.encodable f;
        distinct = distinct_last (λ e. e.bind) L.entries e g.distinct n;
      })

  -- and by a stage joined
  pub good_joined : (s i : ℕ) → s ≤ 4 → i < length L.entries → layout_good (joined s L i) ≡ true
  unfolding joined
  good_joined s i hs hi =
      let g : Good L = good L h in
      let t : entry_fits L.groups (entry_nth L.entries i) ≡ true
      = rw (nth_get_or L.entries i) (every_nth (entry_fits L.groups) L.entries i empty_entry g.encodable hi) in
      is_good (joined s L i)
      (record {
        short = omega (arith, g.short, length_join s L.entries i);
        groups = g.groups;
        encodable =
            rw (joined_set s L.entries i)
            (every_set (entry_fits L.groups) L.entries i (seen_by s (entry_nth L.entries i)) g.encodable
            (fits_joined L.groups s (entry_nth L.entries i) hs t));
        distinct = rw (places_join s L.entries i) g.distinct;
      })

-- ---- where entries are found

-- after a push the new place is found at the new last position, other places where they were
pub find_pushed : (L : Layout) (e : BindGroupLayoutEntry) → entry_has e.bind L.entries ≡ false
    → find_entry e.bind (pushed L e) ≡ Some (length L.entries)
unfolding pushed
find_pushed L e h =
    let z : 0 + length (entry_places L.entries) ≡ length L.entries = omega (arith, length-map L.entries (λ e. e.bind)) in
    rw (map-append (λ e. e.bind) L.entries (e ∷ []), found_last (entry_places L.entries) e.bind 0 h, z)

pub find_beside : (L : Layout) (e : BindGroupLayoutEntry) (place : ResourceBinding) → same_place e.bind place ≡ false
    → find_entry place (pushed L e) ≡ find_entry place L
unfolding pushed
find_beside L e place h =
    rw (map-append (λ e. e.bind) L.entries (e ∷ [])) (found_kept (entry_places L.entries) place e.bind 0 h)

pub find_joined : (L : Layout) (s i : ℕ) (place : ResourceBinding) → find_entry place (joined s L i) ≡ find_entry place L
unfolding joined
find_joined L s i place = rw (places_join s L.entries i)
