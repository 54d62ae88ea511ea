-- The code's ways through places.
use Rattle.std.proofs.Common.{Option, Some, None}
use Prim.Native.Nat.{ℕ, ◌+◌, ◌-◌, ◌*◌, ◌%◌, ◌<◌, ◌≤◌, ◌^◌, zero, suc}
use native.Mathlib.Omega.{arith}
use mathlib.Core.Path.{◌≡◌, refl, sym, ap, ◌∙◌}
use mathlib.Core.Bool.{Bool, true, false}
use mathlib.Core.List.{List, [], ◌∷◌}
use lib.ListN.{drop, get_or}
use borrow.Author.Tests.{eq-eqb, eqb-true, ltb-true}
use Rattle.word.specs.Choice.{pick}
use Rattle.word.specs.Words.{word_at, content_of, kind_of, bits}
use Rattle.word.proofs.Truth.{by_test}
use Rattle.bindings.specs.Format.{place_of}
use Rattle.bindings.specs.declared.types.ResourceBinding.{ResourceBinding}
use Rattle.places.specs.Places.{same_place, place_from, place_in, distinct_places, found_below, read_place, places}
use Rattle.word.proofs.Lists.{first_passes, rest_passes}
use Rattle.places.specs.Records.{each, records}
use Rattle.places.specs.Inner.Begins.{place_first}
use Rattle.places.proofs.Records.{each_at, read_length, nth_record, records_at, left_none}
use Rattle.word.proofs.Parse.{first_of}
use Rattle.places.proofs.PlaceLaws.{same_place_eq, found_nth}
use native.Mathlib.Nat.{mul-suc, mul-zero}
use native.Mathlib.Numerals.{add-one}
use lib.Seq.{drop-drop}

-- ---- a place counted from the last

pub found_below_lem : (n left : ℕ) → left ≤ n → (left ≡ 0 → ⊥) → n - left < n
found_below_lem n left h k = omega arith

-- ---- a place sought by the content of its word

pub content_place : (w : ℕ) → place_of (w % 0x800_0000) ≡ place_of w
content_place w =
    let g : bits 26 23 (w % 0x800_0000) ≡ bits 26 23 w = omega arith in
    let b : bits 22 0 (w % 0x800_0000) ≡ bits 22 0 w = omega arith in
    rw (g, b)

module _ (w content : ℕ) (h : content < 2 ^ 27) where
  content_same : w % 0x800_0000 ≡ content → same_place (place_of w) (place_of content) ≡ true
  content_same e =
      let g : bits 26 23 w ≡ bits 26 23 content = omega arith in
      let b : bits 22 0 w ≡ bits 22 0 content = omega arith in
      rw (eq-eqb (bits 26 23 w) (bits 26 23 content) g, eq-eqb (bits 22 0 w) (bits 22 0 content) b)

  content_other : (w % 0x800_0000 ≡ content → ⊥) → same_place (place_of w) (place_of content) ≡ false
  content_other n =
      by_test (same_place (place_of w) (place_of content))
      (λ t.
      let e : place_of w ≡ place_of content = same_place_eq (place_of w) (place_of content) t in
      let g : bits 26 23 w ≡ bits 26 23 content = ap (λ p. p.group) e in
      let b : bits 22 0 w ≡ bits 22 0 content = ap (λ p. p.binding) e in
      absurd (n (omega arith)))
      (λ f. f)

-- a place among records, the last of them tested first
module _ (width : ℕ) (p : ResourceBinding) where
  behind_one : (i : ℕ) (l : List ℕ) → drop (width * i) (drop width l) ≡ drop (width * suc i) l
  behind_one i l = let e : width + width * i ≡ width * suc i = rw mul-suc (omega arith) in rw (drop-drop (width * i) width l, e)

  last_same : (i : ℕ) (l : List ℕ) → same_place (read_place (drop (width * i) l)) p ≡ true → place_in p (places width (suc i) l) ≡ true
  unfolding place_in records
  last_same zero l h = let k : same_place (read_place l) p ≡ true = rw mul-zero at h in rw k
  last_same (suc i) l h =
      by_test (same_place (read_place l) p)
      (λ t. rw t)
      (λ f. rw f (last_same i (drop width l) (rw (behind_one i l) h)))

  last_differs : (i : ℕ) (l : List ℕ) → same_place (read_place (drop (width * i) l)) p ≡ false → place_in p (places width (suc i) l) ≡ place_in p (places width i l)
  unfolding place_in records
  last_differs zero l h = let k : same_place (read_place l) p ≡ false = rw mul-zero at h in rw k
  last_differs (suc i) l h =
      by_test (same_place (read_place l) p)
      (λ t. rw t)
      (λ f. rw f (last_differs i (drop width l) (rw (behind_one i l) h)))

module _ (width i content : ℕ) (l : List ℕ) (goal : Bool) (inv : goal ≡ place_in (place_of content) (places width i l)) where
  module _ (h : 0 < i) (encodable : content < 2 ^ 27) where
    one_more : suc (i - 1) ≡ i
    one_more = omega arith

    pub content_found : word_at l (width * (i - 1)) % 0x800_0000 ≡ content → true ≡ goal
    content_found e =
        let s : same_place (read_place (drop (width * (i - 1)) l)) (place_of content) ≡ true
        = rw (first_of l (width * (i - 1))) (content_same (word_at l (width * (i - 1))) content encodable e) in
        sym (inv ∙ rw one_more at (last_same width (place_of content) (i - 1) l s))

    pub content_onward : (word_at l (width * (i - 1)) % 0x800_0000 ≡ content → ⊥) → goal ≡ place_in (place_of content) (places width (i - 1) l)
    content_onward e =
        let s : same_place (read_place (drop (width * (i - 1)) l)) (place_of content) ≡ false
        = rw (first_of l (width * (i - 1))) (content_other (word_at l (width * (i - 1))) content encodable e) in
        inv ∙ rw one_more at (last_differs width (place_of content) (i - 1) l s)

  pub content_nowhere : i ≤ 0 → false ≡ goal
  unfolding place_in records
  content_nowhere z = let k : i ≡ 0 = omega arith in sym (inv ∙ rw k)

-- ---- a place sought by its word, among records that begin with a place's word

module _ (width n i : ℕ) (l : List ℕ) (h : i < n) (t : each width place_first (n - i) (drop (width * i) l) ≡ true) where
  abbrev others : Bool
  others = each width place_first (n - (i + 1)) (drop (width * (i + 1)) l)

  first_is_place : kind_of (word_at l (width * i)) ≡ 4
  first_is_place =
      rw (first_of l (width * i)) at (eqb-true (kind_of (word_at (drop (width * i) l) 0)) 4 (first_passes (place_first (drop (width * i) l)) others (rw (each_at width n i place_first l h) at t)))

  pub places_onward : others ≡ true
  places_onward = rest_passes (place_first (drop (width * i) l)) others (rw (each_at width n i place_first l h) at t)

module _ (w place : ℕ) (k : kind_of w ≡ 4) (m : kind_of place ≡ 4) where
  word_other : (w ≡ place → ⊥) → same_place (place_of w) (place_of place) ≡ false
  word_other n =
      ap (λ p. same_place (place_of w) p) (sym (content_place place)) ∙ content_other w (place % 0x800_0000) (omega arith) (λ e. n (omega arith))

same_itself : (p : ResourceBinding) → same_place p p ≡ true
same_itself p = rw (eq-eqb p.group p.group refl, eq-eqb p.binding p.binding refl)

module _ (width n i place : ℕ) (l : List ℕ) (goal : Option ℕ) (inv : goal ≡ place_from (place_of place) (places width (n - i) (drop (width * i) l)) i) where
  module _ (h : i < n) where
    pub word_found : word_at l (width * i) ≡ place → Some i ≡ goal
    unfolding place_from
    word_found e = sym (inv ∙ rw (records_at width n i h read_place l, first_of l (width * i), e, same_itself (place_of place)))

    pub word_onward : kind_of place ≡ 4 → each width place_first (n - i) (drop (width * i) l) ≡ true → (word_at l (width * i) ≡ place → ⊥)
        → goal ≡ place_from (place_of place) (places width (n - (i + 1)) (drop (width * (i + 1)) l)) (i + 1)
    unfolding place_from
    word_onward m t e =
        inv ∙ rw (records_at width n i h read_place l, first_of l (width * i), word_other (word_at l (width * i)) place (first_is_place width n i l h t) m e)

  pub word_nowhere : n ≤ i → None ≡ goal
  unfolding place_from
  word_nowhere z = let k : n - i ≡ 0 = omega arith in sym (inv ∙ rw (left_none width read_place (n - i) (drop (width * i) l) k))

-- the word of a content is a place's, and tells the same place
module _ (content : ℕ) (h : content < 2 ^ 27) where
  pub content_kind : kind_of (0x20000000 + content) ≡ 4
  content_kind = omega arith

  pub content_word : (ps : List ResourceBinding) (r : Option ℕ) → r ≡ place_from (place_of (0x20000000 + content)) ps 0 → r ≡ place_from (place_of content) ps 0
  content_word ps r f =
      let g : bits 26 23 (0x20000000 + content) ≡ bits 26 23 content = omega arith in
      let n : bits 22 0 (0x20000000 + content) ≡ bits 22 0 content = omega arith in
      rw (g, n) at f

-- a word tells the place that its content tells
pub content_tells : (ps : List ResourceBinding) (r : Option ℕ) (w c : ℕ) → c ≡ content_of w → r ≡ place_from (place_of c) ps 0 → r ≡ place_from (place_of w) ps 0
content_tells ps r w c e f =
    let g : bits 26 23 c ≡ bits 26 23 w = omega arith in
    let n : bits 22 0 c ≡ bits 22 0 w = omega arith in
    rw (g, n) at f

-- ---- a position that is tried first: no other record has its place

pub near_record : (width n i : ℕ) (l : List ℕ) (content : ℕ) → i < n → distinct_places (places width n l) ≡ true → word_at l (width * i) % 0x800_0000 ≡ content
    → Some i ≡ place_from (place_of content) (places width n l) 0
near_record width n i l content h d q =
    let ps = places width n l in
    let g : get_or ps i (place_of content) ≡ place_of content
    = nth_record width read_place n i l (place_of content) h
    ∙ rw (first_of l (width * i)) (sym (content_place (word_at l (width * i))) ∙ ap place_of q) in
    let z : 0 + i ≡ i = omega arith in
    sym (rw (g, z) at (found_nth ps 0 i (place_of content) d (omega (arith, read_length width read_place n l))))

-- ---- a position that was found

module _ (n i : ℕ) (f : Option ℕ) (h : found_below n f ≡ true) (e : f ≡ Some i) where
  pub found_inside : i < n
  found_inside = ltb-true i n (rw e at h)

  -- and its word can be read
  pub found_bytes : n * 4 < 2 ^ 63 → i * 4 < 2 ^ 64
  found_bytes k = omega (arith, found_inside)

-- ---- a place among others

abbrev is_at : Option ℕ → Bool
is_at (Some i) = true
is_at None = false

sought_in : (place : ResourceBinding) (ps : List ResourceBinding) (i : ℕ) → place_in place ps ≡ is_at (place_from place ps i)
unfolding place_in place_from
sought_in place [] i = refl
sought_in place (p ∷ ps) i = go (same_place p place) (sought_in place ps (i + 1))
  where
    go : (b : Bool) → place_in place ps ≡ is_at (place_from place ps (i + 1))
        → pick b true (place_in place ps) ≡ is_at (pick b (Some i) (place_from place ps (i + 1)))
    go true e = refl
    go false e = e

module _ (place : ResourceBinding) (ps : List ResourceBinding) (f : Option ℕ) (e : f ≡ place_from place ps 0) where
  pub place_found : (i : ℕ) → f ≡ Some i → true ≡ place_in place ps
  place_found i h = rw (sought_in place ps 0, ← e, h)

  pub place_lacks : f ≡ None → false ≡ place_in place ps
  place_lacks h = rw (sought_in place ps 0, ← e, h)
