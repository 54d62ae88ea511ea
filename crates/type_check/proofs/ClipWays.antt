-- Clip distances by words: the code's ways, and that they are the rule of what stands there.
use Prim.Native.Nat.{ℕ, ◌+◌, ◌*◌, ◌/◌, ◌%◌, ◌^◌, ◌<◌}
use native.Mathlib.Omega.{arith}
use mathlib.Core.Path.{◌≡◌, refl}
use mathlib.Core.Bool.{false}
use mathlib.Core.List.{List}
use borrow.Author.Tests.{ne_eqb, eqb-true, eqb-false, ltb-true, lt-leb, le-leb}
use lib.Dec.{eqb, leb, ltb}
use lib.ListN.{length, drop}
use lib.Seq.{get_or-drop}
use Rattle.word.specs.Words.{word_at, kind_of, content_of, bits}
use Rattle.word.proofs.Parse.{first_of, others_of}
use Rattle.word.proofs.Truth.{by_test}
use Rattle.numeric.specs.TypeWords.{type_of, shape_at, kind_at}
use Rattle.numeric.specs.declared.types.Scalar as Numeric
use Rattle.numeric.specs.declared.types.NumericDimension.{NumericDimension}
use Rattle.numeric.specs.declared.types.NumericDimension.TheVariants as D
use Rattle.interface.specs.Format.{built_in_of}
use Rattle.type_lists.specs.Meaning.{BuiltIn, TypeInner, Array, Struct, type_numbered}
use Rattle.type_lists.specs.Format.{is_clip, is_float, is_f32, clip_good, binding_good, shaped, numeric_type}
use Rattle.type_check.specs.Inner.Positions.{binding_at, binding_of, members_at, type_at}
use Rattle.type_check.specs.declared.notes.TypeNote.{TypeNote}
use Rattle.type_check.specs.Inner.Notes.{start_at, clip_word, Noted}
use Rattle.type_check.specs.Inner.Clips.{f32_at, clip_good_at, binding_good_at}

-- ---- what stands at a position, by the first word's kind

module _ (ws : List ℕ) (at : ℕ) where
  pub type_22 : kind_of (word_at ws at) ≡ 22 → type_at (drop at ws) ≡ numeric_type (type_of (word_at ws at))
  unfolding type_at
  type_22 k = rw (first_of ws at, k)

  pub type_23 : kind_of (word_at ws at) ≡ 23 → type_at (drop at ws) ≡ Array (bits 15 0 (word_at ws at)) (content_of (word_at ws (at + 1)))
  unfolding type_at
  type_23 k = rw (first_of ws at, get_or-drop at ws 1 0, k)

  pub type_24 : (kind_of (word_at ws at) ≡ 22 → ⊥) → (kind_of (word_at ws at) ≡ 23 → ⊥)
      → type_at (drop at ws) ≡ Struct (members_at (bits 15 0 (word_at ws at)) (drop (at + 1) ws))
  unfolding type_at
  type_24 k l = rw (first_of ws at, ne_eqb (kind_of (word_at ws at)) 22 k, ne_eqb (kind_of (word_at ws at)) 23 l, others_of ws at)

-- ---- the rule

pub clip_bound : (l : List ℕ) → is_clip (binding_at l) ≡ clip_word (word_at l 0)
unfolding binding_of
clip_bound l =
    by_test (eqb (kind_of (word_at l 0)) 12)
    (λ t. let k : eqb (kind_of (word_at l 0)) 14 ≡ false = ne_eqb (kind_of (word_at l 0)) 14 (λ z. omega (arith, eqb-true (kind_of (word_at l 0)) 12 t)) in rw (t, k))
    λ f. by_test (eqb (kind_of (word_at l 0)) 14) (λ t. rw (f, t) (code (word_at l 0))) (λ g. rw (f, g))
  where
    code : (w : ℕ) → is_clip (BuiltIn (built_in_of w)) ≡ leb 4 (bits 26 24 w)
    code w =
        by_test (eqb (bits 26 24 w) 0) (λ t. rw (t, lt-leb 4 (bits 26 24 w) (omega (arith, eqb-true (bits 26 24 w) 0 t)))) λ f.
        by_test (eqb (bits 26 24 w) 1) (λ t. rw (f, t, lt-leb 4 (bits 26 24 w) (omega (arith, eqb-true (bits 26 24 w) 1 t)))) λ g.
        by_test (eqb (bits 26 24 w) 2) (λ t. rw (f, g, t, lt-leb 4 (bits 26 24 w) (omega (arith, eqb-true (bits 26 24 w) 2 t)))) λ h.
        by_test (eqb (bits 26 24 w) 3) (λ t. rw (f, g, h, t, lt-leb 4 (bits 26 24 w) (omega (arith, eqb-true (bits 26 24 w) 3 t)))) λ i.
        let a = eqb-false (bits 26 24 w) 0 f in
        let b = eqb-false (bits 26 24 w) 1 g in
        let c = eqb-false (bits 26 24 w) 2 h in
        let d = eqb-false (bits 26 24 w) 3 i in
        rw (f, g, h, i, le-leb 4 (bits 26 24 w) (omega arith))

glued : (w p q r : ℕ) → w ≡ 16 * p → p ≡ 2 + 4 * q → q ≡ 4 + 16 * r → w % 1024 ≡ 288
glued w p q r a b c = omega arith

parted : (w q : ℕ) → w ≡ 288 + 1024 * q → (bits 5 4 w ≡ 2) × (bits 9 6 w ≡ 4)
parted w q e = (omega arith, omega arith)

no_float : (c : ℕ) → eqb c 2 ≡ false → is_float (kind_at c) ≡ false
no_float c h = by_test (eqb c 0) (λ t. rw t) (λ f. by_test (eqb c 1) (λ t. rw (f, t)) (λ g. rw (f, g, h)))

no_scalar : (c : ℕ) (s : Numeric.Scalar) → eqb c 0 ≡ false → is_f32 (shaped (shape_at c) s) ≡ false
no_scalar c s h = by_test (ltb c 4) (λ t. rw (h, t)) (λ f. rw (h, f))

f32_word : (w : ℕ) → is_f32 (numeric_type (type_of w)) ≡ eqb (w % 1024) 288
unfolding type_of
f32_word w =
    by_test (eqb (w % 1024) 288)
    (λ t. let q : w % 1024 ≡ 288 = eqb-true (w % 1024) 288 t in
    let a : bits 3 0 w ≡ 0 = omega arith in
    let u : w ≡ 288 + 1024 * (w / 1024) = omega arith in
    let (b, c) = parted w (w / 1024) u in
    rw (t, a, b, c))
    λ f. let q : w % 1024 ≡ 288 → ⊥ = eqb-false (w % 1024) 288 f in
    by_test (eqb (bits 3 0 w) 0)
    (λ a. let a₁ : bits 3 0 w ≡ 0 = eqb-true (bits 3 0 w) 0 a in
    by_test (eqb (bits 5 4 w) 2)
    (λ b. let b₁ : bits 5 4 w ≡ 2 = eqb-true (bits 5 4 w) 2 b in
    let c : bits 9 6 w ≡ 4 → ⊥ = λ z. q (glued w (w / 2 ^ 4) (w / 2 ^ 6) (w / 2 ^ 10) (omega arith) (omega arith) (omega arith)) in
    rw (f, a₁, b₁, ne_eqb (bits 9 6 w) 4 c))
    (λ b. let m : is_float (kind_at (bits 5 4 w)) ≡ false = no_float (bits 5 4 w) b in rw (f, a₁, m)))
    (λ a. rw f (no_scalar (bits 3 0 w) _ a))

module _ (types : List TypeInner) (ws : List ℕ) (notes : List TypeNote) (s : Noted types ws notes) where
  f32_is : (n : ℕ) → n < length types → is_f32 (type_numbered types n) ≡ f32_at ws (start_at notes n)
  f32_is n h =
      rw (s.each n h).is
      (by_test (eqb (kind_of (word_at ws (start_at notes n))) 22)
      (λ t. rw (t, type_22 ws (start_at notes n) (eqb-true (kind_of (word_at ws (start_at notes n))) 22 t)) (f32_word (word_at ws (start_at notes n))))
      λ f. by_test (eqb (kind_of (word_at ws (start_at notes n))) 23)
      (λ t. rw (f, type_23 ws (start_at notes n) (eqb-true (kind_of (word_at ws (start_at notes n))) 23 t)))
      (λ g. rw (f, type_24 ws (start_at notes n) (eqb-false (kind_of (word_at ws (start_at notes n))) 22 f) (eqb-false (kind_of (word_at ws (start_at notes n))) 23 g))))

  -- the element of an array is an earlier type
  element_earlier : (n : ℕ) → n < length types → kind_of (word_at ws (start_at notes n)) ≡ 23 → bits 15 0 (word_at ws (start_at notes n)) < n
  element_earlier n h k =
      ltb-true (bits 15 0 (word_at ws (start_at notes n))) n (rw ((s.each n h).is, type_23 ws (start_at notes n) k) at (s.each n h).below)

  -- so it has an entry in the table
  pub element_noted : (n count : ℕ) → length types ≡ count → n < count → kind_of (word_at ws (start_at notes n)) ≡ 23 → bits 15 0 (word_at ws (start_at notes n)) < 256
  element_noted n count l h k = omega (arith, element_earlier n (omega arith) k, s.few)

  clip_is : (n : ℕ) → n < length types → clip_good types (type_numbered types n) ≡ clip_good_at ws notes (start_at notes n)
  unfolding clip_good_at
  clip_is n h =
      rw (s.each n h).is
      (by_test (eqb (kind_of (word_at ws (start_at notes n))) 22)
      (λ t. rw (t, type_22 ws (start_at notes n) (eqb-true (kind_of (word_at ws (start_at notes n))) 22 t))
      (no_clip (type_of (word_at ws (start_at notes n))).dim (type_of (word_at ws (start_at notes n))).scalar))
      λ f. by_test (eqb (kind_of (word_at ws (start_at notes n))) 23)
      (λ t. let z = eqb-true (kind_of (word_at ws (start_at notes n))) 23 t in
      let l : bits 15 0 (word_at ws (start_at notes n)) < length types = omega (arith, element_earlier n h z) in
      rw (f, t, type_23 ws (start_at notes n) z, ← f32_is (bits 15 0 (word_at ws (start_at notes n))) l))
      (λ g. rw (f, g, type_24 ws (start_at notes n) (eqb-false (kind_of (word_at ws (start_at notes n))) 22 f) (eqb-false (kind_of (word_at ws (start_at notes n))) 23 g))))
    where
      no_clip : (d : NumericDimension) (sc : Numeric.Scalar) → clip_good types (shaped d sc) ≡ false
      no_clip D.Scalar sc = refl
      no_clip (D.Vector size) sc = refl
      no_clip (D.Matrix columns rows) sc = refl

  pub good_is : (n : ℕ) (l : List ℕ) → n < length types → binding_good types n (binding_at l) ≡ binding_good_at ws notes n (word_at l 0)
  unfolding binding_good binding_good_at
  good_is n l h = rw (clip_is n h, clip_bound l)

-- the element of an array whose words were read
pub element_read : (ws : List ℕ) (at start w x : ℕ) → (kind_of (word_at ws at) ≡ 23 → bits 15 0 (word_at ws at) < 256) → start ≡ at → w ≡ word_at ws start → x ≡ kind_of w → x ≡ 23 → w % 2 ^ 16 < 256
element_read ws at start w x h a e k z = let o : w ≡ word_at ws at = rw (← a) e in rw o (h (rw (← o, ← k) z))
