-- The code's ways through what a type that is no struct gives.
use Prim.Native.Nat.{ℕ, ◌+◌, ◌*◌, ◌/◌, ◌%◌, ◌^◌, ◌<◌, ◌≤◌}
use native.Mathlib.Omega.{arith}
use mathlib.Core.Path.{◌≡◌, refl, sym, ◌∙◌}
use mathlib.Core.Bool.{Bool, true, false, not}
use mathlib.Core.List.{List, [], ◌∷◌}
use borrow.Author.Tests.{ne_eqb, eqb-true, not-true, not-false}
use lib.Dec.{eqb}
use lib.ListN.{length, drop, set, length-set}
use Rattle.word.specs.Choice.{pick, yes}
use Rattle.word.specs.Words.{word_at, kind_of, content_of, bits, bit, of_kind}
use Rattle.word.specs.Lists.{flat}
use Rattle.word.proofs.Truth.{by_test}
use Rattle.numeric.specs.TypeWords.{shape_at, kind_at, type_of, type_word}
use Rattle.numeric.specs.declared.types.NumericType.{NumericType}
use Rattle.numeric.proofs.Joined.{kind_below, shape_below}
use Rattle.varying.specs.Format.{var_word}
use Rattle.varying.proofs.Joined.{flag_back}
use Rattle.interface.specs.Format.{built_in_of, built_in_code}
use Rattle.interface.specs.declared.types.BuiltIn.TheVariants as In
use Rattle.type_lists.specs.Meaning.{Binding, Unbound, Location, BuiltIn}
use Rattle.type_lists.specs.Format.{is_clip}
use Rattle.type_lists.specs.Rules.{numeric_gives, array_gives, type_gives}
use Rattle.type_check.specs.Inner.Positions.{binding_of, type_at, struct_at}
use Rattle.type_check.specs.Inner.Notes.{words_of, clip_word}
use Rattle.type_check.proofs.ClipWays.{type_22, type_23, clip_bound}
use Rattle.type_check.proofs.GivenWays.{shaped_gives}
use Rattle.populate.specs.Inner.Written.{put, bound_var, nothing}

-- ---- words

type_few : (w : ℕ) → type_word (type_of w) < 0x6800_0400
unfolding type_word type_of
type_few w = let s = shape_below (shape_at (bits 3 0 w)) in let k = kind_below (kind_at (bits 5 4 w)) in omega arith

-- the sum fits a word
pub var_fits : (w u v : ℕ) (t : NumericType) → t ≡ type_of w → u ≡ type_word t → u + 2 ^ 12 * (v / 2 ^ 12 % 128) < 2 ^ 32
var_fits w u v t e f = let g : u < 0x6800_0400 = rw (f, e) (type_few w) in omega arith

-- interpolation, sampling and the bit behind them are the seven bits from bit 12 on

fields : (v : ℕ) → 2 ^ 12 * (v / 2 ^ 12 % 128) ≡ 2 ^ 12 * bits 14 12 v + (2 ^ 15 * bits 17 15 v + 2 ^ 18 * bit 18 v)
fields v =
    let a : v / 2 ^ 15 ≡ v / 2 ^ 12 / 8 = omega arith in
    let b : v / 2 ^ 18 ≡ v / 2 ^ 12 / 64 = omega arith in
    rw (a, b) (omega arith)

pub var_is : (w u v : ℕ) (t : NumericType) → t ≡ type_of w → u ≡ type_word t → u + 2 ^ 12 * (v / 2 ^ 12 % 128) ≡ var_word (bound_var (type_of w) v)
unfolding var_word
var_is w u v t e f = rw (f, e, flag_back (bit 18 v) (omega arith), fields v)

-- ---- what a scalar, vector, matrix or array gives

module _ (w v x : ℕ) (k : x ≡ kind_of w) (t : NumericType) (l : List ℕ) (to : ℕ) where
  local_words : x ≡ 12 → words_of (numeric_gives t (binding_of w v)) ≡ of_kind 12 (content_of w) ∷ var_word (bound_var t v) ∷ []
  unfolding binding_of flat
  local_words h = rw (← k, h)

  built_in_words : x ≡ 14 → words_of (numeric_gives t (binding_of w v)) ≡ of_kind 14 (built_in_code (built_in_of w)) ∷ []
  unfolding binding_of flat
  built_in_words h = rw (← k, h)

  no_words : (x ≡ 12 → ⊥) → (x ≡ 14 → ⊥) → words_of (numeric_gives t (binding_of w v)) ≡ []
  unfolding binding_of flat
  no_words n h = rw (← k, ne_eqb x 12 n, ne_eqb x 14 h)

  pub put_local : (a u : ℕ) → x ≡ 12 → a ≡ content_of w → u ≡ var_word (bound_var t v)
      → (to + 2, set (set l to (0x6000_0000 + a)) (to + 1) u) ≡ put l to (words_of (numeric_gives t (binding_of w v)))
  unfolding put
  put_local a u h g i = let m : to + 1 + 1 ≡ to + 2 = omega arith in rw (local_words h, ← g, ← i, m)

  pub put_built_in : (u : ℕ) → x ≡ 14 → u ≡ of_kind 14 (built_in_code (built_in_of w)) → (to + 1, set l to u) ≡ put l to (words_of (numeric_gives t (binding_of w v)))
  unfolding put
  put_built_in u h f = rw (built_in_words h, ← f)

  pub put_none : (x ≡ 12 → ⊥) → (x ≡ 14 → ⊥) → (to, l) ≡ put l to (words_of (numeric_gives t (binding_of w v)))
  unfolding put
  put_none n h = rw (no_words n h)

  module _ (room : to + length (words_of (numeric_gives t (binding_of w v))) ≤ length l) where
    local_room : x ≡ 12 → to + 2 ≤ length l
    local_room h = rw (local_words h) at room

    pub local_first : x ≡ 12 → to < length l
    local_first h = omega (arith, local_room h)

    pub local_second : (y : ℕ) → x ≡ 12 → to + 1 < length (set l to y)
    local_second y h = simp length-set (omega (arith, local_room h))

    pub built_in_room : x ≡ 14 → to < length l
    built_in_room h = let r : to + 1 ≤ length l = rw (built_in_words h) at room in omega arith

clip_by : (size : ℕ) (b : Binding) → words_of (array_gives size b) ≡ pick (yes (is_clip b)) (of_kind 14 (2 ^ 24 * 4 + size) ∷ []) []
unfolding flat yes
clip_by size Unbound = refl
clip_by size (Location a i s p) = refl
clip_by size (BuiltIn (In.Other slots)) = refl
clip_by size (BuiltIn (In.PrimitiveIndex slots)) = refl
clip_by size (BuiltIn (In.DrawIndex slots)) = refl
clip_by size (BuiltIn (In.FragDepth slots)) = refl
clip_by size (BuiltIn (In.ClipDistances none)) = refl

module _ (w v size : ℕ) (b : Bool) (f : b ≡ clip_word w) (l : List ℕ) (to : ℕ) where
  clip_words : words_of (array_gives size (binding_of w v)) ≡ pick (yes b) (of_kind 14 (2 ^ 24 * 4 + size) ∷ []) []
  clip_words = clip_by size (binding_of w v) ∙ rw (clip_bound (w ∷ v ∷ []), ← f)

  pub clip_none : not b ≡ true → (to, l) ≡ put l to (words_of (array_gives size (binding_of w v)))
  unfolding put yes
  clip_none n = rw (clip_words, not-true b n)

  pub clip_some : not b ≡ false → (to + 1, set l to (0x7400_0000 + size)) ≡ put l to (words_of (array_gives size (binding_of w v)))
  unfolding put yes
  clip_some n = let m : of_kind 14 (2 ^ 24 * 4 + size) ≡ 0x7400_0000 + size = omega arith in rw (clip_words, not-false b n, m)

  pub clip_room : not b ≡ false → to + length (words_of (array_gives size (binding_of w v))) ≤ length l → to < length l
  unfolding yes
  clip_room n room = let r : to + 1 ≤ length l = rw (clip_words, not-false b n) at room in omega arith

-- ---- by the type

array_kind : (ws : List ℕ) (at : ℕ) → struct_at ws at ≡ false → (kind_of (word_at ws at) ≡ 22 → ⊥) → kind_of (word_at ws at) ≡ 23
array_kind ws at h n =
    by_test (eqb (kind_of (word_at ws at)) 23) (λ t. eqb-true (kind_of (word_at ws at)) 23 t)
    (λ f. absurd (let z : true ≡ false = rw (ne_eqb (kind_of (word_at ws at)) 22 n, f) at h in let y : ◌≡◌ {A = ℕ} 0 1 = cc in omega arith))

module _ (ws : List ℕ) (at start w x : ℕ) (b : Binding) (o : struct_at ws at ≡ false) (q : start ≡ at) (e : w ≡ word_at ws start) (k : x ≡ kind_of w) (l : List ℕ) (to : ℕ) where
  same_kind : kind_of (word_at ws at) ≡ x
  same_kind = rw (← q, ← e, ← k)

  lone_numeric : x ≡ 22 → type_gives nothing (type_at (drop at ws)) b ≡ numeric_gives (type_of w) b
  lone_numeric z = rw (type_22 ws at (same_kind ∙ z), ← q, ← e) (shaped_gives (type_of w).dim (type_of w).scalar b)

  pub numeric_room : x ≡ 22 → to + length (words_of (type_gives nothing (type_at (drop at ws)) b)) ≤ length l → to + length (words_of (numeric_gives (type_of w) b)) ≤ length l
  numeric_room z q = rw (lone_numeric z) at q

  pub numeric_put : (later : List ℕ) (r : ℕ) → x ≡ 22 → (r, later) ≡ put l to (words_of (numeric_gives (type_of w) b)) → (r, later) ≡ put l to (words_of (type_gives nothing (type_at (drop at ws)) b))
  numeric_put later r z q = rw (lone_numeric z) q

  module _ (z : x ≡ 22 → ⊥) (v m : ℕ) (f : v ≡ word_at ws (start + 1)) (g : m ≡ content_of v) where
    lone_array : type_gives nothing (type_at (drop at ws)) b ≡ array_gives m b
    lone_array = rw (type_23 ws at (array_kind ws at o (λ y. z (sym same_kind ∙ y))), ← q, ← f, ← g)

    pub array_room : to + length (words_of (type_gives nothing (type_at (drop at ws)) b)) ≤ length l → to + length (words_of (array_gives m b)) ≤ length l
    array_room q = rw lone_array at q

    pub array_put : (later : List ℕ) (r : ℕ) → (r, later) ≡ put l to (words_of (array_gives m b)) → (r, later) ≡ put l to (words_of (type_gives nothing (type_at (drop at ws)) b))
    array_put later r q = rw lone_array q
