-- Laws of varyings.
use Prim.{tt}
use Rattle.std.proofs.Common.{◌≡◌, ℕ, zero, suc, ◌+◌, ◌-◌, ◌/◌, ◌%◌, ◌^◌, ◌<◌, ◌≤◌, Bool, true, false, not, eqb, ltb, List, [], ◌∷◌, length, get_or, drop, sym, refl, ◌∙◌, sub-one, arith, length-drop, ltb-true, ne_eqb}
use native.Mathlib.Nat.{sub-zero}
use borrow.Author.Tests.{not-true, not-false, le-ltb}
use Rattle.word.specs.Choice.{pick}
use Rattle.word.specs.Words.{word_at, kind_of, bits}
use Rattle.word.specs.Parse.{fault, got, next, one, Rest, nowhere, from}
use Rattle.word.proofs.Parse.{first_of, others_of, one_fault, one_got, one_in, Yields, yields_next, yields_pick}
use Rattle.word.proofs.Truth.{first, second}
use Rattle.varying.specs.Format.{location_well_formed, var_well_formed}
use Rattle.interface.specs.Format.{built_in_well_formed, built_in_of, read_varying, local, is_clip}
use Rattle.entry_check.specs.Inner.Walks.{thence, varyings_behind}
use Rattle.interface.specs.declared.types.BuiltIn.TheVariants as In
use Rattle.interface.specs.declared.types.Varying.{Varying}
use Rattle.interface.specs.declared.types.Varying.TheVariants as Var
use Rattle.entry_check.proofs.CheckCases.{by_test, split_at}
use mathlib.Core.Bool.{and-false}

-- ---- one varying

var_zero : var_well_formed 0 ≡ false
unfolding var_well_formed
var_zero = refl

-- by the first word: a location, a built-in, neither
module _ (codes : ℕ) where
  is_local_lem : (l : List ℕ) → location_well_formed (get_or l 0 0) ≡ true → read_varying codes l ≡ next (one var_well_formed (drop 1 l)) λ var rest. got (local (get_or l 0 0) var) rest
  unfolding read_varying
  is_local_lem [] e = let x : false ≡ true = e in cc
  is_local_lem (w ∷ l) e = rw e

  is_built_in : (l : List ℕ) → location_well_formed (get_or l 0 0) ≡ false → built_in_well_formed codes (get_or l 0 0) ≡ true
      → read_varying codes l ≡ got (Var.BuiltIn (built_in_of (get_or l 0 0))) (drop 1 l)
  unfolding read_varying
  is_built_in [] e f = let x : false ≡ true = f in cc
  is_built_in (w ∷ l) e f = rw (e, f)

  is_neither : (l : List ℕ) → location_well_formed (get_or l 0 0) ≡ false → built_in_well_formed codes (get_or l 0 0) ≡ false → read_varying codes l ≡ fault
  unfolding read_varying
  is_neither [] e f = refl
  is_neither (w ∷ l) e f = rw (e, f)

  encodable : (l : List ℕ) → built_in_well_formed codes (get_or l 0 0) ≡ true → 1 ≤ length l
  encodable [] f = let x : false ≡ true = f in let y : ◌≡◌ {A = ℕ} 0 1 = cc in omega arith
  encodable (w ∷ l) f = omega arith

-- ---- clip distances

-- by the built-in's code
pub other_code : (c p : ℕ) → c < 4
    → is_clip (Var.BuiltIn (pick (eqb c 0) (In.Other p) (pick (eqb c 1) (In.PrimitiveIndex p) (pick (eqb c 2) (In.DrawIndex p) (pick (eqb c 3) (In.FragDepth p) (In.ClipDistances p)))))) ≡ 0
other_code zero p h = refl
other_code (suc zero) p h = refl
other_code (suc (suc zero)) p h = refl
other_code (suc (suc (suc zero))) p h = refl
other_code (suc (suc (suc (suc c)))) p h = absurd (omega arith)

pub code_clip : (w : ℕ) → 4 ≤ bits 26 24 w → is_clip (Var.BuiltIn (built_in_of w)) ≡ 1
code_clip w h =
    rw (
      ne_eqb (bits 26 24 w) 0 (λ e. omega arith),
      ne_eqb (bits 26 24 w) 1 (λ e. omega arith),
      ne_eqb (bits 26 24 w) 2 (λ e. omega arith),
      ne_eqb (bits 26 24 w) 3 (λ e. omega arith),
    )

-- told by bit 26
clip_bit : (w : ℕ) → bits 26 24 w < 5 → is_clip (Var.BuiltIn (built_in_of w)) ≡ w / 2 ^ 26 % 2
clip_bit w h =
    split_at 4 (bits 26 24 w) (is_clip (Var.BuiltIn (built_in_of w)) ≡ w / 2 ^ 26 % 2)
    (λ k. let x : w / 2 ^ 26 % 2 ≡ 1 = omega arith in code_clip w k ∙ sym x)
    (λ k. let x : w / 2 ^ 26 % 2 ≡ 0 = omega arith in other_code (bits 26 24 w) (bits 7 0 w) k ∙ sym x)

code_below : (codes w : ℕ) → built_in_well_formed codes w ≡ true → bits 26 24 w < codes
code_below codes w f = ltb-true (bits 26 24 w) codes (first (ltb (bits 26 24 w) codes) (eqb (bits 23 8 w) 0) (second (eqb (kind_of w) 14) _ f))

-- clip distances want the code 4 below the number
abbrev pub Below : ℕ → Varying → Type 0
Below codes v = 4 + is_clip v ≤ codes

below_built_in : (codes w : ℕ) → 4 ≤ codes → built_in_well_formed codes w ≡ true → Below codes (Var.BuiltIn (built_in_of w))
below_built_in codes w h f =
    let c : bits 26 24 w < codes = code_below codes w f in
    split_at 4 (bits 26 24 w) (Below codes (Var.BuiltIn (built_in_of w)))
    (λ k. omega (arith, code_clip w k))
    (λ k. omega (arith, other_code (bits 26 24 w) (bits 7 0 w) k))

pub below : (codes : ℕ) (l : List ℕ) → 4 ≤ codes → Yields (Below codes) (read_varying codes l)
unfolding read_varying
below codes [] h = tt
below codes (w ∷ l) h =
    yields_pick (Below codes) (location_well_formed w) _ _
    (yields_next (Below codes) (one var_well_formed l) (λ var rest. got (local w var) rest) (λ var rest. h))
    (by_test (built_in_well_formed codes w) (λ t. Yields (Below codes) (pick t (got (Var.BuiltIn (built_in_of w)) l) fault)) (λ f. below_built_in codes w h f) (λ f. tt))

-- a word that the test of a built-in passed
module _ (codes w : ℕ) (d : Bool) (y : not d ≡ false) (g : d ≡ built_in_well_formed codes w) where
  code_at : bits 26 24 w < codes
  code_at = code_below codes w (sym g ∙ not-false d y)

  pub codes_stay : 4 ≤ codes → codes ≤ 5 → 4 ≤ codes - w / 67108864 % 2
  codes_stay low high = omega (arith, code_at)

  module _ (ws : List ℕ) (at : ℕ) (e : w ≡ word_at ws at) where
    well_formed_at : built_in_well_formed codes (get_or (drop at ws) 0 0) ≡ true
    well_formed_at = rw (first_of ws at, ← e, ← g) (not-false d y)

    pub built_in_in : at + 1 ≤ length ws
    built_in_in = omega (arith, encodable codes (drop at ws) well_formed_at, length-drop at ws)

-- ---- the walk over varyings: a location with and without its variable, a built-in, neither, the end

varyings_left : (k codes : ℕ) (l : List ℕ) → (k ≡ 0 → ⊥) → varyings_behind k codes l ≡ thence (read_varying codes l) λ v rest. varyings_behind (k - 1) (codes - is_clip v) rest
unfolding varyings_behind
varyings_left zero codes l h = absurd (h refl)
varyings_left (suc k) codes l h = rw sub-one

module _ (ws : List ℕ) (at w : ℕ) (b d : Bool) (e : w ≡ word_at ws at) (f : b ≡ location_well_formed w) where
  module _ (t : b ≡ true) (v : ℕ) (i : v ≡ word_at ws (at + 1)) (g : d ≡ var_well_formed v) where
    pub local_in : not d ≡ false → at + 2 ≤ length ws
    local_in y = omega (arith, one_in var_well_formed ws (at + 1) v d i g (not-false d y) var_zero)

    pub local_good : not d ≡ false → var_well_formed v ≡ true
    local_good y = sym g ∙ not-false d y

    module _ (k codes : ℕ) (goal : Rest) (inv : goal ≡ varyings_behind k codes (drop at ws)) (h : k ≡ 0 → ⊥) where
      local_at : read_varying codes (drop at ws) ≡ next (one var_well_formed (drop (at + 1) ws)) λ var rest. got (local w var) rest
      local_at = is_local_lem codes (drop at ws) (rw (first_of ws at, ← e, ← f) t) ∙ rw (first_of ws at, ← e, others_of ws at)

      pub local_stop : not d ≡ true → nowhere ≡ goal
      local_stop y =
          sym (inv ∙ rw (varyings_left k codes (drop at ws) h, local_at, one_fault var_well_formed ws (at + 1) v d i g (not-true d y)))

      pub local_go : (left : ℕ) → left ≡ k - 1 → not d ≡ false → goal ≡ varyings_behind left codes (drop (at + 2) ws)
      local_go left l y =
          let x : at + 1 + 1 ≡ at + 2 = omega arith in
          inv ∙ rw (varyings_left k codes (drop at ws) h, local_at, one_got var_well_formed ws (at + 1) v d i g (not-false d y) var_zero, x, sub-zero, l)

  module _ (t : b ≡ false) (codes k : ℕ) (goal : Rest) (inv : goal ≡ varyings_behind k codes (drop at ws)) (h : k ≡ 0 → ⊥) where
    pub built_in_stop : not d ≡ true → d ≡ built_in_well_formed codes w → nowhere ≡ goal
    built_in_stop y g =
        sym (inv ∙ rw (varyings_left k codes (drop at ws) h, is_neither codes (drop at ws) (rw (first_of ws at, ← e, ← f) t) (rw (first_of ws at, ← e, ← g) (not-true d y))))

    pub built_in_go : (left : ℕ) → left ≡ k - 1 → not d ≡ false → d ≡ built_in_well_formed codes w → codes ≤ 5
        → goal ≡ varyings_behind left (codes - w / 67108864 % 2) (drop (at + 1) ws)
    built_in_go left l y g high =
        inv ∙ rw (
          varyings_left k codes (drop at ws) h,
          is_built_in codes (drop at ws) (rw (first_of ws at, ← e, ← f) t) (well_formed_at codes w d y g ws at e),
          first_of ws at,
          ← e,
          clip_bit w (omega (arith, code_at codes w d y g)),
          others_of ws at,
          l,
        )

pub varyings_ended : (ws : List ℕ) (k codes at : ℕ) (goal : Rest) → goal ≡ varyings_behind k codes (drop at ws) → k ≡ 0 → from (drop at ws) ≡ goal
unfolding varyings_behind
varyings_ended ws k codes at goal inv z = sym (inv ∙ rw z)

-- ---- a built-in of a kind past the last

pub built_in_code_lem : (codes w : ℕ) → codes ≤ bits 26 24 w → false ≡ built_in_well_formed codes w
built_in_code_lem codes w h = sym (rw (le-ltb (bits 26 24 w) codes h) (and-false (eqb (kind_of w) 14)))
