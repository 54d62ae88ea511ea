-- The varyings that stand from a position on, one after the other.
use Prim.Native.Nat.{ℕ, zero, suc, ◌+◌, ◌-◌, ◌<◌}
use native.Mathlib.Numerals.{sub-one}
use native.Mathlib.Omega.{arith}
use mathlib.Core.Path.{◌≡◌, refl}
use mathlib.Core.List.{List, [], ◌∷◌}
use lib.ListN.{length, drop}
use lib.Seq.{drop-drop}
use Rattle.word.specs.Words.{word_at}
use Rattle.places.proofs.Words.{there}
use Rattle.word.proofs.Parse.{first_of}
use Rattle.interface.specs.Inner.Reads.{varying, varying_width, varyings}
use Rattle.interface.specs.Inner.Parts.{varyings_end}
use Rattle.interface.proofs.ReadsParts.{varyings_past, varying_there, varyings_left as ends_left}

pub varyings_left : (ws : List ℕ) (k at : ℕ) → (k ≡ 0 → ⊥)
    → varyings k (drop at ws) ≡ varying (drop at ws) ∷ varyings (k - 1) (drop (at + varying_width (drop at ws)) ws)
unfolding varyings
varyings_left ws zero at h = absurd (h refl)
varyings_left ws (suc k) at h = rw (sub-one, drop-drop (varying_width (drop at ws)) at ws)

pub varyings_none : (ws : List ℕ) (k : ℕ) → k ≡ 0 → varyings k ws ≡ []
unfolding varyings
varyings_none ws k h = rw h

-- as many varyings stand from a position on before the end of a pack
pub record Ahead (ws : List ℕ) (n at : ℕ) : Type 0 where
  pub begins : at < length ws
  pub ends : varyings_end ws n at < length ws

module _ (ws : List ℕ) (n at : ℕ) where
  pub ahead : varyings_end ws n at < length ws → Ahead ws n at
  ahead i = record { begins = omega (arith, varyings_past ws n at); ends = i }

module _ (ws : List ℕ) (n at : ℕ) (i : Ahead ws n at) (h : n ≡ 0 → ⊥) where
  pub second_there : at + 1 < length ws
  second_there = varying_there ws n at i.ends h

  pub ahead_onward : (on : ℕ) → on ≡ at + varying_width (drop at ws) → Ahead ws (n - 1) on
  ahead_onward on x = rw x (ahead ws (n - 1) (at + varying_width (drop at ws)) (ends_left ws n at i.ends h (varying_width (drop at ws)) refl))

pub varying_words_lem : (ws : List ℕ) (at x y : ℕ) → x ≡ word_at ws at → y ≡ word_at ws (at + 1) → varying (x ∷ y ∷ []) ≡ varying (drop at ws)
varying_words_lem ws at x y e f = rw (first_of ws at, there ws at 1, ← e, ← f)

-- a walk over n varyings, of which i are behind and the next begins at a position
module _ (ws : List ℕ) (n i at : ℕ) (e : varyings_end ws (n - i) at < length ws) where
  pub here : at < length ws
  here = omega (arith, varyings_past ws (n - i) at)

  module _ (h : i < n) where
    some_left : n - i ≡ 0 → ⊥
    some_left z = omega arith

    pub beside : at + 1 < length ws
    beside = varying_there ws (n - i) at e some_left

    pub end_onward : (next : ℕ) → next ≡ at + varying_width (drop at ws) → varyings_end ws (n - (i + 1)) next < length ws
    end_onward next x = let one : n - i - 1 ≡ n - (i + 1) = omega arith in rw (x, ← one) (ends_left ws (n - i) at e some_left (varying_width (drop at ws)) refl)

pub varyings_more : (ws : List ℕ) (n i at : ℕ) → i < n
    → varyings (n - i) (drop at ws) ≡ varying (drop at ws) ∷ varyings (n - (i + 1)) (drop (at + varying_width (drop at ws)) ws)
varyings_more ws n i at h =
    let some : n - i ≡ 0 → ⊥ = λ z. omega arith in
    let one : n - i - 1 ≡ n - (i + 1) = omega arith in
    rw (varyings_left ws (n - i) at some, one)
