-- The code's ways through the bits of a visibility.
use Prim.Native.Nat.{ℕ, ◌+◌, ◌*◌, ◌/◌, ◌%◌, ◌^◌, ◌<◌, ◌≤◌}
use native.Mathlib.Omega.{arith}
use mathlib.Core.Path.{◌≡◌, sym, ◌∙◌}
use mathlib.Core.Bool.{Bool, true, false}
use lib.Pow.{pow_mono}
use borrow.Author.Tests.{eqb-true, eqb-false, eq-eqb, ne_eqb}
use Rattle.layouts.specs.Meaning.{sees_bit, join_bit}

module _ (stage code : ℕ) (h : code < 5) where
  code_low : code ≤ 4
  code_low = omega arith

  pub bit_small : 1 * 2 ^ code % 2 ^ 32 ≤ 16
  bit_small = omega (arith, pow_mono code_low)

  pub bit_is : code ≡ stage → 1 * 2 ^ code % 2 ^ 32 ≡ 2 ^ stage
  bit_is e = rw (← e) (omega (arith, pow_mono code_low))

module _ (stage v : ℕ) (b : Bool) (e : b ≡ sees_bit stage v) where
  pub join_seen : b ≡ true → v ≡ join_bit stage v
  join_seen h =
      let o : v / 2 ^ stage % 2 ≡ 1 = eqb-true (v / 2 ^ stage % 2) 1 (sym e ∙ h) in
      rw (ne_eqb (v / 2 ^ stage % 2) 0 (λ z. omega arith))

  pub join_new : (w : ℕ) → b ≡ false → w ≡ 2 ^ stage → v + w ≡ join_bit stage v
  join_new w h f =
      let o = eqb-false (v / 2 ^ stage % 2) 1 (sym e ∙ h) in
      let z : v / 2 ^ stage % 2 ≡ 0 = omega arith in
      rw (eq-eqb (v / 2 ^ stage % 2) 0 z, f)
