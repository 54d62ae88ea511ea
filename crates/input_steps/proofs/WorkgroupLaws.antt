-- Products of workgroup dimensions, exact.
use Prim.Native.Nat.{ℕ, ◌+◌, ◌*◌, ◌^◌, ◌<◌, ◌≤◌}
use native.Mathlib.Nat.{le_of_lt, lt_of_le_of_lt, lt_of_lt_of_le, mul-le-mul_left, mul-lt-mul_of_pos_right, le-mul_of_pos_right, mul-zero}
use native.Mathlib.Omega.{arith}
use mathlib.Core.Path.{◌≡◌, sym, subst⁻¹}
use mathlib.Core.Bool.{true, false, Bool, ◌||◌}
use lib.Dec.{ltb, eqb}
use lib.Pow.{pow_pos, pow-add}
use mir.Syntax.{w64}
use mir.Val.{Fits}
use borrow.Author.Tests.{lt-ltb, le-ltb}
use Rattle.word.specs.Answers.{answer}
use Rattle.word.specs.declared.answer.Answer.{Answer}
use Rattle.input_steps.specs.Workgroup.{workgroup_use}
use Rattle.interface.specs.declared.types.WorkgroupSize.{WorkgroupSize}

below : (k : ℕ) {a b : ℕ} → a < 2 ^ k → b < 2 ^ k → a * b < 2 ^ (k + k)
below k {a} {b} ha hb =
    subst⁻¹ (λ (n : ℕ). a * b < n) (pow-add 2 k k)
    (lt_of_le_of_lt (mul-le-mul_left a (le_of_lt hb)) (mul-lt-mul_of_pos_right ha (pow_pos k)))

-- two factors of 32 bits have a product of 64, and a third one too where the first two stay within 32
pub two_fit : (x y : ℕ) → x < 2 ^ 32 → y < 2 ^ 32 → Fits w64 (x * y)
two_fit x y h k = record { fits = below 32 h k }

pub three_fit : (x y z total : ℕ) → x * y ≤ total → total < 2 ^ 32 → z < 2 ^ 32 → Fits w64 (x * y * z)
three_fit x y z total h t k = two_fit (x * y) z (omega arith) k

module _ (x y z total : ℕ) where
  pub over_none : z ≡ 0 → false ≡ ltb total (x * y * z)
  over_none e = sym (rw (e, mul-zero (x * y)) (le-ltb total 0 (omega arith)))

  pub over_two : (z ≡ 0 → ⊥) → total < x * y → true ≡ ltb total (x * y * z)
  over_two n h = sym (lt-ltb total (x * y * z) (lt_of_lt_of_le h (le-mul_of_pos_right (x * y) (omega arith))))

-- dimensions of which one, or whose product, is too large
pub use_large : (size : WorkgroupSize) (x y z total : ℕ) (a : Answer) (large : Bool)
    → large ≡ (ltb x size.x || (ltb y size.y || (ltb z size.z || ltb total (size.x * size.y * size.z))))
    → large ≡ true → a ≡ answer 40 size.x size.y size.z → a ≡ workgroup_use size x y z total
unfolding workgroup_use
use_large size x y z total a large e t h = rw (← e, t) h
