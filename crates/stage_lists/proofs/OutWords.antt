-- The words that a stage list is written in.
use Rattle.std.proofs.Common.{Option, Some, None}
use Prim.Native.Nat.{ℕ, ◌+◌, ◌-◌, ◌*◌, ◌/◌, ◌%◌, ◌^◌, ◌<◌, ◌≤◌}
use native.Mathlib.Omega.{arith}
use mathlib.Core.Path.{◌≡◌, refl, ◌∙◌}
use mathlib.Core.Bool.{true}
use lib.Dec.{eqb, ltb}
use borrow.Author.Tests.{eqb-true, ltb-true, lt-ltb, le-ltb}
use Rattle.word.specs.Choice.{pick}
use Rattle.word.specs.Words.{bits, bit}
use Rattle.numeric.specs.TypeWords.{shape_at, type_of, shape_code, type_word}
use Rattle.varying.specs.Format.{var_of, var_word, payload_encodable, payload_word}
use Rattle.word.proofs.Truth.{below_all}
use Rattle.numeric.proofs.Joined.{kind_back}
use Rattle.varying.proofs.Joined.{flag_back}

-- ---- the payload

pub payload_none : (p : Option ℕ) → p ≡ None → 0x48000000 ≡ payload_word p
unfolding payload_word
payload_none p e = rw e

module _ (p : Option ℕ) (bytes : ℕ) (e : p ≡ Some bytes) where
  pub payload_some : 0x4C000000 + bytes ≡ payload_word p
  unfolding payload_word
  payload_some = rw e (omega arith)

  pub payload_sum : payload_encodable p ≡ true → 0x4C000000 + bytes < 2 ^ 32
  payload_sum h = let b : bytes < 2 ^ 26 = ltb-true bytes (2 ^ 26) (rw e at h) in omega arith

-- ---- a variable

-- of sixteen codes of a shape the last three mean what others mean
shape_code_lem : (code : ℕ) → code < 16 → shape_code (shape_at code) ≡ pick (ltb code 13) code (code - 3)
shape_code_lem code h =
    eqb-true (shape_code (shape_at code)) (pick (ltb code 13) code (code - 3))
    (below_all 16 (λ c. eqb (shape_code (shape_at c)) (pick (ltb c 13) c (c - 3))) refl code h)

summed : (s a b c d e : ℕ) → 0x68000000 + (c + 8 * d + 64 * e) * 0x1000 + (a + 4 * b) * 16 + s
    ≡ 2 ^ 27 * 13 + (s + 16 * a + 64 * b) + (2 ^ 12 * c + (2 ^ 15 * d + 2 ^ 18 * e))
summed s a b c d e = omega arith

module _ (w : ℕ) where
  var_by : (s : ℕ) → shape_code (shape_at (bits 3 0 w)) ≡ s → 0x68000000 + w / 0x1000 % 0x80 * 0x1000 + w / 16 % 64 * 16 + s ≡ var_word (var_of w)
  unfolding var_word var_of type_word type_of
  var_by s e =
      let h : w / 0x1000 % 0x80 ≡ bits 14 12 w + 8 * bits 17 15 w + 64 * bit 18 w = omega arith in
      let l : w / 16 % 64 ≡ bits 5 4 w + 4 * bits 9 6 w = omega arith in
      rw (e, kind_back (bits 5 4 w) (omega arith), flag_back (bit 18 w) (omega arith), h, l)
      (summed s (bits 5 4 w) (bits 9 6 w) (bits 14 12 w) (bits 17 15 w) (bit 18 w))

  pub var_first : w % 16 < 13 → 0x68000000 + w / 0x1000 % 0x80 * 0x1000 + w / 16 % 64 * 16 + w % 16 ≡ var_word (var_of w)
  var_first h = var_by (w % 16) (shape_code_lem (bits 3 0 w) (omega arith) ∙ rw (lt-ltb (w % 16) 13 h))

  pub var_other : 13 ≤ w % 16 → 0x68000000 + w / 0x1000 % 0x80 * 0x1000 + w / 16 % 64 * 16 + (w % 16 - 3) ≡ var_word (var_of w)
  var_other h = var_by (w % 16 - 3) (shape_code_lem (bits 3 0 w) (omega arith) ∙ rw (le-ltb (w % 16) 13 h))
