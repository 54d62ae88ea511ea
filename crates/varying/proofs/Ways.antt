-- The code's ways through the readers: a word's kind is asked for by a call.
use Prim.Native.Nat.{ℕ}
use mathlib.Core.Path.{◌≡◌, refl}
use mathlib.Core.Bool.{Bool, true, ◌&&◌, ◌||◌}
use lib.Dec.{eqb}
use Rattle.word.specs.Words.{kind_of, bits, bit}
use Rattle.numeric.specs.TypeWords.{type_well_formed}
use Rattle.varying.specs.Format.{var_well_formed, payload_well_formed}

module _ (w x : ℕ) (r : Bool) (e : x ≡ kind_of w) where
  pub payload_kind : r ≡ (eqb x 9 && (eqb (bit 26 w) 1 || eqb (bits 25 0 w) 0)) → r ≡ payload_well_formed w
  unfolding payload_well_formed
  payload_kind h = rw (← e) h

-- ---- a word that is known to be a variable

-- the commonest: a vector of four 32-bit floats
pub var_vector : var_well_formed 0x6800_0123 ≡ true
unfolding var_well_formed type_well_formed
var_vector = refl
