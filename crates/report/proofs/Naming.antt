-- Laws of a name's bytes.
use Prim.Native.Nat.{ℕ, ◌+◌, ◌*◌, ◌<◌}
use native.Mathlib.Omega.{arith}
use mathlib.Core.Path.{◌≡◌, refl}
use mathlib.Core.List.{List, [], ◌∷◌, ◌++◌}
use lib.ListN.{length, take, get_or, length-append}
use Rattle.std.specs.Int.{w32, to_le_bytes}
use Rattle.std.proofs.lemmas.List.{take_more}
use Rattle.interface.specs.Format.{bytes_of}

bytes_append : (xs ys : List ℕ) → bytes_of (xs ++ ys) ≡ bytes_of xs ++ bytes_of ys
unfolding bytes_of
bytes_append [] ys = refl
bytes_append (x ∷ xs) ys = rw (bytes_append xs ys)

pub bytes_begun : (ws : List ℕ) → bytes_of (take 0 ws) ≡ []
unfolding bytes_of
bytes_begun ws = refl

-- the bytes of one more word
pub bytes_more : (t u xs ws : List ℕ) (i : ℕ) → i < length ws → length t ≡ 4 * i → t ≡ bytes_of (take i ws) → xs ≡ to_le_bytes w32 (get_or ws i 0) → u ≡ t ++ xs
    → (length u ≡ 4 * (i + 1)) × (u ≡ bytes_of (take (i + 1) ws))
bytes_more t u xs ws i h l e f g = (
  rw (g, f) (omega (arith, length-append t (to_le_bytes w32 (get_or ws i 0)))),
  rw (g, f, e, take_more ws i 0 h, bytes_append (take i ws) (get_or ws i 0 ∷ [])) (unfold bytes_of in refl),
)
