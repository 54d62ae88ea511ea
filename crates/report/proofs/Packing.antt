-- Laws of bytes as words.
use Prim.Native.Nat.{ℕ, zero, suc, ◌/◌, ◌≤◌}
use native.Mathlib.Omega.{arith}
use mathlib.Core.Path.{◌≡◌, refl}
use mathlib.Core.List.{List, [], ◌∷◌, map}
use lib.ListN.{length, take}
use lib.Seq.{take_all}
use Rattle.std.specs.Int.{w32, from_le_bytes}
use Rattle.std.specs.Simd.{first_chunks}
use Rattle.report.specs.Text.{words_of, word_of}

word_is : (a b c d : ℕ) → from_le_bytes w32 (a ∷ b ∷ c ∷ d ∷ []) ≡ word_of a b c d
word_is a b c d = omega arith

by_fours : (n : ℕ) (bs : List ℕ) → n ≡ length bs / 4 → map (from_le_bytes w32) (first_chunks 4 n bs) ≡ words_of bs
unfolding words_of
by_fours zero [] h = refl
by_fours (suc n) [] h = absurd (omega arith)
by_fours zero (a ∷ []) h = refl
by_fours (suc n) (a ∷ []) h = absurd (omega arith)
by_fours zero (a ∷ b ∷ []) h = refl
by_fours (suc n) (a ∷ b ∷ []) h = absurd (omega arith)
by_fours zero (a ∷ b ∷ c ∷ []) h = refl
by_fours (suc n) (a ∷ b ∷ c ∷ []) h = absurd (omega arith)
by_fours zero (a ∷ b ∷ c ∷ d ∷ bs) h = absurd (omega arith)
by_fours (suc n) (a ∷ b ∷ c ∷ d ∷ bs) h = rw (word_is a b c d, by_fours n bs (omega arith))

-- the words of bytes are those of their chunks of four
words_by_fours : (bs : List ℕ) → map (from_le_bytes w32) (first_chunks 4 (length bs / 4) bs) ≡ words_of bs
words_by_fours bs = by_fours (length bs / 4) bs refl

pub words_ended : (bs ws : List ℕ) (fours : List (List ℕ)) (i : ℕ) → fours ≡ first_chunks 4 (length bs / 4) bs → length fours ≤ i → ws ≡ map (from_le_bytes w32) (take i fours) → ws ≡ words_of bs
words_ended bs ws fours i e h f = rw (take_all i fours h, e, words_by_fours bs) at f
