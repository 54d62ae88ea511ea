-- A name that was written is read.
use Prim.Native.Nat.{ℕ, ◌+◌, ◌*◌, ◌^◌, ◌<◌}
use native.Mathlib.Omega.{arith}
use mathlib.Core.Path.{◌≡◌, refl}
use mathlib.Core.Bool.{Bool, true, ◌&&◌}
use mathlib.Core.List.{List, [], ◌∷◌, ◌++◌}
use borrow.Author.Tests.{ltb-true}
use lib.Dec.{leb, ltb}
use lib.ListN.{length, take, drop}
use Rattle.word.specs.Words.{bits}
use Rattle.word.specs.Parse.{got}
use Rattle.word.specs.Lists.{every}
use Rattle.word.proofs.Truth.{first, second}
use Rattle.word.proofs.Lists.{every_first, every_others, every_any}
use Rattle.interface.specs.Format.{bytes_of, no_zero, all_zero, name_words, read_name, pack_name}
use Rattle.interface.specs.Encodable.{name_encodable}
use Rattle.interface.proofs.EncodeRecords.{words_got, next_got}

abbrev byte : ℕ → Bool
byte b = ltb b 256

-- four bytes a word
pub bytes_long : (ws : List ℕ) → length (bytes_of ws) ≡ 4 * length ws
unfolding bytes_of
bytes_long [] = refl
bytes_long (w ∷ ws) = omega (arith, bytes_long ws)

packed_length : (name : List ℕ) → length (pack_name name) ≡ name_words (length name)
unfolding pack_name
packed_length [] = refl
packed_length (a ∷ []) = refl
packed_length (a ∷ b ∷ []) = refl
packed_length (a ∷ b ∷ c ∷ []) = refl
packed_length (a ∷ b ∷ c ∷ d ∷ name) = omega (arith, packed_length name)

-- the four bytes of a word
pub record Bytes (w a b c d : ℕ) : Type 0 where
  pub first_byte : bits 7 0 w ≡ a
  pub second_byte : bits 15 8 w ≡ b
  pub third_byte : bits 23 16 w ≡ c
  pub fourth_byte : bits 31 24 w ≡ d

small : (b : ℕ) (others : List ℕ) → every byte (b ∷ others) ≡ true → b < 256
small b others h = ltb-true b 256 (every_first byte b others h)

-- a name's words give its bytes back, with nothing but zeros behind them
pub record Packed (name bytes : List ℕ) : Type 0 where
  pub kept : take (length name) bytes ≡ name
  pub padded : all_zero (drop (length name) bytes) ≡ true

packed : (name : List ℕ) → every byte name ≡ true → Packed name (bytes_of (pack_name name))
unfolding pack_name bytes_of all_zero
packed [] h = record { kept = refl; padded = refl }
packed (a ∷ []) h =
    let p : a < 256 = small a [] h in
    let w : Bytes a a 0 0 0 = omega arith in
    record { kept = rw w.first_byte; padded = rw (w.second_byte, w.third_byte, w.fourth_byte) }
packed (a ∷ b ∷ []) h =
    let p : a < 256 = small a (b ∷ []) h in
    let q : b < 256 = small b [] (every_others byte a (b ∷ []) h) in
    let w : Bytes (a + 2 ^ 8 * b) a b 0 0 = omega arith in
    record { kept = rw (w.first_byte, w.second_byte); padded = rw (w.third_byte, w.fourth_byte) }
packed (a ∷ b ∷ c ∷ []) h =
    let k : every byte (b ∷ c ∷ []) ≡ true = every_others byte a (b ∷ c ∷ []) h in
    let p : a < 256 = small a (b ∷ c ∷ []) h in
    let q : b < 256 = small b (c ∷ []) k in
    let r : c < 256 = small c [] (every_others byte b (c ∷ []) k) in
    let w : Bytes (a + 2 ^ 8 * b + 2 ^ 16 * c) a b c 0 = omega arith in
    record { kept = rw (w.first_byte, w.second_byte, w.third_byte); padded = rw w.fourth_byte }
packed (a ∷ b ∷ c ∷ d ∷ name) h =
    let k : every byte (b ∷ c ∷ d ∷ name) ≡ true = every_others byte a (b ∷ c ∷ d ∷ name) h in
    let l : every byte (c ∷ d ∷ name) ≡ true = every_others byte b (c ∷ d ∷ name) k in
    let m : every byte (d ∷ name) ≡ true = every_others byte c (d ∷ name) l in
    let p : a < 256 = small a (b ∷ c ∷ d ∷ name) h in
    let q : b < 256 = small b (c ∷ d ∷ name) k in
    let r : c < 256 = small c (d ∷ name) l in
    let s : d < 256 = small d name m in
    let w : Bytes (a + 2 ^ 8 * b + 2 ^ 16 * c + 2 ^ 24 * d) a b c d = omega arith in
    let n : Packed name (bytes_of (pack_name name)) = packed name (every_others byte d name m) in
    record { kept = rw (w.first_byte, w.second_byte, w.third_byte, w.fourth_byte, n.kept); padded = n.padded }

pub name_got : (name rest : List ℕ) → name_encodable name ≡ true → read_name (length name) (pack_name name ++ rest) ≡ got name rest
unfolding read_name
name_got name rest h =
    let n : ℕ = length name in
    let i : no_zero name && every byte name ≡ true = second (leb n 64) _ (second (leb 1 n) _ h) in
    let p : Packed name (bytes_of (pack_name name)) = packed name (second (no_zero name) (every byte name) i) in
    next_got _ _ (pack_name name) rest _ (rw (packed_length name) at (words_got (λ w. true) (pack_name name) rest (every_any (pack_name name))))
    (rw (p.kept, first (no_zero name) (every byte name) i, p.padded))
