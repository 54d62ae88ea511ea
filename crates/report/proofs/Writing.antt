-- Laws of numbers as text.
use Prim.Native.Nat.{ℕ, ◌+◌, ◌/◌, ◌%◌, ◌^◌, ◌<◌}
use native.Mathlib.Omega.{arith}
use mathlib.Core.Path.{◌≡◌, refl, sym}
use mathlib.Core.List.{List, [], ◌∷◌, ◌++◌, append_assoc, append-nil}
use borrow.Author.Tests.{lt-ltb, le-ltb}
use borrow.Author.Count.{below_none, below_more}
use lib.ListN.{length, take, get_or}
use Rattle.std.proofs.lemmas.List.{take_more}
use Rattle.std.proofs.lemmas.Fmt.{AppendsLastDigit, decimal_from_appends, length-decimal-le}
use Rattle.std.specs.Fmt as Fmt
use Rattle.std.specs.Int.{w32, to_be_bytes}
use Rattle.std.specs.Prelude.{slice_index}
use Rattle.hex.specs.Hex.{lower_digits, encode_with, encode_lower}
use Rattle.word.specs.declared.answer.Answer.{Answer}
use Rattle.report.specs.Text.{digits, decimal, hex_digit, hex_half, hex_line, hex_lines, answer_text, line}

-- two texts, one behind the other
pub both_put : (t u v xs ys : List ℕ) → u ≡ t ++ xs → v ≡ u ++ ys → v ≡ t ++ (xs ++ ys)
both_put t u v xs ys f g = rw (g, f) (append_assoc t xs ys)

-- ---- decimal

by_last_digit : AppendsLastDigit digits
unfolding digits
by_last_digit = record { one = λ k n h. rw (lt-ltb n 10 h); more = λ k n h. rw (le-ltb n 10 h) }

-- a number in decimal is what the library writes of it
pub decimal_is : (n : ℕ) → n < 2 ^ 32 → Fmt.decimal n ≡ decimal n
decimal_is n h = sym (decimal_from_appends digits by_last_digit 10 n (omega arith) (length-decimal-le 10 n (omega arith) (omega arith) (omega arith)))

pub number_put : (t u v xs digits : List ℕ) (n end : ℕ) → n < 2 ^ 32 → xs ≡ digits → digits ≡ Fmt.decimal n → u ≡ t ++ xs → v ≡ u ++ end ∷ [] → v ≡ t ++ (decimal n ++ (end ∷ []))
number_put t u v xs digits n end h d e f g = both_put t u v (decimal n) (end ∷ []) (rw (d, e, decimal_is n h) at f) g

pub answer_put : (t u v w x : List ℕ) (a : Answer) → u ≡ t ++ (decimal a.number ++ (32 ∷ [])) → v ≡ u ++ (decimal a.first ++ (32 ∷ []))
    → w ≡ v ++ (decimal a.second ++ (32 ∷ [])) → x ≡ w ++ (decimal a.third ++ (10 ∷ [])) → x ≡ t ++ answer_text a
unfolding answer_text
answer_put t u v w x a f g h i = simp append_assoc at (both_put t w x _ _ (both_put t v w _ _ (both_put t u v _ _ f g) h) i)

pub line_put : (t u v : List ℕ) (stage : ℕ) (a : Answer) → u ≡ t ++ (decimal stage ++ (32 ∷ [])) → v ≡ u ++ answer_text a → v ≡ t ++ line stage a
unfolding line
line_put t u v stage a f g = simp append_assoc at (both_put t u v _ _ f g)

-- ---- hex

digit_is : (d : ℕ) → d < 16 → slice_index lower_digits d ≡ hex_digit d
digit_is = below_more P 15 (below_more P 14 (below_more P 13 (below_more P 12 (below_more P 11 (below_more P 10 (below_more P 9 (below_more P 8
    (below_more P 7 (below_more P 6 (below_more P 5 (below_more P 4 (below_more P 3 (below_more P 2 (below_more P 1 (below_more P 0 (below_none P)
    refl) refl) refl) refl) refl) refl) refl) refl) refl) refl) refl) refl) refl) refl) refl) refl
  where
    P : ℕ → Type 0
    P d = slice_index lower_digits d ≡ hex_digit d

-- the digits of a word's bytes, high byte first, are those of its two halves
pub hex_is : (w : ℕ) → encode_lower (to_be_bytes w32 w) ++ 10 ∷ [] ≡ hex_line w
unfolding encode_with hex_line hex_half
hex_is w =
    let e : w / 16777216 % 256 / 16 ≡ w / 65536 / 4096 % 16 = omega arith in
    let f : w / 16777216 % 256 % 16 ≡ w / 65536 / 256 % 16 = omega arith in
    let g : w / 65536 % 256 / 16 ≡ w / 65536 / 16 % 16 = omega arith in
    let h : w / 65536 % 256 % 16 ≡ w / 65536 % 16 = omega arith in
    let i : w / 256 % 256 / 16 ≡ w % 65536 / 4096 % 16 = omega arith in
    let j : w / 256 % 256 % 16 ≡ w % 65536 / 256 % 16 = omega arith in
    let k : w % 256 / 16 ≡ w % 65536 / 16 % 16 = omega arith in
    let l : w % 256 % 16 ≡ w % 65536 % 16 = omega arith in
    rw (
      e,
      f,
      g,
      h,
      i,
      j,
      k,
      l,
      digit_is (w / 65536 / 4096 % 16) (omega arith),
      digit_is (w / 65536 / 256 % 16) (omega arith),
      digit_is (w / 65536 / 16 % 16) (omega arith),
      digit_is (w / 65536 % 16) (omega arith),
      digit_is (w % 65536 / 4096 % 16) (omega arith),
      digit_is (w % 65536 / 256 % 16) (omega arith),
      digit_is (w % 65536 / 16 % 16) (omega arith),
      digit_is (w % 65536 % 16) (omega arith),
    )

pub hex_put : (t u v xs : List ℕ) (w : ℕ) → xs ≡ encode_lower (to_be_bytes w32 w) → u ≡ t ++ xs → v ≡ u ++ 10 ∷ [] → v ≡ t ++ hex_line w
hex_put t u v xs w e f g = rw (← hex_is w, ← e) (both_put t u v _ _ f g)

hex_append : (xs ys : List ℕ) → hex_lines (xs ++ ys) ≡ hex_lines xs ++ hex_lines ys
unfolding hex_lines
hex_append [] ys = refl
hex_append (x ∷ xs) ys = rw (hex_append xs ys) (sym (append_assoc (hex_line x) (hex_lines xs) (hex_lines ys)))

pub hex_begun : (t ws : List ℕ) → t ≡ t ++ hex_lines (take 0 ws)
unfolding hex_lines
hex_begun t ws = sym (append-nil t)

-- one more word's line
pub hex_more : (t u v : List ℕ) (ws : List ℕ) (i : ℕ) → i < length ws → u ≡ t ++ hex_lines (take i ws) → v ≡ u ++ hex_line (get_or ws i 0) → v ≡ t ++ hex_lines (take (i + 1) ws)
hex_more t u v ws i h f g = rw (take_more ws i 0 h, hex_append (take i ws) (get_or ws i 0 ∷ [])) (unfold hex_lines in both_put t u v _ _ f (rw append-nil g))
