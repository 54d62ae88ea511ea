-- Laws of names, word by word.
use Rattle.std.proofs.Common.{◌≡◌, ℕ, zero, suc, ◌+◌, ◌-◌, ◌/◌, ◌%◌, ◌^◌, ◌<◌, ◌≤◌, Bool, true, false, not, ◌&&◌, eqb, List, [], ◌∷◌, ◌++◌, length, get_or, take, drop, sym, refl, ◌∙◌, suc-add, zero-add, arith, length-drop, drop_of_length-le, take_all, eq-eqb, ne_eqb}
use native.Mathlib.Nat.{zero-sub, sub-zero, suc-sub-suc}
use lib.Dec.{eqb-suc-zero}
use borrow.Author.Tests.{not-true, not-false}
use Rattle.word.specs.Choice.{pick}
use Rattle.word.specs.Words.{word_at, sum_of}
use Rattle.word.specs.Parse.{Parsed, fault, got, next, one, several, Rest, nowhere, from, behind}
use Rattle.word.proofs.Parse.{first_of, others_of}
use Rattle.interface.specs.Format.{bytes_of, no_zero, all_zero, name_well_formed, name_words, read_name}
use Rattle.entry_check.proofs.CheckCases.{same_behind}

-- ---- the bytes of one word

zero_sum : (bs : List ℕ) → all_zero bs ≡ eqb (sum_of bs) 0
unfolding all_zero sum_of
zero_sum [] = refl
zero_sum (zero ∷ bs) = rw zero-add (zero_sum bs)
zero_sum (suc b ∷ bs) = rw (suc-add, eqb-suc-zero (b + sum_of bs), eqb-suc-zero b)

both_zero : (p q : ℕ) → (p ≡ 0 → q ≡ 0) → (q ≡ 0 → p ≡ 0) → eqb p 0 ≡ eqb q 0
both_zero zero q f g = sym (eq-eqb q 0 (f refl))
both_zero (suc p) zero f g = absurd (omega (arith, g refl))
both_zero (suc p) (suc q) f g = rw (eqb-suc-zero p, eqb-suc-zero q)

-- what stands in a word above its first, second and third byte
module _ (w : ℕ) (fits : w < 2 ^ 32) where
  above_3 : eqb (w / 16777216) 0 ≡ all_zero (w / 16777216 % 256 ∷ [])
  unfolding sum_of
  above_3 = rw zero_sum (both_zero (w / 16777216) (w / 16777216 % 256 + 0) (λ z. omega arith) (λ z. omega arith))

  top : w / 16777216 % 256 ≡ 0 → w / 16777216 ≡ 0
  top z = omega arith

  upper : w / 65536 % 256 ≡ 0 → w / 16777216 ≡ 0 → w / 65536 ≡ 0
  upper z y = let x : w / 65536 < 256 = omega arith in omega arith

  lower : w / 256 % 256 ≡ 0 → w / 65536 ≡ 0 → w / 256 ≡ 0
  lower z y = let x : w / 256 < 256 = omega arith in omega arith

  above_2 : eqb (w / 65536) 0 ≡ all_zero (w / 65536 % 256 ∷ w / 16777216 % 256 ∷ [])
  unfolding sum_of
  above_2 =
      rw zero_sum
      (both_zero (w / 65536) (w / 65536 % 256 + (w / 16777216 % 256 + 0))
      (λ z. let y : w / 16777216 ≡ 0 = omega arith in rw (z, y))
      (λ z. let y : w / 16777216 % 256 ≡ 0 = omega arith in let x : w / 65536 % 256 ≡ 0 = omega arith in upper x (top y)))

  above_1 : eqb (w / 256) 0 ≡ all_zero (w / 256 % 256 ∷ w / 65536 % 256 ∷ w / 16777216 % 256 ∷ [])
  unfolding sum_of
  above_1 =
      rw zero_sum
      (both_zero (w / 256) (w / 256 % 256 + (w / 65536 % 256 + (w / 16777216 % 256 + 0)))
      (λ z. let y : w / 65536 ≡ 0 = omega arith in let x : w / 16777216 ≡ 0 = omega arith in rw (z, y, x))
      (λ z. let y : w / 16777216 % 256 ≡ 0 = omega arith in let x : w / 65536 % 256 ≡ 0 = omega arith in lower (omega arith) (upper x (top y))))

turned : (t : Bool) → not t ≡ pick t false true && true
turned true = refl
turned false = refl

-- a word of what is left of a name: a zero byte in it, bytes behind its end, four bytes of it
module _ (w left : ℕ) (h : 1 ≤ left) where
  pub zero_first : w % 256 ≡ 0 → false ≡ name_well_formed left (bytes_of (w ∷ []))
  unfolding bytes_of no_zero
  zero_first e = let x : left ≡ suc (left - 1) = omega arith in rw (x, eq-eqb (w % 256) 0 e)

module _ (w left : ℕ) (fits : w < 2 ^ 32) (h : 1 ≤ left) (a : w % 256 ≡ 0 → ⊥) where
  pub name_1 : left ≡ 1 → eqb (w / 256) 0 ≡ name_well_formed left (bytes_of (w ∷ []))
  unfolding bytes_of no_zero
  name_1 e = rw (e, ne_eqb (w % 256) 0 a) (above_1 w fits)

  pub zero_second : (left ≡ 1 → ⊥) → w / 256 % 256 ≡ 0 → false ≡ name_well_formed left (bytes_of (w ∷ []))
  unfolding bytes_of no_zero
  zero_second n e = let x : left ≡ suc (suc (left - 2)) = omega arith in rw (x, ne_eqb (w % 256) 0 a, eq-eqb (w / 256 % 256) 0 e)

  module _ (b : w / 256 % 256 ≡ 0 → ⊥) where
    pub name_2 : left ≡ 2 → eqb (w / 65536) 0 ≡ name_well_formed left (bytes_of (w ∷ []))
    unfolding bytes_of no_zero
    name_2 e = rw (e, ne_eqb (w % 256) 0 a, ne_eqb (w / 256 % 256) 0 b) (above_2 w fits)

    pub zero_third : (left ≡ 1 → ⊥) → (left ≡ 2 → ⊥) → w / 65536 % 256 ≡ 0 → false ≡ name_well_formed left (bytes_of (w ∷ []))
    unfolding bytes_of no_zero
    zero_third m n e =
        let x : left ≡ suc (suc (suc (left - 3))) = omega arith in
        rw (x, ne_eqb (w % 256) 0 a, ne_eqb (w / 256 % 256) 0 b, eq-eqb (w / 65536 % 256) 0 e)

    module _ (c : w / 65536 % 256 ≡ 0 → ⊥) where
      pub name_3 : left ≡ 3 → eqb (w / 16777216) 0 ≡ name_well_formed left (bytes_of (w ∷ []))
      unfolding bytes_of no_zero
      name_3 e = rw (e, ne_eqb (w % 256) 0 a, ne_eqb (w / 256 % 256) 0 b, ne_eqb (w / 65536 % 256) 0 c) (above_3 w fits)

      pub name_4 : (left ≡ 1 → ⊥) → (left ≡ 2 → ⊥) → (left ≡ 3 → ⊥) → not (eqb (w / 16777216) 0) ≡ name_well_formed left (bytes_of (w ∷ []))
      unfolding bytes_of no_zero all_zero
      name_4 k m n =
          let x : 4 ≤ left = omega arith in
          let y : w / 16777216 % 256 ≡ w / 16777216 = omega arith in
          rw (
            take_all left (bytes_of (w ∷ [])) x,
            drop_of_length-le (bytes_of (w ∷ [])) x,
            ne_eqb (w % 256) 0 a,
            ne_eqb (w / 256 % 256) 0 b,
            ne_eqb (w / 65536 % 256) 0 c,
            y,
          ) (turned (eqb (w / 16777216) 0))

pub ruleset name_word_steps = (zero_first, zero_second, zero_third, name_1, name_2, name_3, name_4)

-- ---- a name, word after word

zeros_append : (xs ys : List ℕ) → all_zero (xs ++ ys) ≡ all_zero xs && all_zero ys
unfolding all_zero
zeros_append [] ys = refl
zeros_append (zero ∷ xs) ys = zeros_append xs ys
zeros_append (suc x ∷ xs) ys = rw (eqb-suc-zero x)

well_formed_append : (k : ℕ) (xs ys : List ℕ) → name_well_formed k (xs ++ ys) ≡ name_well_formed k xs && name_well_formed (k - length xs) ys
unfolding no_zero all_zero
well_formed_append zero [] ys = refl
well_formed_append (suc k) [] ys = rw sub-zero
well_formed_append zero (x ∷ xs) ys = rw zero-sub (zeros_append (x ∷ xs) ys)
well_formed_append (suc k) (zero ∷ xs) ys = refl
well_formed_append (suc k) (suc x ∷ xs) ys = rw (eqb-suc-zero x, suc-sub-suc) (well_formed_append k xs ys)

pub words_left : (k : ℕ) → (k ≡ 0 → ⊥) → name_words k ≡ suc (name_words (k - 4))
words_left k h = omega arith

module _ (k w : ℕ) where
  word_fits : (p : Parsed (List ℕ)) → name_well_formed k (bytes_of (w ∷ [])) ≡ true
      → behind (next (next p λ others rest. got (w ∷ others) rest) λ words rest. pick (name_well_formed k (bytes_of words)) (got (take k (bytes_of words)) rest) fault)
      ≡ behind (next p λ words rest. pick (name_well_formed (k - 4) (bytes_of words)) (got (take (k - 4) (bytes_of words)) rest) fault)
  unfolding bytes_of
  word_fits fault e = refl
  word_fits (got words rest) e =
      rw (well_formed_append k (bytes_of (w ∷ [])) (bytes_of words), e)
      (same_behind (name_well_formed (k - 4) (bytes_of words)) (take k (bytes_of (w ∷ words))) (take (k - 4) (bytes_of words)) rest)

  word_lacks : (p : Parsed (List ℕ)) → name_well_formed k (bytes_of (w ∷ [])) ≡ false
      → nowhere ≡ behind (next (next p λ others rest. got (w ∷ others) rest) λ words rest. pick (name_well_formed k (bytes_of words)) (got (take k (bytes_of words)) rest) fault)
  unfolding bytes_of
  word_lacks fault e = refl
  word_lacks (got words rest) e = rw (well_formed_append k (bytes_of (w ∷ [])) (bytes_of words), e)

module _ (k : ℕ) (h : k ≡ 0 → ⊥) where
  name_fits : (l : List ℕ) → name_well_formed k (bytes_of (get_or l 0 0 ∷ [])) ≡ true → behind (read_name k l) ≡ behind (read_name (k - 4) (drop 1 l))
  unfolding read_name several
  name_fits [] e = let x : false ≡ true = zero_first 0 k (omega arith) refl ∙ e in cc
  name_fits (w ∷ l) e = rw (words_left k h) (word_fits k w (several (name_words (k - 4)) (one (λ w. true)) l) e)

  name_lacks : (l : List ℕ) → name_well_formed k (bytes_of (get_or l 0 0 ∷ [])) ≡ false → nowhere ≡ behind (read_name k l)
  unfolding read_name several
  name_lacks [] e = rw (words_left k h)
  name_lacks (w ∷ l) e = rw (words_left k h) (word_lacks k w (several (name_words (k - 4)) (one (λ w. true)) l) e)

  name_holds : (l : List ℕ) → name_well_formed k (bytes_of (get_or l 0 0 ∷ [])) ≡ true → 1 ≤ length l
  name_holds [] e = let x : false ≡ true = zero_first 0 k (omega arith) refl ∙ e in let y : ◌≡◌ {A = ℕ} 0 1 = cc in omega arith
  name_holds (w ∷ l) e = omega arith

-- the walk over a name: a word that is not well formed, one that is, the end
module _ (ws : List ℕ) (k at w : ℕ) (b : Bool) (h : k ≡ 0 → ⊥) (e : w ≡ word_at ws at) (t : b ≡ name_well_formed k (bytes_of (w ∷ []))) where
  pub name_stops : (goal : Rest) → not b ≡ true → goal ≡ behind (read_name k (drop at ws)) → nowhere ≡ goal
  name_stops goal f inv = name_lacks k h (drop at ws) (rw (first_of ws at, ← e, ← t) (not-true b f)) ∙ sym inv

  pub name_goes : (goal : Rest) (left next : ℕ) → not b ≡ false → left ≡ k - 4 → next ≡ at + 1 → goal ≡ behind (read_name k (drop at ws)) → goal ≡ behind (read_name left (drop next ws))
  name_goes goal left next f l n inv =
      inv ∙ name_fits k h (drop at ws) (rw (first_of ws at, ← e, ← t) (not-false b f)) ∙ rw (others_of ws at, l, n)

  pub name_in : not b ≡ false → at + 1 ≤ length ws
  name_in f = omega (arith, name_holds k h (drop at ws) (rw (first_of ws at, ← e, ← t) (not-false b f)), length-drop at ws)

pub name_ended : (ws : List ℕ) (k at : ℕ) (goal : Rest) → k ≡ 0 → goal ≡ behind (read_name k (drop at ws)) → from (drop at ws) ≡ goal
unfolding read_name several no_zero all_zero bytes_of
name_ended ws k at goal z inv = sym (inv ∙ rw z)
