-- A name's bytes, word after word, and their comparison with others.
use Prim.Native.Nat.{ℕ, zero, suc, ◌+◌, ◌*◌, ◌/◌, ◌%◌, ◌<◌, ◌≤◌, ◌^◌}
use native.Mathlib.Omega.{arith}
use native.Mathlib.Numerals.{add-one}
use mathlib.Core.Path.{◌≡◌, refl, sym, ap, ◌∙◌}
use mathlib.Core.Bool.{Bool, true, false}
use mathlib.Core.List.{List, [], ◌∷◌}
use lib.ListN.{length, get_or, take, drop, length-drop, drop_of_length-le}
use lib.Seq.{drop-cons, length-take-le, get_or-take, get_or-drop}
use Rattle.std.specs.Int.{to_le_bytes, from_le_bytes}
use mir.Syntax.{w32}
use borrow.Author.Tests.{eq-eqb, ne_eqb, eqb-true, eqb-false}
use Rattle.word.proofs.Truth.{by_test}
use lib.Dec.{eqb}
use Rattle.word.specs.Choice.{pick}
use Rattle.word.specs.Words.{word_at, bits}
use Rattle.interface.specs.Format.{bytes_of, name_words, same_bytes}
use Rattle.interface.specs.Inner.Reads.{name_at}
use Rattle.interface.specs.Inner.Parts.{workgroup_at}
use Rattle.entry_check.specs.Inner.Walks.{first_words, name_of}
use Rattle.entry_check.proofs.CheckHeads.{name_long, other_length}

-- ---- a name

-- as many words, where there are as many
words_there : (n : ℕ) (l : List ℕ) → n ≤ length l → first_words n l ≡ take n l
unfolding first_words
words_there zero l h = refl
words_there (suc n) [] h = absurd (omega arith)
words_there (suc n) (w ∷ l) h = ap (◌∷◌ w) (words_there n l (omega arith))

module _ (ws name : List ℕ) (head n : ℕ) (h : workgroup_at ws head ≤ length ws) (hn : n ≡ bits 22 16 (word_at ws head)) where
  -- a name whose words lie within the pack
  name_is : name_at ws head ≡ name_of n (drop (head + 1) ws)
  unfolding name_of
  name_is =
      let k : name_words n ≤ length (drop (head + 1) ws) = omega (arith, length-drop (head + 1) ws) in
      rw (← hn, words_there (name_words n) (drop (head + 1) ws) k)

  pub name_fits : length name ≡ n → head + 1 + name_words (length name) ≤ length ws
  name_fits e = rw (e, hn) h

  pub name_counts : (length name ≡ n → ⊥) → false ≡ same_bytes (name_at ws head) name
  name_counts d =
      rw name_is (sym (other_length (name_of n (drop (head + 1) ws)) name (λ e. d (sym e ∙ name_long n (drop (head + 1) ws)))))

  pub name_bytes : (b : Bool) → length name ≡ n → b ≡ same_bytes (name_of (length name) (drop (head + 1) ws)) name → b ≡ same_bytes (name_at ws head) name
  name_bytes b e g = rw (name_is, ← e) g

-- ---- a name compared with bytes

-- a byte of words, and of the word that it lies in
byte_in : (l : List ℕ) (i : ℕ) → i < 4 * length l → get_or (bytes_of l) i 0 ≡ get_or (to_le_bytes w32 (word_at l (i / 4))) (i % 4) 0
unfolding bytes_of
byte_in [] i h = absurd (omega arith)
byte_in (w ∷ l) zero h = refl
byte_in (w ∷ l) (suc zero) h = refl
byte_in (w ∷ l) (suc (suc zero)) h = refl
byte_in (w ∷ l) (suc (suc (suc zero))) h = refl
byte_in (w ∷ l) (suc (suc (suc (suc i)))) h =
    let q : suc (suc (suc (suc i))) / 4 ≡ suc (i / 4) = omega arith in
    let r : suc (suc (suc (suc i))) % 4 ≡ i % 4 = omega arith in
    rw (q, r) (byte_in l i (omega arith))

same_drop : (xs ys : List ℕ) (i : ℕ) → i < length xs → i < length ys
    → same_bytes (drop i xs) (drop i ys) ≡ pick (eqb (get_or xs i 0) (get_or ys i 0)) (same_bytes (drop (i + 1) xs) (drop (i + 1) ys)) false
unfolding same_bytes
same_drop xs ys i h k = rw (drop-cons xs i 0 h, drop-cons ys i 0 k, add-one i)

module _ (ws name : List ℕ) (from : ℕ) (h : from + name_words (length name) ≤ length ws) where
  -- the comparison from a position on
  abbrev rest_same : ℕ → Bool
  rest_same i = same_bytes (drop i (name_of (length name) (drop from ws))) (drop i name)

  -- a byte of the name, in the word that it lies in
  abbrev byte_there : ℕ → ℕ
  byte_there i = get_or (to_le_bytes w32 (word_at ws (from + i / 4))) (i % 4) 0

  name_byte : (i : ℕ) → i < length name → get_or (name_of (length name) (drop from ws)) i 0 ≡ byte_there i
  unfolding name_of
  name_byte i k =
      let m : ℕ = name_words (length name) in
      let l : m ≤ length (drop from ws) = omega (arith, length-drop from ws) in
      let t : length (take m (drop from ws)) ≡ m = length-take-le m (drop from ws) l in
      rw (words_there m (drop from ws) l, get_or-take (length name) (bytes_of (take m (drop from ws))) i 0 k)
      (byte_in (take m (drop from ws)) i (omega arith) ∙ rw (get_or-take m (drop from ws) (i / 4) 0 (omega arith), get_or-drop from ws (i / 4) 0))

  byte_step : (i : ℕ) → i < length name → rest_same i ≡ pick (eqb (byte_there i) (get_or name i 0)) (rest_same (i + 1)) false
  byte_step i k = rw (same_drop (name_of (length name) (drop from ws)) name i (rw name_long k) k, name_byte i k)

  byte_same : (i n : ℕ) → n ≡ i + 1 → i < length name → byte_there i ≡ get_or name i 0 → rest_same i ≡ rest_same n
  byte_same i n q k e = byte_step i k ∙ rw (eq-eqb (byte_there i) (get_or name i 0) e, q)

  byte_other : (i : ℕ) → i < length name → (byte_there i ≡ get_or name i 0 → ⊥) → rest_same i ≡ false
  byte_other i k d = byte_step i k ∙ rw (ne_eqb (byte_there i) (get_or name i 0) d)

  -- ---- a whole word

  module _ (j : ℕ) (k : 4 * j + 4 ≤ length name) where
    in_word : (i r : ℕ) → i ≡ 4 * j + r → r < 4 → byte_there i ≡ get_or (to_le_bytes w32 (word_at ws (from + j))) r 0
    in_word i r e l =
        let q : i / 4 ≡ j = omega arith in
        let m : i % 4 ≡ r = omega arith in
        rw (q, m)

    module _ (v : ℕ) (hv : v ≡ from_le_bytes w32 (get_or name (4 * j) 0 ∷ get_or name (4 * j + 1) 0 ∷ get_or name (4 * j + 2) 0 ∷ get_or name (4 * j + 3) 0 ∷ [])) where
      one_same : (i n r x : ℕ) → i ≡ 4 * j + r → n ≡ i + 1 → r < 4 → get_or (to_le_bytes w32 (word_at ws (from + j))) r 0 ≡ x → x ≡ get_or name i 0 → rest_same i ≡ rest_same n
      one_same i n r x e q l there here = byte_same i n q (omega arith) (in_word i r e l ∙ (there ∙ here))

      words_same : get_or name (4 * j) 0 < 256 → get_or name (4 * j + 1) 0 < 256 → get_or name (4 * j + 2) 0 < 256 → get_or name (4 * j + 3) 0 < 256 → word_at ws (from + j) ≡ v
          → rest_same (4 * j) ≡ rest_same (4 * (j + 1))
      words_same la lb lc ld e =
          one_same (4 * j) (4 * j + 1) 0 (get_or name (4 * j) 0) (omega arith) refl (omega arith) (omega arith) refl
          ∙ (one_same (4 * j + 1) (4 * j + 2) 1 (get_or name (4 * j + 1) 0) refl (omega arith) (omega arith) (omega arith) refl
          ∙ (one_same (4 * j + 2) (4 * j + 3) 2 (get_or name (4 * j + 2) 0) refl (omega arith) (omega arith) (omega arith) refl
          ∙ one_same (4 * j + 3) (4 * (j + 1)) 3 (get_or name (4 * j + 3) 0) refl (omega arith) (omega arith) (omega arith) refl))

      -- a byte that differs ends it
      one_tested : (i n r : ℕ) → i ≡ 4 * j + r → n ≡ i + 1 → r < 4
          → (get_or (to_le_bytes w32 (word_at ws (from + j))) r 0 ≡ get_or name i 0 → rest_same n ≡ false) → rest_same i ≡ false
      one_tested i n r e q l more =
          let x : ℕ = get_or (to_le_bytes w32 (word_at ws (from + j))) r 0 in
          by_test (eqb x (get_or name i 0))
          (λ t. byte_same i n q (omega arith) (in_word i r e l ∙ eqb-true x (get_or name i 0) t) ∙ more (eqb-true x (get_or name i 0) t))
          (λ f. byte_other i (omega arith) (λ g. eqb-false x (get_or name i 0) f (sym (in_word i r e l) ∙ g)))

      -- where none does, the words are the same
      words_differ : word_at ws (from + j) < 2 ^ 32 → (word_at ws (from + j) ≡ v → ⊥) → rest_same (4 * j) ≡ false
      words_differ fits n =
          one_tested (4 * j) (4 * j + 1) 0 (omega arith) refl (omega arith) λ e0.
          one_tested (4 * j + 1) (4 * j + 2) 1 refl (omega arith) (omega arith) λ e1.
          one_tested (4 * j + 2) (4 * j + 3) 2 refl (omega arith) (omega arith) λ e2.
          one_tested (4 * j + 3) (4 * (j + 1)) 3 refl (omega arith) (omega arith) λ e3.
          absurd (n (omega arith))

      pub word_other : (goal : Bool) → goal ≡ rest_same (4 * j) → word_at ws (from + j) < 2 ^ 32 → (word_at ws (from + j) ≡ v → ⊥) → false ≡ goal
      word_other goal inv fits n = sym (inv ∙ words_differ fits n)

      pub word_alike : (goal : Bool) → goal ≡ rest_same (4 * j) → get_or name (4 * j) 0 < 256 → get_or name (4 * j + 1) 0 < 256 → get_or name (4 * j + 2) 0 < 256
          → get_or name (4 * j + 3) 0 < 256 → word_at ws (from + j) ≡ v → goal ≡ rest_same (4 * (j + 1))
      word_alike goal inv la lb lc ld e = inv ∙ words_same la lb lc ld e

  -- ---- a byte of the last word, and the end

  module _ (goal : Bool) (i : ℕ) (inv : goal ≡ rest_same i) where
    module _ (bytes : List ℕ) (whole : ℕ) (q : whole ≡ length name / 4) (m : 4 * whole ≤ i) (k : i < length name) (e : bytes ≡ to_le_bytes w32 (word_at ws (from + whole))) where
      last_there : byte_there i ≡ get_or bytes (i % 4) 0
      last_there = let d : i / 4 ≡ whole = omega arith in rw (d, e)

      pub byte_differs : (get_or bytes (i % 4) 0 ≡ get_or name i 0 → ⊥) → false ≡ goal
      byte_differs n = sym (inv ∙ byte_other i k (λ f. n (sym last_there ∙ f)))

      pub byte_agrees : get_or bytes (i % 4) 0 ≡ get_or name i 0 → goal ≡ rest_same (i + 1)
      byte_agrees f = inv ∙ byte_same i (i + 1) refl k (last_there ∙ f)

    pub bytes_ended : length name ≤ i → true ≡ goal
    unfolding same_bytes
    bytes_ended k =
        let l : length (name_of (length name) (drop from ws)) ≤ i = rw name_long k in
        sym (inv ∙ rw (drop_of_length-le name k, drop_of_length-le (name_of (length name) (drop from ws)) l))

-- ---- what the functions of src/names.rt use

pub ruleset name_compared = (name_fits, name_counts, name_bytes)
