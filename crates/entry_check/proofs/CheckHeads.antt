-- Laws of stages and names compared.
use Rattle.std.proofs.Common.{◌≡◌, ℕ, zero, suc, ◌+◌, ◌-◌, ◌*◌, ◌/◌, ◌%◌, ◌^◌, ◌<◌, ◌≤◌, Bool, true, false, not, eqb, List, [], ◌∷◌, ◌++◌, length, get_or, take, drop, sym, refl, ap, ◌∙◌, ap₂, add-one, arith, drop_of_length-le, length-take, length-drop, take_all, drop-cons, eq-eqb, ne_eqb}
use native.Mathlib.Nat.{zero-sub, sub-zero, suc-sub-suc}
use borrow.Author.Tests.{not-true, not-false}
use Rattle.word.specs.Choice.{pick}
use Rattle.word.specs.Words.{word_at}
use Rattle.word.proofs.Parse.{first_of, others_of}
use Rattle.interface.specs.Format.{bytes_of, name_words, same_bytes}
use Rattle.entry_check.specs.Inner.Walks.{first_words, name_of, same_first, same_name, same_head, has_head, distinct_heads}
use Rattle.interface.proofs.EncodeNames.{bytes_long}
use Rattle.entry_check.proofs.CheckCases.{decided}
use Rattle.entry_check.proofs.CheckNames.{words_left}

-- ---- the bytes of two words

pub last_byte : (t : Bool) → pick t true false ≡ t
last_byte true = refl
last_byte false = refl

-- two bytes and what is above them, as numbers
digits : (x y p q : ℕ) → x < 256 → y < 256 → pick (eqb x y) (eqb p q) false ≡ eqb (x + 256 * p) (y + 256 * q)
digits x y p q h k =
    decided x y (λ t. pick t (eqb p q) false ≡ eqb (x + 256 * p) (y + 256 * q))
    (λ e. decided p q (λ t. t ≡ eqb (x + 256 * p) (y + 256 * q))
    (λ f. sym (eq-eqb (x + 256 * p) (y + 256 * q) (omega arith)))
    (λ n. sym (ne_eqb (x + 256 * p) (y + 256 * q) (λ z. n (omega arith)))))
    (λ n. sym (ne_eqb (x + 256 * p) (y + 256 * q) (λ z. n (omega arith))))

low_2 : (w : ℕ) → w % 65536 ≡ w % 256 + 256 * (w / 256 % 256)
low_2 w = omega arith

low_3 : (w : ℕ) → w % 16777216 ≡ w % 256 + 256 * (w / 256 % 256 + 256 * (w / 65536 % 256))
low_3 w = omega (arith, low_2 w)

low_4 : (w : ℕ) → w < 2 ^ 32 → w ≡ w % 256 + 256 * (w / 256 % 256 + 256 * (w / 65536 % 256 + 256 * (w / 16777216 % 256)))
low_4 w h = omega (arith, low_3 w)

module _ (v w left : ℕ) where
  pub same_1 : left ≡ 1 → eqb (v % 256) (w % 256) ≡ same_first left v w
  unfolding same_first bytes_of same_bytes
  same_1 e = rw e (sym (last_byte (eqb (v % 256) (w % 256))))

  pub same_2 : left ≡ 2 → eqb (v % 65536) (w % 65536) ≡ same_first left v w
  unfolding same_first bytes_of same_bytes
  same_2 e =
      rw (
        e,
        last_byte (eqb (v / 256 % 256) (w / 256 % 256)),
        digits (v % 256) (w % 256) (v / 256 % 256) (w / 256 % 256) (omega arith) (omega arith),
        low_2 v,
        low_2 w,
      )

  upper_2 : pick (eqb (v / 256 % 256) (w / 256 % 256)) (eqb (v / 65536 % 256) (w / 65536 % 256)) false
      ≡ eqb (v / 256 % 256 + 256 * (v / 65536 % 256)) (w / 256 % 256 + 256 * (w / 65536 % 256))
  upper_2 = digits (v / 256 % 256) (w / 256 % 256) (v / 65536 % 256) (w / 65536 % 256) (omega arith) (omega arith)

  pub same_3 : left ≡ 3 → eqb (v % 16777216) (w % 16777216) ≡ same_first left v w
  unfolding same_first bytes_of same_bytes
  same_3 e =
      rw (
        e,
        last_byte (eqb (v / 65536 % 256) (w / 65536 % 256)),
        upper_2,
        digits (v % 256) (w % 256) (v / 256 % 256 + 256 * (v / 65536 % 256)) (w / 256 % 256 + 256 * (w / 65536 % 256)) (omega arith) (omega arith),
        low_3 v,
        low_3 w,
      )

  pub same_4 : v < 2 ^ 32 → w < 2 ^ 32 → 1 ≤ left → (left ≡ 1 → ⊥) → (left ≡ 2 → ⊥) → (left ≡ 3 → ⊥)
      → eqb v w ≡ same_first left v w
  unfolding same_first bytes_of same_bytes
  same_4 f g h a b c =
      let x : 4 ≤ left = omega arith in
      rw (take_all left (bytes_of (v ∷ [])) x, take_all left (bytes_of (w ∷ [])) x)
      (ap₂ eqb (low_4 v f) (low_4 w g)
      ∙ sym (rw (
        last_byte (eqb (v / 16777216 % 256) (w / 16777216 % 256)),
        digits (v / 65536 % 256) (w / 65536 % 256) (v / 16777216 % 256) (w / 16777216 % 256) (omega arith) (omega arith),
        digits (v / 256 % 256) (w / 256 % 256) (v / 65536 % 256 + 256 * (v / 16777216 % 256)) (w / 65536 % 256 + 256 * (w / 16777216 % 256)) (omega arith) (omega arith),
        digits (v % 256) (w % 256) (v / 256 % 256 + 256 * (v / 65536 % 256 + 256 * (v / 16777216 % 256)))
            (w / 256 % 256 + 256 * (w / 65536 % 256 + 256 * (w / 16777216 % 256))) (omega arith) (omega arith),
      )))

-- ---- two names, word after word

take_more : (k : ℕ) (xs ys : List ℕ) → take k (xs ++ ys) ≡ take k xs ++ take (k - length xs) ys
take_more zero [] ys = refl
take_more (suc k) [] ys = rw sub-zero
take_more zero (x ∷ xs) ys = rw zero-sub
take_more (suc k) (x ∷ xs) ys = rw suc-sub-suc (ap (◌∷◌ x) (take_more k xs ys))

same_append : (xs ys us vs : List ℕ) → length xs ≡ length ys → same_bytes (xs ++ us) (ys ++ vs) ≡ pick (same_bytes xs ys) (same_bytes us vs) false
unfolding same_bytes
same_append [] [] us vs e = refl
same_append [] (y ∷ ys) us vs e = absurd (omega arith)
same_append (x ∷ xs) [] us vs e = absurd (omega arith)
same_append (x ∷ xs) (y ∷ ys) us vs e =
    decided x y (λ t. pick t (same_bytes (xs ++ us) (ys ++ vs)) false ≡ pick (pick t (same_bytes xs ys) false) (same_bytes us vs) false)
    (λ f. same_append xs ys us vs (omega arith)) (λ n. refl)

module _ (k : ℕ) (h : k ≡ 0 → ⊥) where
  name_more : (l : List ℕ) → name_of k l ≡ take k (bytes_of (get_or l 0 0 ∷ [])) ++ name_of (k - 4) (drop 1 l)
  unfolding name_of first_words bytes_of
  name_more l = rw (words_left k h) (take_more k (bytes_of (get_or l 0 0 ∷ [])) (bytes_of (first_words (name_words (k - 4)) (drop 1 l))))

  -- a name against bytes: those of its first word, and the others
  pub name_step : (l us vs : List ℕ) → length (take k (bytes_of (get_or l 0 0 ∷ []))) ≡ length us
      → same_bytes (name_of k l) (us ++ vs) ≡ pick (same_bytes (take k (bytes_of (get_or l 0 0 ∷ []))) us) (same_bytes (name_of (k - 4) (drop 1 l)) vs) false
  name_step l us vs e = rw (name_more l) (same_append (take k (bytes_of (get_or l 0 0 ∷ []))) us (name_of (k - 4) (drop 1 l)) vs e)

  same_more : (l m : List ℕ) → same_name k l m ≡ pick (same_first k (get_or l 0 0) (get_or m 0 0)) (same_name (k - 4) (drop 1 l) (drop 1 m)) false
  unfolding same_name same_first bytes_of
  same_more l m = rw (name_more m) (name_step l (take k (bytes_of (get_or m 0 0 ∷ []))) (name_of (k - 4) (drop 1 m)) (simp length-take))

-- the walk over two names: words that differ, words that agree, the end
module _ (ws : List ℕ) (k i j : ℕ) (b goal : Bool) (inv : goal ≡ same_name k (drop i ws) (drop j ws)) (h : k ≡ 0 → ⊥)
    (t : b ≡ same_first k (word_at ws i) (word_at ws j)) where
  pub names_differ : not b ≡ true → false ≡ goal
  names_differ n = sym (inv ∙ rw (same_more k h (drop i ws) (drop j ws), first_of ws i, first_of ws j, ← t, not-true b n))

  pub names_agree : (left i' j' : ℕ) → not b ≡ false → left ≡ k - 4 → i' ≡ i + 1 → j' ≡ j + 1 → goal ≡ same_name left (drop i' ws) (drop j' ws)
  names_agree left i' j' n l p q =
      inv ∙ rw (same_more k h (drop i ws) (drop j ws), first_of ws i, first_of ws j, ← t, not-false b n, others_of ws i, others_of ws j, l, p, q)

pub names_ended : (ws : List ℕ) (k i j : ℕ) (goal : Bool) → k ≡ 0 → goal ≡ same_name k (drop i ws) (drop j ws) → true ≡ goal
unfolding same_name name_of same_bytes
names_ended ws k i j goal z inv = sym (inv ∙ rw z)

-- ---- heads

words_long : (n : ℕ) (ws : List ℕ) → length (first_words n ws) ≡ n
unfolding first_words
words_long zero ws = refl
words_long (suc n) ws = ap suc (words_long n (drop 1 ws))

pub name_long : (n : ℕ) (ws : List ℕ) → length (name_of n ws) ≡ n
unfolding name_of
name_long n ws = omega (arith, length-take n (bytes_of (first_words (name_words n) ws)), bytes_long (first_words (name_words n) ws), words_long (name_words n) ws)

pub other_length : (xs ys : List ℕ) → (length xs ≡ length ys → ⊥) → same_bytes xs ys ≡ false
unfolding same_bytes
other_length [] [] h = absurd (h refl)
other_length [] (y ∷ ys) h = refl
other_length (x ∷ xs) [] h = refl
other_length (x ∷ xs) (y ∷ ys) h = rw (other_length xs ys (λ e. h (ap suc e))) (nothing (eqb x y))
  where
    nothing : (t : Bool) → pick t false false ≡ false
    nothing true = refl
    nothing false = refl

module _ (ws : List ℕ) (g h v w : ℕ) (e : v ≡ word_at ws g) (f : w ≡ word_at ws h) where
  pub stages_differ : (v / 16777216 % 8 ≡ w / 16777216 % 8 → ⊥) → false ≡ same_head ws g h
  unfolding same_head
  stages_differ n = rw (← e, ← f, ne_eqb (v / 16777216 % 8) (w / 16777216 % 8) n)

  module _ (s : v / 16777216 % 8 ≡ w / 16777216 % 8) where
    pub counts_differ : (v / 65536 % 128 ≡ w / 65536 % 128 → ⊥) → false ≡ same_head ws g h
    unfolding same_head
    counts_differ n =
        rw (← e, ← f, eq-eqb (v / 16777216 % 8) (w / 16777216 % 8) s)
        (sym (other_length (name_of (v / 65536 % 128) (drop (g + 1) ws)) (name_of (w / 65536 % 128) (drop (h + 1) ws))
        (λ x. n (sym (name_long (v / 65536 % 128) (drop (g + 1) ws)) ∙ x ∙ name_long (w / 65536 % 128) (drop (h + 1) ws)))))

    pub heads_compared : (b : Bool) → v / 65536 % 128 ≡ w / 65536 % 128
        → b ≡ same_name (v / 65536 % 128) (drop (g + 1) ws) (drop (h + 1) ws) → b ≡ same_head ws g h
    unfolding same_head same_name
    heads_compared b n x = rw (← e, ← f, eq-eqb (v / 16777216 % 8) (w / 16777216 % 8) s, ← n) x

-- the walk over heads: one that is the same, one that is not, the end
module _ (ws hs : List ℕ) (h i g : ℕ) (b goal : Bool) (inv : goal ≡ has_head ws h (drop i hs)) (k : i < length hs)
    (f : g ≡ get_or hs i 0) (e : b ≡ same_head ws g h) where
  alike : b ≡ same_head ws (get_or hs i 0) h
  alike = rw (← f) e

  pub head_found : b ≡ true → true ≡ goal
  unfolding has_head
  head_found t = sym (inv ∙ rw (drop-cons hs i 0 k, ← alike, t))

  pub head_missed : b ≡ false → goal ≡ has_head ws h (drop (i + 1) hs)
  unfolding has_head
  head_missed t = inv ∙ rw (drop-cons hs i 0 k, ← alike, t, add-one i)

pub heads_ended : (ws hs : List ℕ) (h i : ℕ) (goal : Bool) → goal ≡ has_head ws h (drop i hs) → length hs ≤ i → false ≡ goal
unfolding has_head
heads_ended ws hs h i goal inv k = sym (inv ∙ rw (drop_of_length-le hs k))

-- the names behind one, as the code takes them
others_all : (hs : List ℕ) (i : ℕ) → take (length hs - i) (drop i hs) ≡ drop i hs
others_all hs i = take_all (length hs - i) (drop i hs) (omega (arith, length-drop i hs))

module _ (ws hs : List ℕ) (i next : ℕ) (b goal : Bool) (inv : goal ≡ distinct_heads ws (drop i hs)) (k : i < length hs) (n : next ≡ i + 1)
    (e : b ≡ has_head ws (get_or hs i 0) (take (length hs - next) (drop next hs))) where
  told : b ≡ has_head ws (get_or hs i 0) (drop (i + 1) hs)
  told = rw (← n, ← others_all hs next) e

  pub head_twice : b ≡ true → false ≡ goal
  unfolding distinct_heads
  head_twice t = sym (inv ∙ rw (drop-cons hs i 0 k, ← add-one i, ← told, t))

  pub head_once : b ≡ false → goal ≡ distinct_heads ws (drop (i + 1) hs)
  unfolding distinct_heads
  head_once t = inv ∙ rw (drop-cons hs i 0 k, ← add-one i, ← told, t, add-one i)

pub distinct_ended : (ws hs : List ℕ) (i : ℕ) (goal : Bool) → goal ≡ distinct_heads ws (drop i hs) → length hs ≤ i → true ≡ goal
unfolding distinct_heads
distinct_ended ws hs i goal inv k = sym (inv ∙ rw (drop_of_length-le hs k))
