-- What a reader that did not fault has read, and where it stopped, by positions in the words that its own begin.
use Rattle.std.proofs.Common.{◌≡◌, ℕ, zero, suc, ◌+◌, ◌<◌, ◌≤◌, Bool, true, false, List, [], ◌∷◌, ◌++◌, length, get_or, take, drop, sym, refl, ap, ◌∙◌, add-zero, add-one, arith, length-drop, get_or-drop, drop-cons, drop-drop}
use Rattle.word.specs.Choice.{pick}
use Rattle.word.specs.Words.{word_at}
use Rattle.word.specs.Parse.{Parsed, fault, got, next, one, several}

-- the words ws stand in P from a position on, with t behind them
pub record Stands (P t : List ℕ) (at : ℕ) (ws : List ℕ) : Type 0 where
  pub here : drop at P ≡ ws ++ t
  pub within : at ≤ length P

-- what read on had read before
pub next_then : {A B G : Type 0} (p : Parsed A) (k : A → List ℕ → Parsed B) (b : B) (rest : List ℕ) → next p k ≡ got b rest
    → ((a : A) (behind : List ℕ) → p ≡ got a behind → k a behind ≡ got b rest → G) → G
next_then fault k b rest e f = absurd (let z : ◌≡◌ {A = ℕ} 0 1 = cc in omega arith)
next_then (got a behind) k b rest e f = f a behind refl e

-- a test that a reader passed
pub picked : {A : Type 0} (test : Bool) (p : Parsed A) (a : A) (rest : List ℕ) → pick test p fault ≡ got a rest → (test ≡ true) × (p ≡ got a rest)
picked true p a rest e = (refl, e)
picked false p a rest e = absurd (let z : ◌≡◌ {A = ℕ} 0 1 = cc in omega arith)

module _ (P t : List ℕ) (at : ℕ) where
  -- the word at a position, and the words behind it
  pub word_stands : (w : ℕ) (ws : List ℕ) → Stands P t at (w ∷ ws) → (word_at P at ≡ w) × Stands P t (at + 1) ws
  word_stands w ws s =
      let e : get_or (drop at P) 0 0 ≡ w = ap (λ (l : List ℕ). get_or l 0 0) s.here in
      let d : drop 1 (drop at P) ≡ ws ++ t = ap (λ (l : List ℕ). drop 1 l) s.here in
      let n : length (drop at P) ≡ suc (length (ws ++ t)) = ap length s.here in
      (rw (get_or-drop at P 0 0, add-zero at) at e, record { here = sym (drop-drop 1 at P) ∙ d; within = omega (arith, length-drop at P) })

  pub one_stands : (test : ℕ → Bool) (w : ℕ) (ws rest : List ℕ) → Stands P t at ws → one test ws ≡ got w rest
      → (test w ≡ true) × (word_at P at ≡ w) × Stands P t (at + 1) rest
  one_stands test w [] rest s e = absurd (let z : ◌≡◌ {A = ℕ} 0 1 = cc in omega arith)
  one_stands test w (v ∷ ws) rest s e =
      let (p, q) = picked (test v) (got v ws) w rest e in
      let vw : v ≡ w = cc in
      let wr : ws ≡ rest = cc in
      let (a, b) = word_stands v ws s in
      (rw vw at p, a ∙ vw, rw wr at b)

  pub one_reads : (test : ℕ → Bool) (ws : List ℕ) → Stands P t at ws → (w : ℕ) (rest : List ℕ) → one test ws ≡ got w rest
      → (w ≡ word_at P at) × Stands P t (at + 1) rest
  one_reads test ws s w rest e = let (p, q, r) = one_stands test w ws rest s e in (sym q, r)

-- what reads on from a reader goes on with what stands in P
pub next_reads : {A B G : Type 0} (P t : List ℕ) (p : Parsed A) (k : A → List ℕ → Parsed B) (b : B) (rest : List ℕ) (stands : A) (after : ℕ)
    → next p k ≡ got b rest → ((a : A) (r : List ℕ) → p ≡ got a r → (a ≡ stands) × Stands P t after r)
    → ((r : List ℕ) → Stands P t after r → k stands r ≡ got b rest → G) → G
next_reads P t p k b rest stands after e f g =
    next_then p k b rest e λ a r e₁ g₁.
    let (q, s) = f a r e₁ in
    g r s (rw q at g₁)

-- the words that a reader of as many words read
pub several_words : (P t : List ℕ) (at n : ℕ) (test : ℕ → Bool) (ws : List ℕ) → Stands P t at ws → (words rest : List ℕ)
    → several n (one test) ws ≡ got words rest → (words ≡ take n (drop at P)) × Stands P t (at + n) rest
unfolding several
several_words P t at zero test ws s words rest e =
    let ww : [] ≡ words = cc in
    let wr : ws ≡ rest = cc in
    (sym ww, rw (add-zero at, ← wr) s)
several_words P t at (suc n) test ws s words rest e =
    next_then (one test ws) _ words rest e λ w r e₁ g₁.
    next_then (several n (one test) r) _ words rest g₁ λ others r₂ e₂ g₂.
    let (q, s₁) = one_reads P t at test ws s w r e₁ in
    let (o, s₂) = several_words P t (at + 1) n test r s₁ others r₂ e₂ in
    let ww : w ∷ others ≡ words = cc in
    let wr : r₂ ≡ rest = cc in
    let h : at < length P = omega (arith, s₁.within) in
    let m : at + 1 + n ≡ at + suc n = omega arith in
    (rw (drop-cons P at 0 h) (cc (add-one at)), rw (← m, ← wr) s₂)

-- three words, each by a test of its own
pub three_words : {A : Type 0} (P t : List ℕ) (at : ℕ) (f g h : ℕ → Bool) (of : ℕ → ℕ → ℕ → A) (ws : List ℕ) → Stands P t at ws → (a : A) (rest : List ℕ)
    → (next (one f ws) λ x rest. next (one g rest) λ y rest. next (one h rest) λ z rest. got (of x y z) rest) ≡ got a rest
    → (a ≡ of (word_at P at) (word_at P (at + 1)) (word_at P (at + 2))) × Stands P t (at + 3) rest
three_words P t at f g h of ws s a rest e =
    next_reads P t (one f ws) _ a rest (word_at P at) (at + 1) e (one_reads P t at f ws s) λ r₁ s₁ g₁.
    next_reads P t (one g r₁) _ a rest (word_at P (at + 1)) (at + 1 + 1) g₁ (one_reads P t (at + 1) g r₁ s₁) λ r₂ s₂ g₂.
    next_reads P t (one h r₂) _ a rest (word_at P (at + 1 + 1)) (at + 1 + 1 + 1) g₂ (one_reads P t (at + 1 + 1) h r₂ s₂) λ r₃ s₃ g₃.
    let m : at + 1 + 1 ≡ at + 2 = omega arith in
    let n : at + 1 + 1 + 1 ≡ at + 3 = omega arith in
    let wr : r₃ ≡ rest = cc in
    (rw (← m) (cc), rw (← wr, ← n) s₃)
