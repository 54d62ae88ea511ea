-- Laws of readers: where one stopped, told by a position.
use Prim.{Unit, tt}
use Rattle.std.proofs.Common.{◌≡◌, ℕ, zero, suc, ◌+◌, ◌<◌, ◌≤◌, Bool, true, false, List, [], ◌∷◌, ◌++◌, length, get_or, drop, sym, refl, ◌∙◌, add-zero, suc-add, zero-add, arith, length-drop, get_or-drop, drop-drop}
use Rattle.word.specs.Choice.{pick}
use Rattle.word.specs.Words.{word_at}
use Rattle.word.specs.Parse.{Parsed, fault, got, next, one, several}

-- ---- positions

-- the words from a position on: the first, and those behind it
pub first_of : (ws : List ℕ) (at : ℕ) → get_or (drop at ws) 0 0 ≡ word_at ws at
first_of ws at = rw (get_or-drop at ws 0 0, add-zero)

pub others_of : (ws : List ℕ) (at : ℕ) → drop 1 (drop at ws) ≡ drop (at + 1) ws
others_of ws at = drop-drop 1 at ws

-- ---- one word

head_fault : (test : ℕ → Bool) (l : List ℕ) → test (get_or l 0 0) ≡ false → one test l ≡ fault
head_fault test [] e = refl
head_fault test (x ∷ l) e = rw e

head_got : (test : ℕ → Bool) (l : List ℕ) → test (get_or l 0 0) ≡ true → test 0 ≡ false → one test l ≡ got (get_or l 0 0) (drop 1 l)
head_got test [] e z = let x : true ≡ false = sym e ∙ z in cc
head_got test (x ∷ l) e z = rw e

head_in : (test : ℕ → Bool) (l : List ℕ) → test (get_or l 0 0) ≡ true → test 0 ≡ false → 1 ≤ length l
head_in test [] e z = let x : true ≡ false = sym e ∙ z in let y : ◌≡◌ {A = ℕ} 0 1 = cc in omega arith
head_in test (x ∷ l) e z = omega arith

module _ (test : ℕ → Bool) (ws : List ℕ) (at w : ℕ) (b : Bool) (e : w ≡ word_at ws at) (t : b ≡ test w) where
  pub one_fault : b ≡ false → one test (drop at ws) ≡ fault
  one_fault f = head_fault test (drop at ws) (rw (first_of ws at, ← e, ← t) f)

  pub one_got : b ≡ true → test 0 ≡ false → one test (drop at ws) ≡ got w (drop (at + 1) ws)
  one_got f z = head_got test (drop at ws) (rw (first_of ws at, ← e, ← t) f) z ∙ rw (first_of ws at, ← e, others_of ws at)

  pub one_in : b ≡ true → test 0 ≡ false → at < length ws
  one_in f z = omega (arith, head_in test (drop at ws) (rw (first_of ws at, ← e, ← t) f) z, length-drop at ws)

-- ---- several records

next_got : {A : Type 0} (p : Parsed (List A)) → next p (λ xs rest. got ([] ++ xs) rest) ≡ p
next_got fault = refl
next_got (got xs rest) = refl

next_next : {A B C : Type 0} (p : Parsed A) (k : A → List ℕ → Parsed B) (h : B → List ℕ → Parsed C)
    → next (next p k) h ≡ next p (λ a rest. next (k a rest) h)
next_next fault k h = refl
next_next (got a rest) k h = refl

-- some records, and then some more
pub several_add : {A : Type 0} (i m : ℕ) (read : List ℕ → Parsed A) (ws : List ℕ) → several (i + m) read ws
    ≡ next (several i read ws) λ xs rest. next (several m read rest) λ ys rest. got (xs ++ ys) rest
unfolding several
several_add zero m read ws = rw zero-add (sym (next_got (several m read ws)))
several_add (suc i) m read ws = rw suc-add (simp (next_next, several_add i m read))

-- ---- what holds of whatever a reader gets

abbrev pub Yields : {A : Type 0} → (A → Type 0) → Parsed A → Type 0
Yields P fault = Unit {0}
Yields P (got a rest) = P a

pub yields_next : {A B : Type 0} (P : B → Type 0) (p : Parsed A) (k : A → List ℕ → Parsed B) → ((a : A) (rest : List ℕ) → Yields P (k a rest)) → Yields P (next p k)
yields_next P fault k h = tt
yields_next P (got a rest) k h = h a rest

pub yields_pick : {A : Type 0} (P : A → Type 0) (t : Bool) (p q : Parsed A) → Yields P p → Yields P q → Yields P (pick t p q)
yields_pick P true p q h k = h
yields_pick P false p q h k = k
