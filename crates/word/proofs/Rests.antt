-- Laws of readers: where one stopped, told by the position behind what it read, if there is one.
use Rattle.std.proofs.Common.{◌≡◌, ℕ, zero, suc, ◌+◌, ◌-◌, ◌<◌, ◌≤◌, Bool, true, false, ◌&&◌, List, [], ◌∷◌, ◌++◌, length, take, drop, refl, ◌∙◌, arith}
use Rattle.std.specs.List.{list_all}
use Rattle.word.specs.Choice.{pick}
use Rattle.word.specs.Parse.{Parsed, fault, got, next, one, several, nowhere, from, behind}
use Rattle.word.proofs.Parse.{several_add}

-- ---- a reader that stopped: it faulted, or what it got stands before the words from there on

pub faulted : {A : Type 0} (p : Parsed A) → nowhere ≡ behind p → p ≡ fault
faulted fault e = refl
faulted (got a rest) e = let x : ◌≡◌ {A = ℕ} 0 1 = cc in absurd (omega arith)

pub got_from : {A : Type 0} (p : Parsed A) (l : List ℕ) (P : Parsed A → Type 0) → from l ≡ behind p → ((a : A) → P (got a l)) → P p
got_from fault l P e h = let x : ◌≡◌ {A = ℕ} 0 1 = cc in absurd (omega arith)
got_from (got a rest) l P e h = let x : rest ≡ l = cc in rw x (h a)

-- ---- a walk over several records: its start, one more, its ways out

pub none_read : {A : Type 0} (read : List ℕ → Parsed A) (l : List ℕ) → from l ≡ behind (several 0 read l)
unfolding several
none_read read l = refl

module _ {A : Type 0} (read : List ℕ → Parsed A) (l : List ℕ) (i : ℕ) (m : List ℕ) (e : from m ≡ behind (several i read l)) where
  pub one_read : (r : List ℕ) → from r ≡ behind (read m) → from r ≡ behind (several (i + 1) read l)
  unfolding several
  one_read r f =
      rw (several_add i 1 read l)
      (got_from (several i read l) m (λ p. from r ≡ behind (next p λ xs rest. next (several 1 read rest) λ ys rest. got (xs ++ ys) rest)) e
      (λ xs. got_from (read m) r
      (λ p. from r ≡ behind (next (next p λ a rest. next (several 0 read rest) λ others rest. got (a ∷ others) rest) λ ys rest. got (xs ++ ys) rest)) f
      (λ a. refl)))

  pub one_unread : (n : ℕ) → nowhere ≡ behind (read m) → i < n → nowhere ≡ behind (several n read l)
  unfolding several
  one_unread n f k =
      let x : n ≡ i + suc (n - i - 1) = omega arith in
      rw (x, several_add i (suc (n - i - 1)) read l)
      (got_from (several i read l) m (λ p. nowhere ≡ behind (next p λ xs rest. next (several (suc (n - i - 1)) read rest) λ ys rest. got (xs ++ ys) rest)) e
      (λ xs. rw (faulted (read m) f)))

-- ---- several words that pass a test

few : (test : ℕ → Bool) (n : ℕ) (l : List ℕ) → length l < n → several n (one test) l ≡ fault
unfolding several
few test zero l h = absurd (omega arith)
few test (suc n) [] h = refl
few test (suc n) (w ∷ l) h = tested (test w) (few test n l (omega arith))
  where
    tested : (t : Bool) → several n (one test) l ≡ fault → next (pick t (got w l) fault) (λ a rest. next (several n (one test) rest) λ others rest. got (a ∷ others) rest) ≡ fault
    tested true e = rw e
    tested false e = refl

pub words_past : (test : ℕ → Bool) (n : ℕ) (l : List ℕ) → length l < n → nowhere ≡ behind (several n (one test) l)
words_past test n l h = rw (few test n l h)

others_read : (w : ℕ) (p : Parsed (List ℕ)) → behind (next p λ others rest. got (w ∷ others) rest) ≡ behind p
others_read w fault = refl
others_read w (got others rest) = refl

pub words_tested : (test : ℕ → Bool) (n : ℕ) (l : List ℕ) → n ≤ length l → behind (several n (one test) l) ≡ pick (list_all test (take n l)) (from (drop n l)) nowhere
unfolding several
words_tested test zero l h = refl
words_tested test (suc n) [] h = absurd (omega arith)
words_tested test (suc n) (w ∷ l) h = tested (test w) (words_tested test n l (omega arith))
  where
    tested : (t : Bool) → behind (several n (one test) l) ≡ pick (list_all test (take n l)) (from (drop n l)) nowhere
        → behind (next (pick t (got w l) fault) (λ a rest. next (several n (one test) rest) λ others rest. got (a ∷ others) rest))
        ≡ pick (t && list_all test (take n l)) (from (drop n l)) nowhere
    tested true e = others_read w (several n (one test) l) ∙ e
    tested false e = refl
