-- The code's steps through the words of a pack.
use Rattle.std.proofs.Common.{◌≡◌, ℕ, zero, suc, ◌+◌, ◌-◌, ◌<◌, ◌≤◌, ◌⊎◌, Bool, true, false, not, ◌&&◌, Option, Some, None, List, [], ◌∷◌, length, get_or, take, drop, sym, refl, ap, ◌∙◌, add-one, arith, length-drop, drop-drop, take_all}
use Rattle.std.specs.List.{list_all, slice_range}
use Rattle.std.specs.Bool.{then_some}
use borrow.Author.Tests.{not-true, not-false}
use Rattle.word.specs.Choice.{pick}
use Rattle.word.specs.Words.{word_at}
use Rattle.word.specs.Parse.{one, several, Rest, nowhere, from, behind, rest_of}
use Rattle.word.proofs.Parse.{first_of, others_of, one_in}
use Rattle.word.proofs.Rests.{words_past, words_tested}
use Rattle.entry_check.specs.Inner.Walks.{onward, word}

pub none_behind : (ws : List ℕ) (r : Option ℕ) (goal : Rest) → r ≡ None → nowhere ≡ goal → rest_of ws r ≡ goal
none_behind ws r goal e f = rw e f

-- ---- words that pass a test

pub words_lack : (test : ℕ → Bool) (ws : List ℕ) (start n : ℕ) → start ≤ length ws → (start + n < start) ⊎ (length ws < start + n) → nowhere ≡ behind (several n (one test) (drop start ws))
words_lack test ws start n l h = words_past test n (drop start ws) (omega (arith, length-drop start ws, h))

-- what get says of a range of words
abbrev pub Part : List ℕ → List ℕ → ℕ → ℕ → Type 0
Part ws words start end = (start ≤ end) × (end ≤ length ws) × (words ≡ slice_range ws start end) × (length words + start ≡ end)

words_all : (test : ℕ → Bool) (ws words : List ℕ) (start n : ℕ) (b : Bool) (r : Option ℕ) → b ≡ list_all test words
    → Part ws words start (start + n) → r ≡ then_some b (start + n) → rest_of ws r ≡ behind (several n (one test) (drop start ws))
words_all test ws words start n b r e (o, h, f, l) g =
    let m : start + n - start ≡ n = omega arith in
    let q : b ≡ list_all test (take n (drop start ws)) = rw (← m) (e ∙ ap (list_all test) f) in
    rw (g, words_tested test n (drop start ws) (omega (arith, length-drop start ws)), ← q, drop-drop n start ws) (either b)
  where
    either : (b : Bool) → rest_of ws (then_some b (start + n)) ≡ pick b (from (drop (start + n) ws)) nowhere
    either true = refl
    either false = refl

-- a walk over them
all_append : (test : ℕ → Bool) (xs : List ℕ) (i : ℕ) → i < length xs → list_all test (take (suc i) xs) ≡ (list_all test (take i xs) && test (get_or xs i 0))
all_append test [] i h = absurd (omega arith)
all_append test (x ∷ xs) zero h = last (test x)
  where
    last : (t : Bool) → (t && true) ≡ t
    last true = refl
    last false = refl
all_append test (x ∷ xs) (suc i) h = rw (all_append test xs i (omega arith)) (joined (test x) (list_all test (take i xs)) (test (get_or xs i 0)))
  where
    joined : (a b c : Bool) → (a && (b && c)) ≡ ((a && b) && c)
    joined true b c = refl
    joined false b c = refl

module _ (test : ℕ → Bool) (xs : List ℕ) (i w : ℕ) (e : list_all test (take i xs) ≡ true) (h : i < length xs) (k : w ≡ get_or xs i 0) where
  pub all_go : test w ≡ true → list_all test (take (i + 1) xs) ≡ true
  all_go t = rw (add-one i, all_append test xs i h, e, ← k) t

fails : (test : ℕ → Bool) (xs : List ℕ) (i : ℕ) → i < length xs → test (get_or xs i 0) ≡ false → list_all test xs ≡ false
fails test [] i h e = absurd (omega arith)
fails test (x ∷ xs) zero h e = rw e
fails test (x ∷ xs) (suc i) h e = rw (fails test xs i (omega arith) e) (nothing (test x))
  where
    nothing : (t : Bool) → (t && false) ≡ false
    nothing true = refl
    nothing false = refl

pub all_stop : (test : ℕ → Bool) (ws words : List ℕ) (start n i w : ℕ) → Part ws words start (start + n)
    → i < length words → w ≡ get_or words i 0 → test w ≡ false → nowhere ≡ behind (several n (one test) (drop start ws))
all_stop test ws words start n i w p h k t = words_all test ws words start n false None (sym (fails test words i h (rw (← k) t))) p refl

pub all_ended : (test : ℕ → Bool) (ws words : List ℕ) (start n i : ℕ) → Part ws words start (start + n)
    → list_all test (take i words) ≡ true → length words ≤ i → from (drop (start + n) ws) ≡ behind (several n (one test) (drop start ws))
all_ended test ws words start n i p e h = words_all test ws words start n true (Some (start + n)) (sym (rw (take_all i words h) at e)) p refl

-- ---- a step from one record to the next

pub step_stop : (q : Rest) (k : List ℕ → Rest) → nowhere ≡ q → nowhere ≡ onward q k
step_stop q k e = rw (← e)

pub step_go : (l : List ℕ) (q : Rest) (k : List ℕ → Rest) (x : Rest) → from l ≡ q → x ≡ k l → x ≡ onward q k
step_go l q k x e f = rw (← e) f

module _ (test : ℕ → Bool) (ws : List ℕ) (at w : ℕ) (b : Bool) (k : ℕ → List ℕ → Rest) (e : w ≡ word_at ws at) (f : b ≡ test w) where
  pub word_stop : not b ≡ true → nowhere ≡ word test (drop at ws) k
  word_stop t = stop (drop at ws) (rw (first_of ws at, ← e, ← f) (not-true b t))
    where
      stop : (l : List ℕ) → test (get_or l 0 0) ≡ false → nowhere ≡ word test l k
      stop [] g = refl
      stop (v ∷ l) g = rw g

  pub word_go : (x : Rest) → not b ≡ false → test 0 ≡ false → x ≡ k w (drop (at + 1) ws) → x ≡ word test (drop at ws) k
  word_go x t z g = g ∙ sym (go (drop at ws) (rw (first_of ws at, ← e, ← f) (not-false b t)) ∙ rw (first_of ws at, ← e, others_of ws at))
    where
      go : (l : List ℕ) → test (get_or l 0 0) ≡ true → word test l k ≡ k (get_or l 0 0) (drop 1 l)
      go [] y = let v : false ≡ true = sym z ∙ y in cc
      go (v ∷ l) y = rw y

pub word_in : (test : ℕ → Bool) (ws : List ℕ) (at w : ℕ) (b : Bool) → w ≡ word_at ws at → b ≡ test w → not b ≡ false → test 0 ≡ false → at + 1 ≤ length ws
word_in test ws at w b e f t z = omega (arith, one_in test ws at w b e f (not-false b t) z)

pub ruleset steps = (none_behind, step_stop, step_go, word_stop, word_go)
