-- What was read, written again, is what stood there: one word, and records.
use Prim.Native.Nat.{ℕ, zero, suc}
use native.Mathlib.Omega.{arith}
use mathlib.Core.Path.{◌≡◌, refl, sym, ap, ◌∙◌}
use mathlib.Core.Bool.{Bool, true}
use mathlib.Core.List.{List, [], ◌∷◌, ◌++◌, append_assoc, map}
use lib.ListN.{length, length-map}
use Rattle.word.specs.Parse.{Parsed, got, next, one, several}
use Rattle.word.specs.Lists.{flat, every}
use Rattle.word.proofs.Lists.{every_any, every_behind}
use Rattle.word.proofs.ParseReads.{next_then, picked}

-- what holds of what a reader got holds of what it is said to have got
pub got_as : {A : Type 0} (P : A → List ℕ → Type 0) (a b : A) (r rest : List ℕ) → got a r ≡ got b rest → P a r → P b rest
got_as P a b r rest e p = let x : a ≡ b = cc in let y : r ≡ rest = cc in rw (← x, ← y) p

-- one word stood first, and passed its test
one_back : (test : ℕ → Bool) (ws : List ℕ) (w : ℕ) (rest : List ℕ) → one test ws ≡ got w rest → (test w ≡ true) × (ws ≡ w ∷ rest)
one_back test [] w rest e = let z : ◌≡◌ {A = ℕ} 0 1 = cc in absurd (omega arith)
one_back test (v ∷ ws) w rest e =
    let (t, q) = picked (test v) (got v ws) w rest e in
    got_as (λ w rest. (test w ≡ true) × (v ∷ ws ≡ w ∷ rest)) v w ws rest q (t, refl)

-- what read on from one word
pub one_then : {B G : Type 0} (test : ℕ → Bool) (ws : List ℕ) (k : ℕ → List ℕ → Parsed B) (b : B) (rest : List ℕ) → next (one test ws) k ≡ got b rest
    → ((w : ℕ) (behind : List ℕ) → test w ≡ true → ws ≡ w ∷ behind → k w behind ≡ got b rest → G) → G
one_then test ws k b rest e f =
    next_then (one test ws) k b rest e λ w behind g h.
    let (t, q) = one_back test ws w behind g in
    f w behind t q h

-- a reader of words that each pass a test: what it got, written again, stood before the words behind
abbrev pub Restores : {A : Type 0} → (ℕ → Bool) → (A → List ℕ) → (List ℕ → Parsed A) → Type 0
Restores {A} test words read = (ws : List ℕ) (a : A) (rest : List ℕ) → every test ws ≡ true → read ws ≡ got a rest → ws ≡ words a ++ rest

module _ {A : Type 0} (test : ℕ → Bool) (words : A → List ℕ) (read : List ℕ → Parsed A) (back : Restores test words read) where
  -- records, as many as were asked for
  several_back : (n : ℕ) (ws : List ℕ) (all : List A) (rest : List ℕ) → every test ws ≡ true → several n read ws ≡ got all rest
      → (length all ≡ n) × (ws ≡ flat words all ++ rest)
  unfolding several flat
  several_back zero ws all rest h e = got_as (λ all rest. (length all ≡ 0) × (ws ≡ flat words all ++ rest)) [] all ws rest e (refl, refl)
  several_back (suc n) ws all rest h e =
      next_then (read ws) _ all rest e λ a r i j.
      next_then (several n read r) _ all rest j λ others s o u.
      let q : ws ≡ words a ++ r = back ws a r h i in
      let (l, m) = several_back n r others s (every_behind test (words a) r (rw q at h)) o in
      got_as (λ all rest. (length all ≡ suc n) × (ws ≡ flat words all ++ rest)) (a ∷ others) all s rest u
      (ap suc l, q ∙ rw m (sym (append_assoc (words a) (flat words others) s)))

  -- what read on from records
  pub several_then : {B G : Type 0} (n : ℕ) (ws : List ℕ) (k : List A → List ℕ → Parsed B) (b : B) (rest : List ℕ) → every test ws ≡ true
      → next (several n read ws) k ≡ got b rest
      → ((all : List A) (behind : List ℕ) → length all ≡ n → ws ≡ flat words all ++ behind → k all behind ≡ got b rest → G) → G
  several_then n ws k b rest h e f =
      next_then (several n read ws) k b rest e λ all behind g m.
      let (l, q) = several_back n ws all behind h g in
      f all behind l q m

-- a word that is written as itself where it passes the test
pub one_restores : (test : ℕ → Bool) (words : ℕ → List ℕ) → ((w : ℕ) → test w ≡ true → words w ≡ w ∷ []) → Restores (λ w. true) words (one test)
one_restores test words again ws w rest h e = let (t, q) = one_back test ws w rest e in rw (again w t) q

-- the words of what numbers stand for
flat_map : {A : Type 0} (of : ℕ → A) (words : A → List ℕ) (ws : List ℕ) → flat words (map of ws) ≡ flat (λ w. words (of w)) ws
unfolding flat
flat_map of words [] = refl
flat_map of words (w ∷ ws) = rw (flat_map of words ws)

-- what read on from words, each taken for what it stands for
pub words_then : {A B G : Type 0} (test : ℕ → Bool) (of : ℕ → A) (words : A → List ℕ) → ((w : ℕ) → test w ≡ true → words (of w) ≡ w ∷ [])
    → (list : List ℕ → List A) → ((ws : List ℕ) → list ws ≡ map of ws)
    → (n : ℕ) (ws : List ℕ) (k : List ℕ → List ℕ → Parsed B) (b : B) (rest : List ℕ) → next (several n (one test) ws) k ≡ got b rest
    → ((all behind : List ℕ) → length (list all) ≡ n → ws ≡ flat words (list all) ++ behind → k all behind ≡ got b rest → G) → G
words_then test of words again list mapped n ws k b rest e f =
    several_then (λ w. true) (λ w. words (of w)) (one test) (one_restores test (λ w. words (of w)) again) n ws k b rest (every_any ws) e λ all behind l q g.
    f all behind (rw (mapped all, length-map all of) l) (rw (mapped all, flat_map of words all) q) g
