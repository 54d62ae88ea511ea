-- Words at a position, and words written there.
use Prim.Native.Nat.{ℕ, suc, ◌+◌, ◌-◌, ◌≤◌}
use native.Mathlib.Omega.{arith}
use mathlib.Core.Path.{◌≡◌, refl, sym, ap, ◌∙◌}
use mathlib.Core.List.{List, [], ◌∷◌, ◌++◌, append_assoc}
use lib.ListN.{length, take, drop, set, length-append, length-drop, take-append-drop}
use lib.Seq.{take-append-add, get_or-drop, sets-eq, take_at, drop_at, drop-drop, length-take-le}
use Rattle.std.proofs.lemmas.List.{take_rest}
use Rattle.word.specs.Words.{word_at}
use Rattle.places.specs.Records.{put}
use Rattle.word.proofs.Parse.{first_of}

-- the words from a position on, as a slice has them
abbrev pub slice_from : List ℕ → ℕ → List ℕ
slice_from l at = take (length l - at) (drop at l)

pub slice_from_is : (l : List ℕ) (at : ℕ) → slice_from l at ≡ drop at l
slice_from_is l at = take_rest l at

pub slice_holds : (l : List ℕ) (at n : ℕ) → at + n ≤ length l → n ≤ length (slice_from l at)
slice_holds l at n h = rw (slice_from_is l at) (omega (arith, length-drop at l))

pub there : (l : List ℕ) (at k : ℕ) → word_at (drop at l) k ≡ word_at l (at + k)
there l at k = get_or-drop at l k 0

-- as many words as there are
pub two : (ws : List ℕ) → 2 ≤ length ws → ws ≡ word_at ws 0 ∷ word_at ws 1 ∷ drop 2 ws
two [] h = absurd (omega arith)
two (a ∷ []) h = absurd (omega arith)
two (a ∷ b ∷ ws) h = refl

pub four : (ws : List ℕ) → 4 ≤ length ws → ws ≡ word_at ws 0 ∷ word_at ws 1 ∷ word_at ws 2 ∷ word_at ws 3 ∷ drop 4 ws
four [] h = absurd (omega arith)
four (a ∷ []) h = absurd (omega arith)
four (a ∷ b ∷ []) h = absurd (omega arith)
four (a ∷ b ∷ c ∷ []) h = absurd (omega arith)
four (a ∷ b ∷ c ∷ d ∷ ws) h = refl

-- the two words at a position, and what lies behind
pub two_at : (l : List ℕ) (at : ℕ) → at + 2 ≤ length l → drop at l ≡ word_at l at ∷ word_at l (at + 1) ∷ drop (at + 2) l
two_at l at h = two (drop at l) (omega (arith, length-drop at l)) ∙ rw (first_of l at, there l at 1, drop-drop 2 at l)

-- ---- words written

pub stored_one : (l : List ℕ) (at a : ℕ) → at + 1 ≤ length l → set l at a ≡ put l at (a ∷ [])
unfolding put
stored_one l at a h = sets-eq (a ∷ []) l at h ∙ append_assoc (take at l) (a ∷ []) (drop (at + 1) l)

module _ (l : List ℕ) (at : ℕ) (p : List ℕ) (h : at ≤ length l) where
  before : length (take at l ++ p) ≡ at + length p
  before = length-append (take at l) p ∙ rw (length-take-le at l h)

  whole : put l at p ≡ take at l ++ p ++ drop (at + length p) l
  unfolding put
  whole = sym (append_assoc (take at l) p (drop (at + length p) l))

  take_put : take (at + length p) (put l at p) ≡ take at l ++ p
  take_put = rw whole (take_at (take at l ++ p) (drop (at + length p) l) (at + length p) before)

  pub drop_put : drop (at + length p) (put l at p) ≡ drop (at + length p) l
  drop_put = rw whole (drop_at (take at l ++ p) (drop (at + length p) l) (at + length p) before)

pub put_put : (l : List ℕ) (at : ℕ) (p q : List ℕ) → at + length p + length q ≤ length l → put (put l at p) (at + length p) q ≡ put l at (p ++ q)
unfolding put
put_put l at p q h =
    let k : at ≤ length l = omega arith in
    let c : drop (at + length p + length q) (put l at p) ≡ drop (at + length p + length q) l
    = sym (drop-drop (length q) (at + length p) (put l at p)) ∙ (ap (drop (length q)) (drop_put l at p k) ∙ drop-drop (length q) (at + length p) l) in
    let e : at + length (p ++ q) ≡ at + length p + length q = rw length-append (omega arith) in
    rw (take_put l at p k, c, e, append_assoc (take at l) p (q ++ drop (at + length p + length q) l), append_assoc p q (drop (at + length p + length q) l))

-- words written as they stand, and others behind them
pub put_after : (l q : List ℕ) (at j : ℕ) → at + j ≤ length l → put l at (take j (drop at l) ++ q) ≡ put l (at + j) q
unfolding put
put_after l q at j h =
    let n : length (take at l) ≡ at = length-take-le at l (omega arith) in
    let m : length (take j (drop at l)) ≡ j = length-take-le j (drop at l) (omega (arith, length-drop at l)) in
    let t : take (at + j) l ≡ take at l ++ take j (drop at l) = rw (n, take-append-drop at l) at (take-append-add (take at l) (drop at l) j) in
    let e : at + length (take j (drop at l) ++ q) ≡ at + j + length q = rw (length-append (take j (drop at l)) q, m) (omega arith) in
    rw (e, t, append_assoc (take j (drop at l)) q (drop (at + j + length q) l))
    (sym (append_assoc (take at l) (take j (drop at l)) (q ++ drop (at + j + length q) l)))

pub put_own : (l q : List ℕ) (at : ℕ) → at + 2 ≤ length l → put l at (word_at l at ∷ word_at l (at + 1) ∷ q) ≡ put l (at + 2) q
put_own l q at h = rw (two_at l at h) at (put_after l q at 2 h)

-- two words written, and those behind as they stand
pub put_kept : (l : List ℕ) (at j a b : ℕ) → at + 2 + j ≤ length l → put l at (a ∷ b ∷ take j (drop (at + 2) l)) ≡ put l at (a ∷ b ∷ [])
unfolding put
put_kept l at j a b h =
    let n : length (take j (drop (at + 2) l)) ≡ j = length-take-le j (drop (at + 2) l) (omega (arith, length-drop (at + 2) l)) in
    let e : at + suc (suc j) ≡ at + 2 + j = omega arith in
    rw (n, e, ← drop-drop j (at + 2) l, take-append-drop j (drop (at + 2) l))

pub put_next : (w : ℕ) (l : List ℕ) (at : ℕ) (p : List ℕ) → put (w ∷ l) (1 + at) p ≡ w ∷ put l at p
unfolding put
put_next w l at p =
    let a : 1 + at ≡ suc at = omega arith in
    let b : suc at + length p ≡ suc (at + length p) = omega arith in
    rw (a, b)

pub set_behind : {A : Type 0} (p q : List A) (n : ℕ) (a : A) → set (p ++ q) (length p + n) a ≡ p ++ set q n a
set_behind [] q n a = let e : 0 + n ≡ n = omega arith in rw e
set_behind (x ∷ p) q n a = let e : suc (length p) + n ≡ suc (length p + n) = omega arith in rw (e, set_behind p q n a)
