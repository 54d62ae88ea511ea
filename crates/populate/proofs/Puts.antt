-- Words written one behind the other: what they leave, what they hold, and words written again.
use Prim.Native.Nat.{ℕ, zero, suc, ◌+◌, ◌<◌, ◌≤◌}
use native.Mathlib.Omega.{arith}
use native.Mathlib.Nat.{add-zero, zero-add}
use native.Mathlib.Numerals.{add-one}
use mathlib.Core.Path.{◌≡◌, refl, sym, ap, ◌∙◌}
use mathlib.Core.List.{List, [], ◌∷◌, ◌++◌}
use lib.ListN.{get_or, length, take, drop, set, length-set, length-drop, length-take}
use lib.Seq.{sets, sets-eq, get_or-set_same, get_or-set_other, get_or-drop, get_or-take}
use Rattle.std.specs.Prelude.{Option}
use Rattle.std.proofs.lemmas.Grind.{same_number_lists}
use Rattle.std.proofs.lemmas.List.{take_more}
use Rattle.type_check.specs.Inner.Notes.{words_of}
use Rattle.type_lists.specs.Meaning.{Unbound, TypeInner}
use Rattle.type_lists.specs.Rules.{populate}
use Rattle.populate.specs.Inner.Written.{put, Stood, Written}

pub put_append : (l : List ℕ) (to : ℕ) (xs ys : List ℕ) → put l to (xs ++ ys) ≡ put (put l to xs).1 (put l to xs).0 ys
unfolding put
put_append l to [] ys = refl
put_append l to (x ∷ xs) ys = put_append (set l to x) (to + 1) xs ys

pub put_length : (l : List ℕ) (to : ℕ) (xs : List ℕ) → length (put l to xs).1 ≡ length l
unfolding put
put_length l to [] = refl
put_length l to (x ∷ xs) = put_length (set l to x) (to + 1) xs ∙ simp length-set

pub put_to : (l : List ℕ) (to : ℕ) (xs : List ℕ) → (put l to xs).0 ≡ to + length xs
unfolding put
put_to l to [] = sym (add-zero to)
put_to l to (x ∷ xs) = put_to (set l to x) (to + 1) xs ∙ omega arith

-- words before them stay
pub put_before : (l : List ℕ) (to : ℕ) (xs : List ℕ) (k : ℕ) → k < to → get_or (put l to xs).1 k 0 ≡ get_or l k 0
unfolding put
put_before l to [] k h = refl
put_before l to (x ∷ xs) k h = put_before (set l to x) (to + 1) xs k (omega arith) ∙ get_or-set_other l to k x 0 (λ z. omega arith)

-- they stand there
pub put_holds : (l : List ℕ) (to : ℕ) (xs : List ℕ) → to + length xs ≤ length l → (k : ℕ) → k < length xs → get_or (put l to xs).1 (to + k) 0 ≡ get_or xs k 0
unfolding put
put_holds l to [] few k h = absurd (omega arith)
put_holds l to (x ∷ xs) few zero h =
    let q : to + zero ≡ to = add-zero to in
    rw q (put_before (set l to x) (to + 1) xs to (omega arith) ∙ get_or-set_same l to x 0 (omega arith))
put_holds l to (x ∷ xs) few (suc k) h =
    let q : to + suc k ≡ to + 1 + k = omega arith in
    let r : length (set l to x) ≡ length l = simp length-set in
    rw q (put_holds (set l to x) (to + 1) xs (omega arith) k (omega arith))

put_sets : (l : List ℕ) (to : ℕ) (ws : List ℕ) → (put l to ws).1 ≡ sets l to ws
unfolding put
put_sets l to [] = refl
put_sets l to (w ∷ ws) = put_sets (set l to w) (to + 1) ws ∙ ap (λ (n : ℕ). sets (set l to w) n ws) (add-one to)

-- from the start of a list on
pub put_first : (l ws : List ℕ) → length ws ≤ length l → (put l 0 ws).1 ≡ ws ++ drop (length ws) l
put_first l ws h =
    let k : 0 + length ws ≤ length l = omega arith in
    put_sets l 0 ws ∙ sets-eq ws l 0 k ∙ rw zero-add

-- ---- words written again

-- they are the words that stand there
pub stands_as : (l ws : List ℕ) (from : ℕ) → from + length ws ≤ length l → ((k : ℕ) → k < length ws → get_or l (from + k) 0 ≡ get_or ws k 0) → take (length ws) (drop from l) ≡ ws
stands_as l ws from h same =
    let n : length (take (length ws) (drop from l)) ≡ length ws = simp (length-take, length-drop) (omega arith) in
    same_number_lists (take (length ws) (drop from l)) ws n λ k i.
    let j : k < length ws = omega arith in
    get_or-take (length ws) (drop from l) k 0 j ∙ get_or-drop from l k 0 ∙ same k j

-- the loop: its start, one word more, its end
pub again_start : (l : List ℕ) (first to : ℕ) → (to + 0, l) ≡ put l to (take 0 (drop first l))
unfolding put
again_start l first to = rw (add-zero to)

module _ (l later : List ℕ) (first to count i : ℕ) (inv : (to + i, later) ≡ put l to (take i (drop first l))) where
  pub again_on : first + count ≤ to → to + count ≤ length l → i < count → (to + (i + 1), set later (to + i) (get_or later (first + i) 0)) ≡ put l to (take (i + 1) (drop first l))
  unfolding put
  again_on h k o =
      let n : i < length (drop first l) = simp length-drop (omega arith) in
      let z : to + (i + 1) ≡ to + i + 1 = omega arith in
      let a : later ≡ (put l to (take i (drop first l))).1 = ap (λ (p : ℕ × List ℕ). p.1) inv in
      let x : get_or later (first + i) 0 ≡ get_or (drop first l) i 0 = rw a (put_before l to (take i (drop first l)) (first + i) (omega arith)) ∙ sym (get_or-drop first l i 0) in
      rw (take_more (drop first l) i 0 n, put_append l to (take i (drop first l)) (get_or (drop first l) i 0 ∷ []), ← inv, x, z)

  pub again_done : i ≤ count → count ≤ i → (to + count, later) ≡ put l to (take count (drop first l))
  again_done h k = let z : count ≡ i = omega arith in rw z inv

-- ---- the table of what was written

module _ (types : List TypeInner) where
  stood_kept : (out later ws vs : List ℕ) (from to r : ℕ) → (r, later) ≡ put out to ws → Stood out from vs to → Stood later from vs r
  stood_kept out later ws vs from to r e s =
      let a : r ≡ to + length ws = ap (λ (p : ℕ × List ℕ). p.0) e ∙ put_to out to ws in
      let b : later ≡ (put out to ws).1 = ap (λ (p : ℕ × List ℕ). p.1) e in
      record {
        inside = omega (arith, s.inside);
        same = λ k h. rw b (put_before out to ws (from + k) (omega (arith, s.inside)) ∙ s.same k h);
      }

  pub written_kept : (written : List (Option ℕ)) (out later ws : List ℕ) (to r : ℕ) → (r, later) ≡ put out to ws → Written types written out to → Written types written later r
  written_kept written out later ws to r e s = record { each = λ n from h q. stood_kept out later ws (words_of (populate types n Unbound)) from to r e (s.each n from h q) }
