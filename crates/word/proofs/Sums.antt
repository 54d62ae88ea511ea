-- Laws of the closing sum.
use Rattle.std.proofs.Common.{◌≡◌, ℕ, ◌+◌, ◌-◌, ◌%◌, ◌^◌, ◌<◌, List, [], ◌∷◌, ◌++◌, length, get_or, take, zero, suc, refl, add-one, arith}
use lib.Seq.{take_at}
use Rattle.std.specs.List.{fold}
use Rattle.word.specs.Words.{sum_of, closing_sum}

pub sum_append : (xs ys : List ℕ) → sum_of (xs ++ ys) ≡ sum_of xs + sum_of ys
unfolding sum_of
sum_append [] ys = omega arith
sum_append (x ∷ xs) ys = omega (arith, sum_append xs ys)

-- words added up one by one, with carries dropped at each
abbrev pub added : List ℕ → ℕ → ℕ
added ws total = fold (λ total w. (total + w) % 2 ^ 32) total ws

added_up : (ws : List ℕ) (total : ℕ) → total < 2 ^ 32 → added ws total ≡ (total + sum_of ws) % 2 ^ 32
unfolding sum_of
added_up [] total h = omega arith
added_up (w ∷ ws) total h = omega (arith, added_up ws ((total + w) % 2 ^ 32) (omega arith))

pub added_more : (ws : List ℕ) (i total : ℕ) → i < length ws → added (take (i + 1) ws) total ≡ (added (take i ws) total + get_or ws i 0) % 2 ^ 32
added_more ws i total h = rw add-one (go ws i total h)
  where
    go : (ws : List ℕ) (i total : ℕ) → i < length ws → added (take (suc i) ws) total ≡ (added (take i ws) total + get_or ws i 0) % 2 ^ 32
    go [] i total h = absurd (omega arith)
    go (w ∷ ws) zero total h = refl
    go (w ∷ ws) (suc i) total h = go ws i ((total + w) % 2 ^ 32) (omega arith)

-- the words before the last, added up
pub sum_added : (s before : List ℕ) (last : ℕ) → s ≡ before ++ (last ∷ []) → length before + 1 ≡ length s → added before 0 ≡ closing_sum s
unfolding closing_sum
sum_added s before last e n =
    let k : length before ≡ length s - 1 = omega arith in
    let t : take (length s - 1) s ≡ before = rw e (take_at before (last ∷ []) (length (before ++ (last ∷ [])) - 1) (rw e at k)) in
    rw t (omega (arith, added_up before 0 (omega arith)))

pub sum_none : (s : List ℕ) → length s ≡ 0 → 0 ≡ closing_sum s
unfolding closing_sum sum_of
sum_none [] h = refl
sum_none (w ∷ ws) h = absurd (omega arith)
