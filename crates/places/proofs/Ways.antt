-- The code's ways through tests joined by `&&`, and through a loop that tests each record.
use Prim.Native.Nat.{ℕ, ◌+◌, ◌-◌, ◌*◌, ◌<◌, ◌≤◌}
use native.Mathlib.Omega.{arith}
use mathlib.Core.Path.{◌≡◌, sym, ◌∙◌}
use mathlib.Core.Bool.{Bool, true, false, not, ◌&&◌}
use mathlib.Core.List.{List}
use lib.ListN.{drop}
use borrow.Author.Tests.{not-true, not-false}
use Rattle.places.specs.Records.{each}
use Rattle.places.proofs.Records.{each_at, each_none}
use Rattle.places.proofs.Words.{slice_from, slice_from_is}

-- a test that a call answered: it fails, or what is left decides
module _ (b test rest : Bool) (e : b ≡ test) where
  pub test_fails : not b ≡ true → false ≡ (test && rest)
  test_fails h = rw (← e, not-true b h)

  pub test_passes : (r : Bool) → not b ≡ false → r ≡ rest → r ≡ (test && rest)
  test_passes r h k = rw (← e, not-false b h) k

-- a loop over the records: one fails, one more passes, all have passed
module _ (width n i : ℕ) (test : List ℕ → Bool) (l : List ℕ) (goal : Bool) (inv : goal ≡ each width test (n - i) (drop (width * i) l)) where
  module _ (h : i < n) (b : Bool) (e : b ≡ test (slice_from l (width * i))) where
    tested : b ≡ test (drop (width * i) l)
    tested = rw slice_from_is at e

    pub each_fails : not b ≡ true → false ≡ goal
    each_fails f = sym (inv ∙ rw (each_at width n i test l h, ← tested, not-true b f))

    pub each_onward : not b ≡ false → goal ≡ each width test (n - (i + 1)) (drop (width * (i + 1)) l)
    each_onward t = inv ∙ rw (each_at width n i test l h, ← tested, not-false b t)

  pub each_ended : n ≤ i → true ≡ goal
  each_ended h = let k : n - i ≡ 0 = omega arith in sym (inv ∙ each_none width test (n - i) (drop (width * i) l) k)
