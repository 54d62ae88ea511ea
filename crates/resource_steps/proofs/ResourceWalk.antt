-- The resources that the indexes of an entry point name, one after the other.
use Prim.Native.Nat.{ℕ, suc, ◌+◌, ◌<◌}
use native.Mathlib.Omega.{arith}
use mathlib.Core.Path.{◌≡◌}
use mathlib.Core.Bool.{true}
use mathlib.Core.List.{List, ◌∷◌}
use lib.Dec.{ltb}
use lib.ListN.{length, drop}
use borrow.Author.Tests.{ltb-true}
use Rattle.word.specs.Words.{word_at, content_of}
use Rattle.word.specs.Lists.{every}
use Rattle.word.proofs.Lists.{first_passes, rest_passes}
use Rattle.interface.specs.Format.{contents}
use Rattle.resource_steps.specs.Inner.Given.{each_below}
use Rattle.resource_steps.proofs.ResourceParts.{contents_cons}

module _ (ws : List ℕ) (count k : ℕ) (b : each_below count (contents (drop k ws)) ≡ true) (h : k < length ws) where
  listed : each_below count (content_of (word_at ws k) ∷ contents (drop (k + 1) ws)) ≡ true
  listed = rw (contents_cons ws k h) at b

  pub below_here : (i : ℕ) → i ≡ content_of (word_at ws k) → i < count
  unfolding every
  below_here i q =
      rw q
      (ltb-true (content_of (word_at ws k)) count
      (first_passes (ltb (content_of (word_at ws k)) count) (each_below count (contents (drop (k + 1) ws))) listed))

  pub below_rest : each_below count (contents (drop (k + 1) ws)) ≡ true
  unfolding every
  below_rest = rest_passes (ltb (content_of (word_at ws k)) count) (each_below count (contents (drop (k + 1) ws))) listed

-- one more of them passed
pub one_more : (k p : ℕ) → k + suc p ≡ k + 1 + p
one_more k p = omega arith
