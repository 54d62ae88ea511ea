-- The code's ways through a binding, by positions.
use Prim.Native.Nat.{ℕ, ◌+◌, ◌≤◌}
use native.Mathlib.Omega.{arith}
use mathlib.Core.Path.{◌≡◌, refl, ◌∙◌}
use mathlib.Core.Bool.{Bool, true, false}
use mathlib.Core.List.{List, [], ◌∷◌}
use borrow.Author.Tests.{ne_eqb}
use lib.ListN.{get_or, length, drop}
use Rattle.word.specs.Words.{word_at, kind_of, of_kind}
use Rattle.word.specs.Parse.{nowhere, from, behind}
use Rattle.word.proofs.Parse.{first_of, others_of, one_fault, one_got, one_in}
use Rattle.varying.specs.Format.{location_well_formed}
use Rattle.type_lists.specs.Format.{bound_well_formed, built_in_bound, binding_behind, read_binding}

bound_zero : bound_well_formed 0 ≡ false
unfolding bound_well_formed
bound_zero = refl

-- by the first word, which is 0 behind the end
by_head : (l : List ℕ) → read_binding l ≡ binding_behind (get_or l 0 0) (drop 1 l)
unfolding read_binding
by_head [] = refl
by_head (w ∷ l) = refl

module _ (ws : List ℕ) (at w x : ℕ) (e : w ≡ word_at ws at) (k : x ≡ kind_of w) where
  binding_reads : read_binding (drop at ws) ≡ binding_behind w (drop (at + 1) ws)
  binding_reads = by_head (drop at ws) ∙ rw (first_of ws at, ← e, others_of ws at)

  -- ---- none

  pub none_good : w ≡ of_kind 6 0 → from (drop (at + 1) ws) ≡ behind (read_binding (drop at ws))
  none_good q = rw (binding_reads, q)

  pub none_bad : x ≡ 6 → (w ≡ of_kind 6 0 → ⊥) → nowhere ≡ behind (read_binding (drop at ws))
  none_bad z q = rw (binding_reads, ne_eqb w (of_kind 6 0) q, ← k, z)

  -- ---- a location

  module _ (z : x ≡ 12) (v : ℕ) (b : Bool) (f : v ≡ word_at ws (at + 1)) (g : b ≡ bound_well_formed v) where
    pub local_good : b ≡ true → from (drop (at + 2) ws) ≡ behind (read_binding (drop at ws))
    local_good t = let m : at + 1 + 1 ≡ at + 2 = omega arith in rw (binding_reads, ← k, z, one_got bound_well_formed ws (at + 1) v b f g t bound_zero, m)

    pub local_in : b ≡ true → at + 2 ≤ length ws
    local_in t = omega (arith, one_in bound_well_formed ws (at + 1) v b f g t bound_zero)

    pub local_bad : b ≡ false → nowhere ≡ behind (read_binding (drop at ws))
    local_bad t = rw (binding_reads, ← k, z, one_fault bound_well_formed ws (at + 1) v b f g t)

  -- ---- a built-in

  module _ (z : x ≡ 14) (b : Bool) (g : b ≡ built_in_bound w) where
    no_location : location_well_formed w ≡ false
    no_location = rw (← k, z)

    pub built_in_good : b ≡ true → from (drop (at + 1) ws) ≡ behind (read_binding (drop at ws))
    built_in_good t = rw (binding_reads, no_location, ← g, t)

    pub built_in_bad : b ≡ false → nowhere ≡ behind (read_binding (drop at ws))
    built_in_bad t =
        let d : w ≡ of_kind 6 0 → ⊥ = λ q. omega arith in
        rw (binding_reads, no_location, ← g, t, ne_eqb w (of_kind 6 0) d)

  -- ---- no binding

  pub other_bad : (x ≡ 6 → ⊥) → (x ≡ 12 → ⊥) → (x ≡ 14 → ⊥) → nowhere ≡ behind (read_binding (drop at ws))
  other_bad p q r =
      let d : w ≡ of_kind 6 0 → ⊥ = λ s. p (omega arith) in
      rw (binding_reads, ne_eqb w (of_kind 6 0) d, ← k, ne_eqb x 12 q, ne_eqb x 14 r)
