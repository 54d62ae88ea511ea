-- A varying that was read is the one that stands at its position.
use Prim.Native.Nat.{ℕ, zero, suc, ◌+◌}
use native.Mathlib.Omega.{arith}
use mathlib.Core.Path.{◌≡◌, refl, ap, ◌∙◌}
use mathlib.Core.Bool.{Bool, true, false}
use mathlib.Core.List.{List, [], ◌∷◌}
use lib.ListN.{get_or, drop}
use lib.Seq.{drop-drop, get_or-drop}
use Rattle.word.specs.Words.{word_at}
use Rattle.word.specs.Parse.{got, one}
use Rattle.word.proofs.ParseReads.{Stands, next_then, picked, word_stands, one_stands}
use Rattle.varying.specs.Format.{location_well_formed, var_well_formed}
use Rattle.interface.specs.Format.{read_varying, varying_behind, local, built_in_of, built_in_well_formed}
use Rattle.interface.specs.Inner.Reads.{varying, varying_width, varyings}
use Rattle.interface.specs.Inner.Parts.{records_from, varying_end}
use Rattle.interface.specs.declared.types.Varying.{Varying}
use Rattle.interface.specs.declared.types.Varying.TheVariants as Var
use Rattle.interface.proofs.ReadsRecords.{ReadsAt}

module _ (P t : List ℕ) (codes at : ℕ) (v : Varying) (w : ℕ) (r rest : List ℕ) (s : Stands P t at (w ∷ r)) where
  first : word_at (drop at P) 0 ≡ w
  first = ap (λ (l : List ℕ). get_or l 0 0) s.here

  varying_by : (b : Bool) → location_well_formed w ≡ b → varying_behind codes w r ≡ got v rest → (v ≡ varying (drop at P)) × Stands P t (varying_end P at) rest
  varying_by true h e =
      next_then (one var_well_formed r) (λ var rest. got (local w var) rest) v rest (rw h at e) λ var r₂ e₁ g₁.
      let (p, q, s₂) = one_stands P t (at + 1) var_well_formed var r r₂ (word_stands P t at w r s).1 e₁ in
      let k : word_at (drop at P) 1 ≡ var = get_or-drop at P 1 0 ∙ q in
      let wr : r₂ ≡ rest = cc in
      let m : at + 1 + 1 ≡ at + 2 = omega arith in
      (rw (first, k, h) (cc), rw (first, h, ← m, ← wr) s₂)
  varying_by false h e =
      let (p, q) = picked (built_in_well_formed codes w) (got (Var.BuiltIn (built_in_of w)) r) v rest (rw h at e) in
      let wr : r ≡ rest = cc in
      (rw (first, h) (cc), rw (first, h, ← wr) (word_stands P t at w r s).1)

pub varying_stands : (P t : List ℕ) (codes : ℕ) → ReadsAt P t (read_varying codes) (λ at. varying (drop at P)) (varying_end P)
unfolding read_varying
varying_stands P t codes = record { reads = λ at ws s v rest. behind at ws s v rest }
  where
    behind : (at : ℕ) (ws : List ℕ) → Stands P t at ws → (v : Varying) (rest : List ℕ) → read_varying codes ws ≡ got v rest
        → (v ≡ varying (drop at P)) × Stands P t (varying_end P at) rest
    behind at [] s v rest e = absurd (let z : ◌≡◌ {A = ℕ} 0 1 = cc in omega arith)
    behind at (w ∷ r) s v rest e = varying_by P t codes at v w r rest s (location_well_formed w) refl e

-- varyings from a position on
pub varyings_from : (P : List ℕ) (n at : ℕ) → records_from (λ at. varying (drop at P)) (varying_end P) n at ≡ varyings n (drop at P)
unfolding records_from varyings
varyings_from P zero at = refl
varyings_from P (suc n) at = rw (varyings_from P n (varying_end P at), drop-drop (varying_width (drop at P)) at P)
