-- As many records as a count says: what a reader of them read, where it stopped, and one record of those that are left.
use Prim.Native.Nat.{ℕ, zero, suc, ◌-◌}
use native.Mathlib.Numerals.{sub-one}
use mathlib.Core.Path.{◌≡◌, refl, sym, ap}
use mathlib.Core.List.{List, [], ◌∷◌}
use lib.ListN.{length}
use Rattle.word.specs.Parse.{Parsed, got, several}
use Rattle.word.proofs.ParseReads.{Stands, next_then}
use Rattle.interface.specs.Inner.Parts.{records_from, end_from}

-- a reader reads at each position what stands there, and stops behind it
pub record ReadsAt {A : Type 0} (P t : List ℕ) (read : List ℕ → Parsed A) (record_at : ℕ → A) (after : ℕ → ℕ) : Type 0 where
  pub reads : (at : ℕ) (ws : List ℕ) → Stands P t at ws → (a : A) (rest : List ℕ) → read ws ≡ got a rest → (a ≡ record_at at) × Stands P t (after at) rest

pub several_records : {A : Type 0} (P t : List ℕ) (read : List ℕ → Parsed A) (record_at : ℕ → A) (after : ℕ → ℕ) → ReadsAt P t read record_at after
    → (n at : ℕ) (ws : List ℕ) → Stands P t at ws → (all : List A) (rest : List ℕ) → several n read ws ≡ got all rest
    → (all ≡ records_from record_at after n at) × Stands P t (end_from after n at) rest
unfolding several records_from end_from
several_records P t read record_at after h zero at ws s all rest e =
    let ww : [] ≡ all = cc in
    let wr : ws ≡ rest = cc in
    (sym ww, rw (← wr) s)
several_records P t read record_at after h (suc n) at ws s all rest e =
    next_then (read ws) _ all rest e λ a r e₁ g₁.
    next_then (several n read r) _ all rest g₁ λ others r₂ e₂ g₂.
    let (p, s₁) = h.reads at ws s a r e₁ in
    let (o, s₂) = several_records P t read record_at after h n (after at) r s₁ others r₂ e₂ in
    let ww : a ∷ others ≡ all = cc in
    let wr : r₂ ≡ rest = cc in
    (cc, rw (← wr) s₂)

-- ---- one record of those that are left

pub records_left : {A : Type 0} (record_at : ℕ → A) (after : ℕ → ℕ) (n at : ℕ) → (n ≡ 0 → ⊥)
    → records_from record_at after n at ≡ record_at at ∷ records_from record_at after (n - 1) (after at)
unfolding records_from
records_left record_at after zero at h = absurd (h refl)
records_left record_at after (suc n) at h = rw sub-one

pub records_none : {A : Type 0} (record_at : ℕ → A) (after : ℕ → ℕ) (n at : ℕ) → n ≡ 0 → records_from record_at after n at ≡ []
unfolding records_from
records_none record_at after n at h = rw h

pub end_left : (after : ℕ → ℕ) (n at : ℕ) → (n ≡ 0 → ⊥) → end_from after n at ≡ end_from after (n - 1) (after at)
unfolding end_from
end_left after zero at h = absurd (h refl)
end_left after (suc n) at h = rw sub-one

pub records_length : {A : Type 0} (record_at : ℕ → A) (after : ℕ → ℕ) (n at : ℕ) → length (records_from record_at after n at) ≡ n
unfolding records_from
records_length record_at after zero at = refl
records_length record_at after (suc n) at = ap suc (records_length record_at after n (after at))
