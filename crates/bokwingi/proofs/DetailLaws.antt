-- The ways on through the functions that hand an answer out.
use Prim.Native.Nat.{ℕ, ◌<◌}
use mathlib.Core.Path.{◌≡◌, refl, ap}
use mathlib.Core.List.{List, [], ◌∷◌}
use native.Mathlib.Omega.{arith}
use lib.ListN.{length, set, length-set}
use Rattle.word.specs.declared.answer.Answer.{Answer}
use Rattle.stage.specs.Meaning.{Outcome, outcome}
use Rattle.bokwingi.specs.Details.{with_details, Handed}

-- ---- one law for each room: none, one word, two, three or more

pub room_none : (a : Answer) (d : List ℕ) → length d ≡ 0 → Handed a a.number d d
unfolding with_details
room_none a [] e = record { result = refl; details = refl }
room_none a (x ∷ d) e = absurd (omega (arith, e))

pub room_one : (a : Answer) (d : List ℕ) → (length d ≡ 0 → ⊥) → length (set d 0 a.first) ≡ 1 → Handed a a.number d (set d 0 a.first)
unfolding with_details
room_one a [] n e = absurd (n refl)
room_one a (x ∷ []) n e = record { result = refl; details = refl }
room_one a (x ∷ y ∷ d) n e = absurd (omega (arith, e))

pub room_two : (a : Answer) (d : List ℕ) → (length d ≡ 0 → ⊥) → (length (set d 0 a.first) ≡ 1 → ⊥) → length (set (set d 0 a.first) 1 a.second) ≡ 2
    → Handed a a.number d (set (set d 0 a.first) 1 a.second)
unfolding with_details
room_two a [] n m e = absurd (n refl)
room_two a (x ∷ []) n m e = absurd (m refl)
room_two a (x ∷ y ∷ []) n m e = record { result = refl; details = refl }
room_two a (x ∷ y ∷ z ∷ d) n m e = absurd (omega (arith, e))

pub room_three : (a : Answer) (d : List ℕ) → (length d ≡ 0 → ⊥) → (length (set d 0 a.first) ≡ 1 → ⊥) → (length (set (set d 0 a.first) 1 a.second) ≡ 2 → ⊥)
    → Handed a a.number d (set (set (set d 0 a.first) 1 a.second) 2 a.third)
unfolding with_details
room_three a [] n m k = absurd (n refl)
room_three a (x ∷ []) n m k = absurd (m refl)
room_three a (x ∷ y ∷ []) n m k = absurd (k refl)
room_three a (x ∷ y ∷ z ∷ d) n m k = record { result = refl; details = refl }

-- the room that a further detail asks for
pub room_past_one : (d : List ℕ) (v : ℕ) → (length d ≡ 0 → ⊥) → (length (set d 0 v) ≡ 1 → ⊥) → 1 < length (set d 0 v)
room_past_one d v n m = omega (arith, n, m, length-set d 0 v)

pub room_past_two : (d : List ℕ) (v w : ℕ) → (length d ≡ 0 → ⊥) → (length (set d 0 v) ≡ 1 → ⊥) → (length (set (set d 0 v) 1 w) ≡ 2 → ⊥)
    → 2 < length (set (set d 0 v) 1 w)
room_past_two d v w n m k = omega (arith, n, m, k, length-set d 0 v, length-set (set d 0 v) 1 w)

-- ---- the answer of a call, and what a stage check came to

pub handed_on : (a b : Answer) (r : ℕ) (before after : List ℕ) → a ≡ b → Handed a r before after → Handed b r before after
handed_on a b r before after e h = rw (← e) h

module _ (a : Answer) (layout sizes out : List ℕ) (x : Outcome) (e : outcome a layout sizes out ≡ x) where
  pub stage_handed : (r : ℕ) (before after : List ℕ) → Handed a r before after → Handed x.answer r before after
  stage_handed r before after h = handed_on a x.answer r before after (ap (λ (y : Outcome). y.answer) e) h

  pub stage_layout : layout ≡ x.layout
  stage_layout = ap (λ (y : Outcome). y.layout) e

  pub stage_sizes : sizes ≡ x.sizes
  stage_sizes = ap (λ (y : Outcome). y.sizes) e

  pub stage_out_lem : out ≡ x.out
  stage_out_lem = ap (λ (y : Outcome). y.out) e

-- ---- an answer and one list

module _ (a : Answer) (out : List ℕ) (x : Answer × List ℕ) (e : (a, out) ≡ x) where
  pub pair_handed : (r : ℕ) (before after : List ℕ) → Handed a r before after → Handed x.0 r before after
  pair_handed r before after h = handed_on a x.0 r before after (ap (λ (y : Answer × List ℕ). y.0) e) h

  pub pair_out : out ≡ x.1
  pair_out = ap (λ (y : Answer × List ℕ). y.1) e
