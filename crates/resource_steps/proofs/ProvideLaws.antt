-- The ways of resources through a provided layout.
use Rattle.std.proofs.Common.{Result, Ok, Err}
use Prim.Native.Nat.{ℕ, ◌+◌, ◌^◌, ◌<◌, ◌≤◌}
use native.Mathlib.Omega.{arith}
use mathlib.Core.Path.{◌≡◌, refl, sym, ◌∙◌}
use mathlib.Core.Bool.{Bool, true, false, not, ◌&&◌, true≢false}
use mathlib.Core.List.{List}
use lib.Dec.{eqb, ltb}
use lib.ListN.{length, drop}
use borrow.Author.Tests.{eq-eqb, eqb-false, ltb-true, not-true}
use Rattle.word.specs.Words.{word_at, kind_of, content_of, bits}
use Rattle.word.specs.Answers.{accepted}
use Rattle.word.specs.declared.answer.Answer.{Answer}
use Rattle.bindings.specs.Format.{place_well_formed, place_of, type_code, space_at, resource_type_of, type_encodable, space_encodable}
use Rattle.bindings.specs.Answers.{binding_answer}
use Rattle.bindings.specs.declared.types.ResourceBinding.{ResourceBinding}
use Rattle.bindings.specs.declared.types.Resource.{Resource}
use Rattle.word.proofs.Truth.{second, first}
use Rattle.layouts.specs.Meaning.{Layout}
use Rattle.sizes.specs.Meaning.{Sizes, size_has, size_fits, recorded, size_record_width}
use Rattle.places.specs.Records.{room_for}
use Rattle.interface.specs.Format.{contents}
use Rattle.interface.specs.declared.types.ShaderStage.{ShaderStage}
use Rattle.word.specs.Refusals.{answer_of, refusal_answer}
use Rattle.word.specs.declared.refusal.Refusal.{Refusal}
use Rattle.word.proofs.Both.{number_nonzero}
use Rattle.resource_steps.specs.Resources.{resource_nth, sizes_after, record_size, provide_step, ProvideResult, provide_result, provide_steps}
use Rattle.resource_steps.proofs.ResourceParts.{contents_cons, contents_none}
use Rattle.resource_steps.proofs.ResourceWalk.{one_more}
use Rattle.bindings.specs.Format.{size_limit}

-- ---- the size of a resource

-- a size that has no room is not recorded
not_recorded : (bind : ResourceBinding) (size : ℕ) (S : Sizes) (h b : Bool) → size_has bind S.records ≡ h → room_for size_record_width S.room ≡ b
    → size_fits bind S ≡ false → recorded bind size S ≡ S
unfolding recorded
not_recorded bind size S true b p q e = let z : true ≡ false = rw p at e in absurd (true≢false z)
not_recorded bind size S false true p q e = let z : true ≡ false = rw (p, q) at e in absurd (true≢false z)
not_recorded bind size S false false p q e = rw (p, q)

-- the place and the size of a buffer that words can hold
pub place_well_formed_lem : (p : ℕ) → p < 2 ^ 27 → place_well_formed (0x20000000 + p) ≡ true
place_well_formed_lem p h = eq-eqb (kind_of (0x20000000 + p)) 4 (omega arith)

module _ (w size : ℕ) (h : type_encodable (resource_type_of w size) ≡ true) (z : type_code w ≡ 0) where
  encodable_size : (ltb size size_limit && not (eqb size 0)) ≡ true
  unfolding resource_type_of type_encodable
  encodable_size = second (space_encodable (space_at (bits 4 3 w) (bits 2 0 w))) (ltb size size_limit && not (eqb size 0)) (rw (eq-eqb (type_code w) 0 z) at h)

  pub size_fits_lem : size < size_limit
  size_fits_lem = ltb-true size size_limit (first (ltb size size_limit) (not (eqb size 0)) encodable_size)

  pub size_some : 1 ≤ size
  size_some =
      let n : size ≡ 0 → ⊥ = eqb-false size 0 (not-true (eqb size 0) (second (ltb size size_limit) (not (eqb size 0)) encodable_size)) in
      omega arith

  module _ (place : ℕ) (S T : Sizes) (a : Answer) (b : Bool) (p : ℕ) (ep : p ≡ content_of place) (q : b ≡ size_fits (place_of (0x20000000 + p)) S)
      (r : T ≡ recorded (place_of (0x20000000 + p)) size S) where
    same_place_lem : place_of (0x20000000 + p) ≡ place_of place
    same_place_lem =
        let g : bits 26 23 (0x20000000 + p) ≡ bits 26 23 place = omega arith in
        let n : bits 22 0 (0x20000000 + p) ≡ bits 22 0 place = omega arith in
        rw (g, n)

    pub size_recorded_lem : b ≡ true → a ≡ accepted → sizes_after a T ≡ record_size (place_of place) (resource_type_of w size) S
    unfolding record_size resource_type_of
    size_recorded_lem t e = rw (eq-eqb (type_code w) 0 z, ← same_place_lem, ← q, t, r, e)

    pub size_full : not b ≡ true → a ≡ binding_answer 5 (place_of place) → sizes_after a T ≡ record_size (place_of place) (resource_type_of w size) S
    unfolding record_size resource_type_of
    size_full t e =
        let n : size_fits (place_of place) S ≡ false = rw (← same_place_lem) (sym q ∙ not-true b t) in
        rw (eq-eqb (type_code w) 0 z, n, r, same_place_lem, not_recorded (place_of place) size S (size_has (place_of place) S.records) (room_for size_record_width S.room) refl refl n, e)

-- ---- one after the other

-- a result behind as many resources that passed
abbrev pub provide_behind : ℕ → ProvideResult → ProvideResult
provide_behind k x = provide_result x.answer (k + x.passed) x.sizes

module _ (ws : List ℕ) (stage : ShaderStage) (L : Layout) (rs : List Resource) (k : ℕ) (S : Sizes) (goal : ProvideResult)
    (inv : goal ≡ provide_behind k (provide_steps stage L rs (contents (drop k ws)) S)) where
  module _ (i : ℕ) (T : Sizes) (o : Result Unit Refusal) (h : k < length ws) (q : i ≡ content_of (word_at ws k))
      (e : sizes_after (answer_of o) T ≡ provide_step stage L (resource_nth rs i) S) where
    pub provide_refused : (r : Refusal) → o ≡ Err r → provide_result (refusal_answer r) k T ≡ goal
    unfolding provide_steps
    provide_refused r z = let s : k + 0 ≡ k = omega arith in sym (inv ∙ rw (contents_cons ws k h, ← q, ← e, z, number_nonzero r.number, s))

    pub provide_onward : (v : Unit) → o ≡ Ok v → goal ≡ provide_behind (k + 1) (provide_steps stage L rs (contents (drop (k + 1) ws)) T)
    unfolding provide_steps
    provide_onward v z = inv ∙ rw (contents_cons ws k h, ← q, ← e, z, one_more k (provide_steps stage L rs (contents (drop (k + 1) ws)) T).passed)

  pub provide_done : length ws ≤ k → k ≤ length ws → provide_result accepted (length ws) S ≡ goal
  unfolding provide_steps
  provide_done h l = let s : k + 0 ≡ length ws = omega arith in sym (inv ∙ rw (contents_none ws k h, s))
