-- The code's ways to the answers over words.
use Prim.Native.Nat.{ℕ, suc, ◌-◌, ◌≤◌}
use native.Mathlib.Omega.{arith}
use mathlib.Core.Path.{◌≡◌, refl, sym, ap, ◌∙◌}
use mathlib.Core.Bool.{Bool, true, false, not}
use mathlib.Core.List.{List, [], ◌∷◌}
use lib.Dec.{eqb}
use lib.ListN.{length, drop, length-drop}
use borrow.Author.Tests.{eq-eqb, ne_eqb, not-true, not-false}
use Rattle.std.proofs.Common.{Result, Ok, Err}
use Rattle.word.specs.Choice.{pick}
use Rattle.word.specs.Words.{of_kind}
use Rattle.std.specs.Prelude.{Option, Some, None, IfSome, ◌<◌}
use Rattle.std.specs.Option.{option_eq}
use Rattle.word.specs.Parse.{Parsed, fault, got, nowhere, from, behind, rest_of}
use Rattle.word.specs.Answers.{answer, accepted, refused}
use Rattle.word.specs.declared.answer.Answer.{Answer}
use Rattle.bindings.specs.Rules.{check_binding_use, use_number, error_number, derive_binding_type}
use Rattle.bindings.specs.Format.{read_resource, resource_at, place_encodable, type_encodable, resource_encodable, format_encodable, entry_at, binding_code, least_size_of}
use Rattle.bindings.specs.Answers.{binding_answer, only_resource, only_entry, check_words, derived_answer, derive_words}
use Rattle.bindings.specs.declared.types.Resource.{Resource}
use Rattle.bindings.specs.declared.types.BindingType.{BindingType}
use Rattle.bindings.specs.declared.types.BindGroupLayoutEntry.{BindGroupLayoutEntry}
use Rattle.bindings.specs.declared.types.BindingError.{BindingError}
use Rattle.word.proofs.Truth.{second, never}
use Rattle.bindings.proofs.ReadLaws.{read_at, read_encodable}
use Rattle.bindings.proofs.DerivedTypes.{derived_encodable}

-- what the words alone are
abbrev pub Alone : List ℕ → Bool → Type 0
Alone ws b = (k : Resource → Answer) → only_resource (read_resource ws) k ≡ pick b (k (resource_at ws 0)) (refused 2)

abbrev pub EntryAlone : List ℕ → Bool → Type 0
EntryAlone ws b = (k : BindGroupLayoutEntry → Answer) → only_entry ws k ≡ pick b (k (entry_at ws 0)) (refused 3)

unread : (ws : List ℕ) (k : Resource → Answer) (p : Parsed Resource) → nowhere ≡ behind p → only_resource p k ≡ refused 2
unread ws k fault e = refl
unread ws k (got r rest) e = let z : ◌≡◌ {A = ℕ} 0 1 = cc in absurd (omega arith)

read_to : (ws : List ℕ) (n : ℕ) (k : Resource → Answer) (p : Parsed Resource) → read_resource ws ≡ p → from (drop n ws) ≡ behind p → n ≤ length ws
    → only_resource p k ≡ pick (eqb n (length ws)) (k (resource_at ws 0)) (refused 2)
read_to ws n k fault q e l = let z : ◌≡◌ {A = ℕ} 0 1 = cc in absurd (omega arith)
read_to ws n k (got r []) q e l =
    let d : drop n ws ≡ [] = cc in
    rw (eq-eqb n (length ws) (omega (arith, length-drop n ws, ap length d)), read_at ws r [] q)
read_to ws n k (got r (w ∷ rest)) q e l =
    let d : drop n ws ≡ w ∷ rest = cc in
    let m : length ws - n ≡ suc (length rest) = sym (length-drop n ws) ∙ ap length d in
    rw (ne_eqb n (length ws) (λ z. omega arith))

encodable_read : (ws l : List ℕ) (p : Parsed Resource) → read_resource ws ≡ p → from l ≡ behind p → resource_encodable (resource_at ws 0) ≡ true
encodable_read ws l fault q e = let z : ◌≡◌ {A = ℕ} 0 1 = cc in absurd (omega arith)
encodable_read ws l (got r rest) q e = ap resource_encodable (sym (read_at ws r rest q)) ∙ read_encodable ws r rest q

-- the position behind a resource, if there is one, is the end or not
pub alone_ends : (ws : List ℕ) (r : Option ℕ) (b : Bool) → b ≡ option_eq eqb r (Some (length ws)) → rest_of ws r ≡ behind (read_resource ws)
    → IfSome r (λ n. (0 < n) × (n ≤ length ws)) → Alone ws b
alone_ends ws None b t e h k = rw t (unread ws k (read_resource ws) e)
alone_ends ws (Some n) b t e h k = rw t (read_to ws n k (read_resource ws) refl e h.1)

pub alone_encodable : (ws : List ℕ) (r : Option ℕ) (b : Bool) → b ≡ option_eq eqb r (Some (length ws)) → rest_of ws r ≡ behind (read_resource ws)
    → b ≡ true → resource_encodable (resource_at ws 0) ≡ true
alone_encodable ws None b t e u = never false (sym t ∙ u) refl
alone_encodable ws (Some n) b t e u = encodable_read ws (drop n ws) (read_resource ws) refl e

-- ---- the answers

abbrev checked : Resource → BindGroupLayoutEntry → Answer
checked r e = binding_answer (use_number (check_binding_use r.ty e.ty)) r.bind

abbrev derived : Bool → Resource → Answer
derived named r = derived_answer (derive_binding_type r.ty named) r.bind

module _ (ws es : List ℕ) (b : Bool) (alone : Alone ws b) where
  pub check_no_resource : (x : Answer) → not b ≡ true → x ≡ refused 2 → x ≡ check_words ws es
  unfolding check_words
  check_no_resource x n h = h ∙ sym (alone _ ∙ rw (not-true b n))

  module _ (c : Bool) (m : not b ≡ false) (other : EntryAlone es c) where
    pub check_no_entry : (x : Answer) → not c ≡ true → x ≡ refused 3 → x ≡ check_words ws es
    unfolding check_words
    check_no_entry x n h = h ∙ sym (alone _ ∙ rw (not-false b m) (other _ ∙ rw (not-true c n)))

    module _ (r : Resource) (e : BindGroupLayoutEntry) (l : not c ≡ false) (p : r ≡ resource_at ws 0) (q : e ≡ entry_at es 0) where
      found : (x : Answer) → x ≡ checked r e → x ≡ check_words ws es
      unfolding check_words
      found x k = k ∙ ap (λ r. checked r e) p ∙ ap (checked (resource_at ws 0)) q ∙ sym (alone _ ∙ rw (not-false b m) (other _ ∙ rw (not-false c l)))

      pub check_served : (u : Result Unit BindingError) (x : Answer) → u ≡ check_binding_use r.ty e.ty → u ≡ Ok tt → x ≡ accepted → x ≡ check_words ws es
      check_served u x v w h = found x (rw (← v, w) h)

      pub check_refused : (u : Result Unit BindingError) (error : BindingError) (n : ℕ) (x : Answer) → u ≡ check_binding_use r.ty e.ty → u ≡ Err error
          → n ≡ error_number error → x ≡ binding_answer n r.bind → x ≡ check_words ws es
      check_refused u error n x v w z h = found x (rw (← v, w, ← z) h)

module _ (ws : List ℕ) (named b : Bool) (alone : Alone ws b) where
  pub derive_no_resource : (x : Answer) → not b ≡ true → x ≡ refused 2 → x ≡ derive_words ws named
  unfolding derive_words
  derive_no_resource x n h = h ∙ sym (alone _ ∙ rw (not-true b n))

  module _ (r : Resource) (d : Result BindingType BindingError) (m : not b ≡ false) (p : r ≡ resource_at ws 0) (q : d ≡ derive_binding_type r.ty named) where
    pub derive_found : (ty : BindingType) (y z : ℕ) (x : Answer) → d ≡ Ok ty → y ≡ of_kind 18 (binding_code ty) → z ≡ of_kind 6 (least_size_of ty)
        → x ≡ answer 0 y z 0 → x ≡ derive_words ws named
    unfolding derive_words
    derive_found ty y z x e v w h =
        let k : x ≡ derived named r = rw (← q, e, ← v, ← w) h in
        k ∙ ap (derived named) p ∙ sym (alone _ ∙ rw (not-false b m))

    pub derive_none : (error : BindingError) (n : ℕ) (x : Answer) → d ≡ Err error → n ≡ error_number error → x ≡ binding_answer n r.bind → x ≡ derive_words ws named
    unfolding derive_words
    derive_none error n x e z h =
        let k : x ≡ derived named r = rw (← q, e, ← z) h in
        k ∙ ap (derived named) p ∙ sym (alone _ ∙ rw (not-false b m))

-- what is derived from a resource that was read can be written
pub derive_encodable : (ws : List ℕ) (named b : Bool) (r : Resource) (d : Result BindingType BindingError) (ty : BindingType) → not b ≡ false
    → (b ≡ true → resource_encodable (resource_at ws 0) ≡ true) → r ≡ resource_at ws 0 → d ≡ derive_binding_type r.ty named → d ≡ Ok ty → format_encodable ty ≡ true
derive_encodable ws named b r d ty m encodable p q e =
    let h : resource_encodable r ≡ true = ap resource_encodable p ∙ encodable (not-false b m) in
    derived_encodable r.ty named ty (second (place_encodable r.bind) (type_encodable r.ty) h) (sym q ∙ e)
