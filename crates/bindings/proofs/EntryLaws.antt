-- The code's ways through the reader of layout entries.
use Rattle.std.proofs.Common.{◌≡◌, ℕ, ◌+◌, ◌/◌, ◌%◌, ◌^◌, ◌<◌, ◌≤◌, Bool, false, ◌&&◌, eqb, List, length, ◌∙◌, arith, ne_eqb, eqb-true}
use lib.ListN.{get_or-eq_default}
use borrow.Author.Tests.{eqb-false}
use Rattle.word.specs.Words.{word_at, kind_of, content_of}
use Rattle.word.proofs.Truth.{by_test}
use Rattle.bindings.specs.Format.{place_of, type_code}
use Rattle.bindings.specs.Format.{fields_well_formed, binding_type_well_formed, binding_type_of, entry_well_formed, entry_of, entry_well_formed_at, entry_at}
use Rattle.bindings.specs.declared.types.ResourceBinding.{ResourceBinding}
use Rattle.bindings.specs.declared.types.BindingType.{BindingType}
use Rattle.bindings.specs.declared.types.BindGroupLayoutEntry.{BindGroupLayoutEntry}

-- a word whose kind and code are tested as one
pub type_word_lem : (w code : ℕ) (r : Bool) → w < 2 ^ 32 → code < 2 ^ 32 → (code + 288) % 2 ^ 32 ≡ w / 0x80_0000 → r ≡ fields_well_formed code w
    → r ≡ (eqb (kind_of w) 18 && binding_type_well_formed w)
unfolding binding_type_well_formed
type_word_lem w code r h k e f =
    by_test (eqb (kind_of w) 18)
    (λ t.
    let q : kind_of w ≡ 18 = eqb-true (kind_of w) 18 t in
    let c : type_code w ≡ code = omega arith in
    rw (t, c) f)
    (λ n.
    let q : kind_of w ≡ 18 → ⊥ = eqb-false (kind_of w) 18 n in
    let far : 6 < code = omega arith in
    let no : (c : ℕ) → c ≤ 6 → eqb code c ≡ false = λ c l. ne_eqb code c (λ z. omega arith) in
    rw n (f ∙ rw (no 0 (omega arith), no 1 (omega arith), no 2 (omega arith), no 4 (omega arith), no 5 (omega arith), no 6 (omega arith))))

pub entry_parts : (place w least visibility s v : ℕ) (bind : ResourceBinding) (ty : BindingType) → bind ≡ place_of place → s ≡ content_of least
    → ty ≡ binding_type_of w s → v ≡ content_of visibility → record { bind = bind; ty = ty; visibility = v } ≡ entry_of place w least visibility
unfolding entry_of
entry_parts place w least visibility s v bind ty p q e f = rw (p, e, q, f)

-- past the end every word is 0
module _ (ws : List ℕ) (at : ℕ) (h : length ws ≤ at) where
  pub well_formed_past : false ≡ entry_well_formed_at ws at
  unfolding entry_well_formed
  well_formed_past = rw (get_or-eq_default ws 0 {n = at} h)

  pub entry_past : (x : BindGroupLayoutEntry) → x ≡ entry_of 0 0 0 0 → x ≡ entry_at ws at
  entry_past x e =
      rw (
        get_or-eq_default ws 0 {n = at} h,
        get_or-eq_default ws 0 {n = at + 1} (omega arith),
        get_or-eq_default ws 0 {n = at + 2} (omega arith),
        get_or-eq_default ws 0 {n = at + 3} (omega arith),
      ) e

module _ (ws : List ℕ) (at p t s v : ℕ) (pe : p ≡ word_at ws at) (te : t ≡ word_at ws (at + 1)) (se : s ≡ word_at ws (at + 2)) (ve : v ≡ word_at ws (at + 3)) where
  pub well_formed_there : (x : Bool) → x ≡ entry_well_formed p t s v → x ≡ entry_well_formed_at ws at
  well_formed_there x e = rw (← pe, ← te, ← se, ← ve) e

  pub entry_there_lem : (x : BindGroupLayoutEntry) → x ≡ entry_of p t s v → x ≡ entry_at ws at
  entry_there_lem x e = rw (← pe, ← te, ← se, ← ve) e
