-- The ways on through a stage check: its refusals in order, the resources, the judgement, the list out.
use Prim.Native.Nat.{ℕ}
use mathlib.Core.Path.{◌≡◌, sym, ap, ◌∙◌}
use mathlib.Core.Bool.{Bool, true, false, ◌&&◌}
use mathlib.Core.List.{List}
use native.Mathlib.Omega.{arith}
use Rattle.std.proofs.Common.{Result, Ok, Err}
use Rattle.word.specs.Refusals.{answer_of, refusal_answer}
use Rattle.word.specs.declared.refusal.Refusal.{Refusal}
use Rattle.word.proofs.Both.{number_nonzero}
use Rattle.word.specs.declared.answer.Answer.{Answer}
use Rattle.word.specs.Answers.{refused, both}
use Rattle.word.proofs.Truth.{by_test}
use Rattle.layouts.specs.Meaning.{Layout}
use Rattle.sizes.specs.Meaning.{Sizes}
use Rattle.stage_lists.specs.Meaning.{StageIo}
use lib.Dec.{eqb}
use Rattle.layouts.specs.Format.{layout_well_formed, decode_layout}
use Rattle.sizes.specs.Format.{sizes_well_formed, decode_sizes}
use Rattle.stage_lists.specs.Format.{decode_stage}
use Rattle.layouts.proofs.LayoutLists as layouts
use Rattle.sizes.proofs.SizeLists as sizes
use Rattle.interface.specs.Meaning.{EntryPoint, Interface}
use Rattle.interface.specs.Format.{Decoded, Damaged, Malformed, Pack, decode, decoded_number, interface_of}
use Rattle.output_steps.specs.declared.types.Request.{Request}
use Rattle.stage.specs.declared.types.Codes.{Codes}
use Rattle.stage.specs.Meaning.{Lent, lent, Call, call, Outcome, outcome, and_then}
use Rattle.resource_steps.specs.Meaning.{State, state}
use Rattle.resource_steps.specs.Resources.{resource_steps}
use Rattle.stage.specs.Inner.Bindings.{binding_steps}
use Rattle.stage.specs.Stage.{pair_step, input_walk, behind_pairs, judgement, stage_body, lists_good, codes_good, call_good, unchanged, handed_out, finish, run_body, on_named, on_decoded, check_stage}

-- ---- the body

-- a step, a judgement of what it left and one that looks at nothing
two_behind : (x : State) (p : Layout → Answer) (b : Answer)
    → and_then x (λ L S. state (both (p L) b) L S) ≡ and_then (and_then x (λ L S. state (p L) L S)) (λ L S. state b L S)
two_behind x p b =
    by_test (eqb x.answer.number 0)
    (λ t. rw t (by_test (eqb (p x.layout).number 0) (λ u. rw u) (λ m. rw m)))
    (λ n. rw (n, n))

body_is : (derived : Bool) (q : Request) (i : Interface) (e : EntryPoint) (inputs : StageIo) (L : Layout) (S : Sizes)
    → stage_body derived q i e inputs L S ≡ and_then (binding_steps derived q.stage i e L S) (λ L S. state (behind_pairs q i e inputs) L S)
unfolding stage_body judgement
body_is derived q i e inputs L S =
    two_behind (resource_steps q.stage derived i.resources e.pairs e.resources L S) (λ L. pair_step derived i.resources e L) (behind_pairs q i e inputs)

-- by a request that was read from the codes
module _ (derived : Bool) (q : Request) (t : Lent) (i : Interface) (e : EntryPoint) (bindings : Result Unit Refusal) (l s : List ℕ) (r : Request) (er : r ≡ q)
    (steps : state (answer_of bindings) (decode_layout l) (decode_sizes s) ≡ binding_steps derived r.stage i e (decode_layout t.layout) (decode_sizes t.sizes))
    (fl : layout_well_formed l ≡ true) (fs : sizes_well_formed s ≡ true) where
  abbrev body : State
  body = stage_body derived q i e (decode_stage t.inputs) (decode_layout t.layout) (decode_sizes t.sizes)

  body_on : body ≡ and_then (state (answer_of bindings) (decode_layout l) (decode_sizes s)) (λ L S. state (behind_pairs q i e (decode_stage t.inputs)) L S)
  body_on =
      body_is derived q i e (decode_stage t.inputs) (decode_layout t.layout) (decode_sizes t.sizes)
      ∙ ap (λ (x : State). and_then x (λ L S. state (behind_pairs q i e (decode_stage t.inputs)) L S)) (sym (rw er at steps))

  pub body_refused : (refusal : Refusal) (a : Answer) (o : List ℕ) → o ≡ t.out → bindings ≡ Err refusal → a ≡ refusal_answer refusal
      → outcome a l s o ≡ run_body derived q t i e
  unfolding run_body finish
  body_refused refusal a o eo z h =
      rw (eo, h, body_on, z, number_nonzero refusal.number, number_nonzero refusal.number, layouts.encode_decode l fl, sizes.encode_decode s fs)

  pub body_went : (b : Answer) (o : List ℕ) (v : Unit) → bindings ≡ Ok v → b ≡ behind_pairs r i e (decode_stage t.inputs)
      → o ≡ handed_out b r.stage e (input_walk r e (decode_stage t.inputs)).walk t.out → outcome b l s o ≡ run_body derived q t i e
  unfolding run_body finish
  body_went b o v z eb eo =
      let k : b ≡ behind_pairs q i e (decode_stage t.inputs) = rw (← er) eb in
      rw (body_on, z, ← k, layouts.encode_decode l fl, sizes.encode_decode s fs, ← er, ← eo)

-- ---- the refusals in front of it

module _ (pack name : List ℕ) (codes : Codes) (layout sizes inputs out : List ℕ) where
  abbrev whole : Call
  whole = call pack name codes (lent layout sizes inputs out)

  pub stage_pack : (n : ℕ) (a : Answer) → n ≡ decoded_number (decode pack) → (n ≡ 0 → ⊥) → a ≡ refused n → outcome a layout sizes out ≡ check_stage whole
  unfolding check_stage
  stage_pack n a e z ea = rw ea (go (decode pack) e)
    where
      go : (d : Decoded) → n ≡ decoded_number d → unchanged whole.lent n ≡ on_decoded whole d
      go Damaged h = rw h
      go Malformed h = rw h
      go (Pack i) h = absurd (z h)

  module _ (z : decoded_number (decode pack) ≡ 0) (r : Bool) (er : r ≡ (lists_good layout sizes inputs && codes_good codes)) where
    good_at : r ≡ call_good whole.lent codes
    unfolding call_good
    good_at = er

    pub stage_call_lem : (a : Answer) → r ≡ false → a ≡ refused 3 → outcome a layout sizes out ≡ check_stage whole
    unfolding check_stage
    stage_call_lem a f ea = rw ea (go (decode pack) z (sym good_at ∙ f))
      where
        go : (d : Decoded) → decoded_number d ≡ 0 → call_good whole.lent codes ≡ false → unchanged whole.lent 3 ≡ on_decoded whole d
        go Damaged h g = absurd (omega (arith, h))
        go Malformed h g = absurd (omega (arith, h))
        go (Pack i) h g = rw g

    pub stage_went : (y : Outcome) → r ≡ true → y ≡ on_named whole (interface_of (decode pack)) → y ≡ check_stage whole
    unfolding check_stage
    stage_went y t e = go (decode pack) z (sym good_at ∙ t) e
      where
        go : (d : Decoded) → decoded_number d ≡ 0 → call_good whole.lent codes ≡ true → y ≡ on_named whole (interface_of d) → y ≡ on_decoded whole d
        go Damaged h g k = absurd (omega (arith, h))
        go Malformed h g k = absurd (omega (arith, h))
        go (Pack i) h g k = rw g k
