-- The ways on through the steps behind the resources.
use native.Mathlib.Omega.{arith}
use Prim.Native.Nat.{ℕ, ◌-◌}
use mathlib.Core.Path.{◌≡◌, ap, ◌∙◌}
use mathlib.Core.Bool.{Bool, true, false}
use mathlib.Core.List.{List}
use lib.ListN.{drop, take, length}
use Rattle.word.proofs.Tests.{yes_true, yes_false}
use Rattle.word.specs.Words.{word_at, bits}
use Rattle.word.specs.Answers.{accepted}
use Rattle.word.specs.Refusals.{answer_of, refusal_answer}
use Rattle.word.specs.declared.refusal.Refusal.{Refusal}
use Rattle.word.proofs.Both.{refused_ends, passed_on}
use Rattle.std.proofs.Common.{Result, Ok, Err}
use Rattle.word.specs.declared.answer.Answer.{Answer}
use Rattle.bindings.specs.declared.types.Resource.{Resource}
use Rattle.layouts.specs.Meaning.{Layout}
use Rattle.stage_lists.specs.Meaning.{StageIo}
use Rattle.interface.specs.declared.types.Varying.{Varying}
use Rattle.interface.specs.Meaning.{EntryPoint, Interface}
use Rattle.interface.specs.Format.{pairs_of}
use Rattle.interface.specs.Inner.Reads.{standing}
use Rattle.interface.specs.Inner.Parts.{Placed}
use Rattle.interface.specs.declared.types.EntryParts.{EntryParts}
use Rattle.output_steps.specs.declared.types.Request.{Request}
use Rattle.input_steps.specs.Workgroup.{workgroup_step}
use Rattle.input_steps.specs.Inputs.{input_steps, start_walk}
use Rattle.input_steps.specs.declared.types.InputWalk.{InputWalk}
use Rattle.resource_steps.specs.Resources.{pair_uses}
use Rattle.resource_steps.specs.Inner.Given.{pairs_below}
use Rattle.stage.specs.Inner.Given.{Named}
use Rattle.stage.specs.Stage.{pair_step, input_walk, behind_inputs, behind_pairs}

-- the judgement of an entry point, step by step
module _ (q : Request) (i : Interface) (e : EntryPoint) (inputs : StageIo) (size : Result Unit Refusal)
    (es : answer_of size ≡ workgroup_step q.stage e.workgroup i.limits) where
  pub size_refused : (r : Refusal) → size ≡ Err r → refusal_answer r ≡ behind_pairs q i e inputs
  size_refused r z = refused_ends r size _ _ es z

  module _ (vs : List Varying) (ev : vs ≡ e.inputs) (u : Unit) (zs : size ≡ Ok u) (met : Result Unit Refusal) (w : InputWalk)
      (em : answer_of met ≡ (input_steps q.stage inputs.varyings vs start_walk).answer) (ew : w ≡ (input_steps q.stage inputs.varyings vs start_walk).walk) where
    met_is : answer_of met ≡ (input_walk q e inputs).answer
    met_is = rw ev at em

    pub walk_is : w ≡ (input_walk q e inputs).walk
    walk_is = rw ev at ew

    pub inputs_refused : (r : Refusal) → met ≡ Err r → refusal_answer r ≡ behind_pairs q i e inputs
    inputs_refused r z = passed_on u size _ _ _ es zs (refused_ends r met _ _ met_is z)

    pub inputs_went : (v : Unit) (rest : Answer) → met ≡ Ok v → rest ≡ behind_inputs q i.limits e inputs w → rest ≡ behind_pairs q i e inputs
    inputs_went v rest z h = passed_on u size _ _ _ es zs (passed_on v met _ _ _ met_is z (h ∙ ap (behind_inputs q i.limits e inputs) walk_is))

-- the pairs of an entry point that stands at positions
module _ (ws : List ℕ) (p : EntryParts) (w : Placed ws p) where
  pub pairs_standing : pairs_of (take (p.inputs - p.pairs) (drop p.pairs ws)) ≡ (standing ws p).pairs
  unfolding standing
  pairs_standing = let n : p.inputs - p.pairs ≡ bits 17 12 (word_at ws p.counts) = omega (arith, w.pairs) in rw n

  pub pairs_given : (i : Interface) (rs : List Resource) → rs ≡ i.resources → Named i (standing ws p)
      → pairs_below (length rs) (pairs_of (take (p.inputs - p.pairs) (drop p.pairs ws))) ≡ true
  pairs_given i rs e n = rw (e, pairs_standing) n.pairs

  pub pairs_provided : (L : Layout) (rs : List Resource) (derived : Bool) (r : Answer) → derived ≡ false
      → r ≡ pair_uses L rs (pairs_of (take (p.inputs - p.pairs) (drop p.pairs ws))) → r ≡ pair_step derived rs (standing ws p) L
  pairs_provided L rs derived r d h = rw (yes_false derived d) (h ∙ rw pairs_standing)

pub pairs_derived : (L : Layout) (rs : List Resource) (e : EntryPoint) (derived : Bool) (r : Answer) → r ≡ accepted → derived ≡ true → r ≡ pair_step derived rs e L
pairs_derived L rs e derived r h d = rw (yes_true derived d) h
