-- The body of a stage check in each mode: what its resources leave, and what is judged behind them.
use mathlib.Core.Path.{◌≡◌, refl}
use mathlib.Core.Bool.{true, false}
use lib.Dec.{eqb}
use Rattle.word.specs.Answers.{accepted}
use Rattle.word.specs.declared.answer.Answer.{Answer}
use Rattle.word.specs.Choice.{yes}
use Rattle.word.proofs.Truth.{by_test, never}
use Rattle.layouts.specs.Meaning.{Layout}
use Rattle.sizes.specs.Meaning.{Sizes}
use Rattle.stage_lists.specs.Meaning.{StageIo}
use Rattle.interface.specs.Meaning.{EntryPoint, Interface}
use Rattle.output_steps.specs.declared.types.Request.{Request}
use Rattle.resource_steps.specs.Meaning.{State, state}
use Rattle.stage.specs.Meaning.{and_then}
use Rattle.resource_steps.specs.Resources.{provide_steps, provided_over, DeriveResult, derive_steps, derived_beside, resource_steps, pair_uses}
use Rattle.stage.specs.Stage.{behind_pairs, judgement, stage_body}

-- ---- a step, and a judgement of what it left

module _ (x : State) (k : Layout → Answer) where
  then_layout : (and_then x (λ L S. state (k L) L S)).layout ≡ x.layout
  then_layout = by_test (eqb x.answer.number 0) (λ t. rw t) (λ n. rw n)

  then_parts : (and_then x (λ L S. state (k L) L S)).answer ≡ accepted → (eqb x.answer.number 0 ≡ true) × (k x.layout ≡ accepted)
  then_parts h =
      by_test (eqb x.answer.number 0)
      (λ t. (t, rw t at h))
      (λ n. let a = rw n at h in never (eqb x.answer.number 0) (rw a refl) n)

  then_accepts : x.answer ≡ accepted → k x.layout ≡ accepted → (and_then x (λ L S. state (k L) L S)).answer ≡ accepted
  then_accepts a h = rw a h

-- ---- the body

module _ (q : Request) (i : Interface) (e : EntryPoint) (inputs : StageIo) (L : Layout) (S : Sizes) where
  -- the resources in derived mode leave the sizes, in provided mode the layout
  derived_steps : resource_steps q.stage true i.resources e.pairs e.resources L S ≡ derived_beside S (derive_steps q.stage i.resources e.pairs e.resources L)
  unfolding resource_steps yes
  derived_steps = refl

  provided_steps : resource_steps q.stage false i.resources e.pairs e.resources L S ≡ provided_over L (provide_steps q.stage L i.resources e.resources S)
  unfolding resource_steps yes
  provided_steps = refl

  pub derived_layout : (stage_body true q i e inputs L S).layout ≡ (derive_steps q.stage i.resources e.pairs e.resources L).layout
  unfolding stage_body
  derived_layout = rw derived_steps (then_layout (derived_beside S (derive_steps q.stage i.resources e.pairs e.resources L)) (judgement true q i e inputs))

  pub derived_parts : (x : DeriveResult) → derive_steps q.stage i.resources e.pairs e.resources L ≡ x
      → (stage_body true q i e inputs L S).answer ≡ accepted → (eqb x.answer.number 0 ≡ true) × (behind_pairs q i e inputs ≡ accepted)
  unfolding stage_body judgement yes
  derived_parts x r h = then_parts (derived_beside S x) (judgement true q i e inputs) (rw (derived_steps, r) at h)

  pub provided_accepts : (provide_steps q.stage L i.resources e.resources S).answer ≡ accepted → pair_uses L i.resources e.pairs ≡ accepted
      → behind_pairs q i e inputs ≡ accepted → (stage_body false q i e inputs L S).answer ≡ accepted
  unfolding stage_body judgement yes
  provided_accepts a p h =
      rw provided_steps (then_accepts (provided_over L (provide_steps q.stage L i.resources e.resources S)) (judgement false q i e inputs) a (rw p h))
