-- What the steps of a stage check leave in the lists, over the meaning.
use Prim.Native.Nat.{ℕ}
use mathlib.Core.Path.{◌≡◌, refl, ap}
use mathlib.Core.Bool.{Bool, true, false, not, ◌&&◌}
use mathlib.Core.List.{List, [], ◌∷◌, ◌++◌}
use lib.Dec.{eqb}
use borrow.Author.Tests.{ne_eqb}
use Rattle.word.specs.Choice.{pick, yes}
use Rattle.word.specs.Answers.{accepted}
use Rattle.word.specs.Lists.{among, every}
use Rattle.word.specs.declared.answer.Answer.{Answer}
use Rattle.word.proofs.Truth.{first}
use Rattle.bindings.specs.declared.types.ResourceBinding.{ResourceBinding}
use Rattle.layouts.specs.Meaning.{Layout}
use Rattle.sizes.specs.Meaning.{Sizes}
use Rattle.stage_lists.specs.Meaning.{StageIo}
use Rattle.interface.specs.Meaning.{EntryPoint, Interface}
use Rattle.output_steps.specs.declared.types.Request.{Request}
use Rattle.resource_steps.specs.Meaning.{State, state}
use Rattle.resource_steps.specs.Kept.{entered_all, sizes_entered}
use Rattle.resource_steps.specs.Resources.{resource_nth, named_texture, derive_step, derive_steps, provide_step, provide_steps, resource_steps}
use Rattle.resource_steps.proofs.Kept.{DerivesAll, derive_all, ProvidesAll, provide_all}
use Rattle.stage.specs.Stage.{judgement, stage_body}
use Rattle.refusals.specs.Table.{resource_numbers, judgement_numbers}
use Rattle.refusals.specs.Kept.{refuses_at, refuses_one}
use Rattle.refusals.proofs.Known.{AnswerOf, passes, fails, every_among, among_left, answer_right}
use Rattle.refusals.proofs.ResourceNumbers.{Placed, provide_known, derive_known}
use Rattle.refusals.proofs.ResourceNumbers as Res
use Rattle.refusals.proofs.JudgementNumbers.{judgement_known}

-- no number of a later step is one on a resource
judgements_other : every (λ n. not (among resource_numbers n)) judgement_numbers ≡ true
unfolding every among
judgements_other = refl

judged_other : (a : Answer) → AnswerOf judgement_numbers a → not (among resource_numbers a.number) ≡ true
unfolding among
judged_other a (passes e) = rw e
judged_other a (fails h) = every_among (λ n. not (among resource_numbers n)) judgement_numbers a.number judgements_other h

-- a refusal on a place
placed : (bind : ResourceBinding) (a : Answer) → Placed bind a → (a.number ≡ 0 → ⊥) → refuses_at bind a ≡ true
placed bind a (Res.passes e) n = absurd (n (ap (λ a. a.number) e))
placed bind a (Res.fails h) n = h

resource_answer : (bind : ResourceBinding) (a : Answer) → refuses_at bind a ≡ true → AnswerOf (resource_numbers ++ judgement_numbers) a
resource_answer bind a h =
    fails
    (among_left resource_numbers judgement_numbers a.number
    (first (among resource_numbers a.number) (eqb a.first bind.group && (eqb a.second bind.binding && eqb a.third 0)) h))

append_none : (is : List ℕ) → is ≡ is ++ []
append_none [] = refl
append_none (i ∷ is) = ap (λ js. i ∷ js) (append_none is)

module _ (derived : Bool) (q : Request) (i : Interface) (e : EntryPoint) (inputs : StageIo) (L : Layout) (S : Sizes) where
  abbrev ran : State
  ran = stage_body derived q i e inputs L S

  -- the resources: those done, the one refused, if it was one, and those left; and what they leave
  pub record BodyKept : Type 0 where
    pub done : List ℕ
    pub refused : List ℕ
    pub left : List ℕ
    pub split : e.resources ≡ done ++ (refused ++ left)
    pub passed : (resource_steps q.stage derived i.resources e.pairs done L S).answer ≡ accepted
    pub ended : refuses_one i.resources refused left ran.answer ≡ true
    pub answer : AnswerOf (resource_numbers ++ judgement_numbers) ran.answer
    pub layout : ran.layout ≡ pick (yes derived) (entered_all q.stage i.resources e.pairs done L) L
    pub sizes : ran.sizes ≡ pick (yes derived) S (sizes_entered i.resources (done ++ refused) S)

  abbrev went : List ℕ → State
  went is = resource_steps q.stage derived i.resources e.pairs is L S

  abbrev layout_by : List ℕ → Layout
  layout_by done = pick (yes derived) (entered_all q.stage i.resources e.pairs done L) L

  abbrev sizes_by : List ℕ → Sizes
  sizes_by recording = pick (yes derived) S (sizes_entered i.resources recording S)

  -- every resource passed
  none_refused : went e.resources ≡ state accepted (layout_by e.resources) (sizes_by e.resources) → BodyKept
  unfolding stage_body
  none_refused h =
      let a = judgement derived q i e inputs (layout_by e.resources) in
      let k = judgement_known derived q i e inputs (layout_by e.resources) in
      record {
        done = e.resources;
        refused = [];
        left = [];
        split = append_none e.resources;
        passed = rw h;
        ended = rw (h, judged_other a k);
        answer = rw h (answer_right resource_numbers judgement_numbers a k);
        layout = rw h;
        sizes = rw (h, ← append_none e.resources);
      }

  -- one was refused
  one_refused : (done : List ℕ) (j : ℕ) (rest : List ℕ) → e.resources ≡ done ++ (j ∷ rest) → (went done).answer ≡ accepted
      → (a : Answer) → Placed (resource_nth i.resources j).bind a → (a.number ≡ 0 → ⊥)
      → went e.resources ≡ state a (layout_by done) (sizes_by (done ++ (j ∷ []))) → BodyKept
  unfolding stage_body
  one_refused done j rest split passed a k z h =
      let f = ne_eqb a.number 0 z in
      let on = placed (resource_nth i.resources j).bind a k z in
      record {
        done = done;
        refused = j ∷ [];
        left = rest;
        split = split;
        passed = passed;
        ended = rw (h, f) on;
        answer = rw (h, f) (resource_answer (resource_nth i.resources j).bind a on);
        layout = rw (h, f);
        sizes = rw (h, f);
      }

module _ (q : Request) (i : Interface) (e : EntryPoint) (inputs : StageIo) (L : Layout) (S : Sizes) where
  derived_kept : DerivesAll q.stage i.resources e.pairs e.resources L (derive_steps q.stage i.resources e.pairs e.resources L)
      → BodyKept true q i e inputs L S
  unfolding yes resource_steps
  derived_kept (DerivesAll.all h) = none_refused true q i e inputs L S (rw h)
  derived_kept (DerivesAll.some done j rest split before at n) =
      let M = entered_all q.stage i.resources e.pairs done L in
      one_refused true q i e inputs L S done j rest split (rw before) (derive_step q.stage (named_texture j e.pairs) (resource_nth i.resources j) M).answer
      (derive_known q.stage (named_texture j e.pairs) (resource_nth i.resources j) M) (rw at at n) (rw at)

  provided_kept : ProvidesAll q.stage L i.resources e.resources S (provide_steps q.stage L i.resources e.resources S)
      → BodyKept false q i e inputs L S
  unfolding yes resource_steps
  provided_kept (ProvidesAll.all h) = none_refused false q i e inputs L S (rw h)
  provided_kept (ProvidesAll.some done j rest split before at n) =
      let T = sizes_entered i.resources done S in
      one_refused false q i e inputs L S done j rest split (rw before) (provide_step q.stage L (resource_nth i.resources j) T).answer
      (provide_known q.stage L (resource_nth i.resources j) T) (rw at at n) (rw at)

pub body_kept : (derived : Bool) (q : Request) (i : Interface) (e : EntryPoint) (inputs : StageIo) (L : Layout) (S : Sizes) → BodyKept derived q i e inputs L S
body_kept true q i e inputs L S = derived_kept q i e inputs L S (derive_all q.stage i.resources e.pairs e.resources L)
body_kept false q i e inputs L S = provided_kept q i e inputs L S (provide_all q.stage L i.resources e.resources S)
