-- Demand 1: a stage check always answers with a number of document 01's table, and says what a refusal leaves in the lent lists.
use mathlib.Core.Path.{◌≡◌, refl, sym, ◌∙◌}
use mathlib.Core.Bool.{Bool, true, false, not, ◌&&◌, false≢true}
use mathlib.Core.List.{◌++◌}
use borrow.Author.Tests.{ne_eqb, not-true}
use Rattle.word.specs.Choice.{yes}
use Rattle.word.specs.Answers.{refused}
use Rattle.word.specs.Lists.{among, every}
use Rattle.word.specs.declared.answer.Answer.{Answer}
use Rattle.word.proofs.Truth.{first, second, by_test}
use Rattle.layouts.specs.Format.{layout_well_formed, decode_layout}
use Rattle.layouts.proofs.LayoutLists as layouts
use Rattle.sizes.specs.Format.{sizes_well_formed, decode_sizes}
use Rattle.sizes.proofs.SizeLists as sizes
use Rattle.stage_lists.specs.Format.{stage_well_formed, decode_stage}
use Rattle.interface.specs.Meaning.{entry_point_nth}
use Rattle.stage.specs.Meaning.{Call, Outcome}
use Rattle.stage.specs.Stage.{request_of, derived_of, lists_good, codes_good, call_good, unchanged, finish, run_body, check_stage}
use Rattle.refusals.specs.Table.{early, call_numbers, resource_numbers, judgement_numbers, stage_numbers, answered}
use Rattle.refusals.specs.Kept.{refuses_one, layout_kept, sizes_kept, Kept}
use Rattle.refusals.proofs.Known.{AnswerOf, passes, fails, every_among, answered_by}
use Rattle.refusals.proofs.Calls.{run_of, Runs, runs_on, by_call}
use Rattle.refusals.proofs.Kept.{BodyKept, body_kept}

-- ---- which calls come to their steps

calls_early : every (among early) call_numbers ≡ true
unfolding every among
calls_early = refl

-- a call that is not refused before its steps
late_runs : (c : Call) → among early (check_stage c).answer.number ≡ false → Runs c
late_runs c =
    by_call (λ o. among early o.answer.number ≡ false → Runs c) c
    (λ n h f. absurd (both_ways (among early n) (every_among (among early) call_numbers n calls_early h) f)) (λ b f. b)
  where
    both_ways : (b : Bool) → b ≡ true → b ≡ false → ⊥
    both_ways b t f = false≢true (sym f ∙ t)

-- the run of a call's steps
abbrev run : (c : Call) → Runs c → Outcome
run c b = run_of c b.interface (entry_point_nth b.interface.entries b.position)

abbrev KeptBy : (c : Call) → Runs c → Type 0
KeptBy c b =
    BodyKept (derived_of c.codes) (request_of c.codes) b.interface (entry_point_nth b.interface.entries b.position)
    (decode_stage c.lent.inputs) (decode_layout c.lent.layout) (decode_sizes c.lent.sizes)

run_kept : (c : Call) (b : Runs c) → KeptBy c b
run_kept c b =
    body_kept (derived_of c.codes) (request_of c.codes) b.interface (entry_point_nth b.interface.entries b.position)
    (decode_stage c.lent.inputs) (decode_layout c.lent.layout) (decode_sizes c.lent.sizes)

run_answer : (c : Call) (b : Runs c) → AnswerOf (resource_numbers ++ judgement_numbers) (run c b).answer
unfolding run_body finish
run_answer c b = (run_kept c b).answer

-- ---- 'gets an acceptance or one of document 01's numbered refusals, always'; acceptance comes with no details

pub demand1_answered : (c : Call) → answered stage_numbers 0 (check_stage c).answer ≡ true
unfolding every among
demand1_answered c =
    by_call (λ o. answered stage_numbers 0 o.answer ≡ true) c
    (λ n h. answered_by stage_numbers call_numbers (refused n) refl refl (fails h))
    (λ b. answered_by stage_numbers (resource_numbers ++ judgement_numbers) (run c b).answer refl refl (run_answer c b))

-- ---- 'Refusals 1 to 4 and 10 to 12 change no lent buffer'

steps_late : every (λ n. not (among early n)) (resource_numbers ++ judgement_numbers) ≡ true
unfolding every among
steps_late = refl

late_answer : (a : Answer) → AnswerOf (resource_numbers ++ judgement_numbers) a → among early a.number ≡ true → ⊥
unfolding among
late_answer a (passes e) h = false≢true (rw e at h)
late_answer a (fails k) h =
    false≢true (sym (not-true (among early a.number) (every_among (λ n. not (among early n)) (resource_numbers ++ judgement_numbers) a.number steps_late k)) ∙ h)

pub demand1_unchanged : (c : Call) → among early (check_stage c).answer.number ≡ true → check_stage c ≡ unchanged c.lent (check_stage c).answer.number
demand1_unchanged c =
    by_call (λ o. among early o.answer.number ≡ true → o ≡ unchanged c.lent o.answer.number) c
    (λ n h a. refl) (λ b a. absurd (late_answer (run c b).answer (run_answer c b) a))

-- ---- 'and the list handed out is untouched', on every refusal

pub demand1_out : (c : Call) → ((check_stage c).answer.number ≡ 0 → ⊥) → (check_stage c).out ≡ c.lent.out
unfolding run_body finish
demand1_out c =
    by_call (λ o. (o.answer.number ≡ 0 → ⊥) → o.out ≡ c.lent.out) c
    (λ n h z. refl)
    (λ b z. rw (ne_eqb (run c b).answer.number 0 z))

-- ---- 'Any other keeps exactly the layout and size records made by the steps before it', and so does acceptance

module _ (c : Call) (b : Runs c) where
  lists_good_lem : lists_good c.lent.layout c.lent.sizes c.lent.inputs ≡ true
  unfolding call_good
  lists_good_lem = first (lists_good c.lent.layout c.lent.sizes c.lent.inputs) (codes_good c.codes) b.good

  layout_good_lem : layout_well_formed c.lent.layout ≡ true
  unfolding lists_good
  layout_good_lem = first (layout_well_formed c.lent.layout) (sizes_well_formed c.lent.sizes && stage_well_formed c.lent.inputs) lists_good_lem

  sizes_good_lem : sizes_well_formed c.lent.sizes ≡ true
  unfolding lists_good
  sizes_good_lem =
      first (sizes_well_formed c.lent.sizes) (stage_well_formed c.lent.inputs)
      (second (layout_well_formed c.lent.layout) (sizes_well_formed c.lent.sizes && stage_well_formed c.lent.inputs) lists_good_lem)

  layout_run : (run c b).layout ≡ layout_kept (derived_of c.codes) (request_of c.codes).stage b.interface (entry_point_nth b.interface.entries b.position) (run_kept c b).done c.lent
  unfolding run_body finish
  layout_run =
      by_test (yes (derived_of c.codes)) (λ t. rw ((run_kept c b).layout, t)) (λ f. rw ((run_kept c b).layout, f) (layouts.encode_decode c.lent.layout layout_good_lem))

  sizes_run : (run c b).sizes ≡ sizes_kept (derived_of c.codes) b.interface ((run_kept c b).done ++ (run_kept c b).refused) c.lent
  unfolding run_body finish
  sizes_run =
      by_test (yes (derived_of c.codes)) (λ t. rw ((run_kept c b).sizes, t) (sizes.encode_decode c.lent.sizes sizes_good_lem)) (λ f. rw ((run_kept c b).sizes, f))

  ended_run : refuses_one b.interface.resources (run_kept c b).refused (run_kept c b).left (run c b).answer ≡ true
  unfolding run_body finish
  ended_run = (run_kept c b).ended

  kept_run : Kept c
  kept_run =
      record {
        interface = b.interface;
        position = b.position;
        decoded = b.decoded;
        chosen = b.chosen;
        done = (run_kept c b).done;
        refused = (run_kept c b).refused;
        left = (run_kept c b).left;
        split = (run_kept c b).split;
        passed = (run_kept c b).passed;
        ended = rw (runs_on c b) ended_run;
        layout = rw (runs_on c b) layout_run;
        sizes = rw (runs_on c b) sizes_run;
      }

pub demand1_kept : (c : Call) → among early (check_stage c).answer.number ≡ false → Kept c
demand1_kept c f = kept_run c (late_runs c f)
