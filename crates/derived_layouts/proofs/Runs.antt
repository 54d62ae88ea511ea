-- A call in derived mode: the layout list stays well formed and loses nothing; where it is accepted, the list it leaves serves every resource.
use Prim.Native.Nat.{ℕ}
use mathlib.Core.Path.{◌≡◌, refl, sym, ◌∙◌, ap}
use mathlib.Core.Bool.{Bool, true}
use mathlib.Core.List.{List, [], ◌∷◌, ◌++◌}
use lib.Dec.{eqb}
use Rattle.word.specs.Answers.{accepted}
use Rattle.word.specs.Lists.{among}
use Rattle.layouts.specs.Meaning.{Layout}
use Rattle.layouts.specs.Format.{layout_well_formed, layout_good, decode_layout, encode_layout}
use Rattle.sizes.specs.Format.{decode_sizes}
use Rattle.stage_lists.specs.Format.{decode_stage, encode_stage}
use Rattle.layouts.proofs.LayoutLists.{good_decode, well_formed_encode, decode_encode}
use Rattle.interface.specs.Meaning.{Interface, EntryPoint, entry_point_nth}
use Rattle.output_steps.specs.ListOut.{stage_out}
use Rattle.output_steps.specs.declared.types.Request.{Request}
use Rattle.stage.specs.Meaning.{Lent, Call}
use Rattle.resource_steps.specs.Resources.{resource_nth, named_texture, DeriveResult, derive_steps}
use Rattle.stage.specs.Stage.{request_of, input_walk, behind_pairs, stage_body, finish, run_body, check_stage}
use Rattle.stage.proofs.GivenLaws.{resource_encodable_lem}
use Rattle.derived_layouts.specs.Theorem.{derived_over, run_over}
use Rattle.derived_layouts.proofs.Growth.{Grows, grows_refl, grows_trans}
use Rattle.derived_layouts.proofs.Derives.{HasEntry, Folded, derive_steps_lem}
use Rattle.derived_layouts.proofs.Bodies.{derived_layout, derived_parts}
use Rattle.refusals.proofs.Calls.{run_of, Runs, runs_on, by_call}

-- ---- one list after another

pub record Ran (before after : List ℕ) : Type 0 where
  pub well_formed : layout_well_formed after ≡ true
  pub grows : Grows (decode_layout before) (decode_layout after)

pub ran_none : (l : List ℕ) → layout_well_formed l ≡ true → Ran l l
ran_none l f = record { well_formed = f; grows = grows_refl (decode_layout l) }

pub ran_on : (l m n : List ℕ) → Ran l m → Ran m n → Ran l n
ran_on l m n p q = record { well_formed = q.well_formed; grows = grows_trans (decode_layout l) (decode_layout m) (decode_layout n) p.grows q.grows }

ran_encoded : (l : List ℕ) (X : Layout) → layout_good X ≡ true → Grows (decode_layout l) X → Ran l (encode_layout X)
ran_encoded l X g h = record { well_formed = well_formed_encode X g; grows = rw (decode_encode X g) h }

-- ---- the steps of a call in derived mode

module _ (l : List ℕ) (c : Call) where
  -- what its resources come to
  abbrev pub steps_of : Interface → EntryPoint → DeriveResult
  steps_of i e = derive_steps (request_of c.codes).stage i.resources e.pairs e.resources (decode_layout l)

  run_layout : (i : Interface) (e : EntryPoint) → (run_of (derived_over l c) i e).layout ≡ encode_layout (steps_of i e).layout
  unfolding run_body finish
  run_layout i e = ap encode_layout (derived_layout (request_of c.codes) i e (decode_stage c.lent.inputs) (decode_layout l) (decode_sizes c.lent.sizes))

  module _ (f : layout_well_formed l ≡ true) where
    folded : (b : Runs (derived_over l c)) (e : EntryPoint)
        → Folded (request_of c.codes).stage b.interface.resources e.pairs e.resources (decode_layout l) (steps_of b.interface e)
    folded b e =
        derive_steps_lem (request_of c.codes).stage b.interface.resources e.pairs (resource_encodable_lem c.pack b.interface b.decoded) e.resources (decode_layout l)
        (good_decode l f)

    pub ran_call : Ran l (check_stage (derived_over l c)).layout
    ran_call =
        by_call (λ o. Ran l o.layout) (derived_over l c)
        (λ n z. ran_none l f)
        (λ b.
        let e = entry_point_nth b.interface.entries b.position in
        let x = folded b e in
        rw (run_layout b.interface e) (ran_encoded l (steps_of b.interface e).layout x.good x.grows))

-- ---- an accepted call in derived mode

abbrev pub entry_of : (c : Call) → Runs c → EntryPoint
entry_of c b = entry_point_nth b.interface.entries b.position

-- what it leaves: every resource is served, what is judged behind the resources passed, and the list out is written
pub record Leaves (l : List ℕ) (c : Call) : Type 0 where
  pub runs : Runs (derived_over l c)
  pub placed : (i : ℕ) → among (entry_of (derived_over l c) runs).resources i ≡ true
      → HasEntry (request_of c.codes).stage (named_texture i (entry_of (derived_over l c) runs).pairs) (resource_nth runs.interface.resources i)
      (decode_layout (check_stage (derived_over l c)).layout)
  pub passed : behind_pairs (request_of c.codes) runs.interface (entry_of (derived_over l c) runs) (decode_stage c.lent.inputs) ≡ accepted
  pub written :
      (check_stage (derived_over l c)).out
      ≡ encode_stage
      (stage_out (request_of c.codes).stage (entry_of (derived_over l c) runs)
      (input_walk (request_of c.codes) (entry_of (derived_over l c) runs) (decode_stage c.lent.inputs)).walk c.lent.out)

module _ (derived : Bool) (q : Request) (t : Lent) (i : Interface) (e : EntryPoint) where
  pub run_answer : (run_body derived q t i e).answer ≡ (stage_body derived q i e (decode_stage t.inputs) (decode_layout t.layout) (decode_sizes t.sizes)).answer
  unfolding run_body finish
  run_answer = refl

  pub run_out : (run_body derived q t i e).answer ≡ accepted
      → (run_body derived q t i e).out ≡ encode_stage (stage_out q.stage e (input_walk q e (decode_stage t.inputs)).walk t.out)
  unfolding run_body finish
  run_out h = rw h

module _ (l : List ℕ) (c : Call) (f : layout_well_formed l ≡ true) (b : Runs (derived_over l c)) (h : (check_stage (derived_over l c)).answer ≡ accepted) where
  abbrev entry : EntryPoint
  entry = entry_of (derived_over l c) b

  answered : (run_of (derived_over l c) b.interface entry).answer ≡ accepted
  answered = rw (runs_on (derived_over l c) b) at h

  parts : (eqb (steps_of l c b.interface entry).answer.number 0 ≡ true) × (behind_pairs (request_of c.codes) b.interface entry (decode_stage c.lent.inputs) ≡ accepted)
  parts =
      derived_parts (request_of c.codes) b.interface entry (decode_stage c.lent.inputs) (decode_layout l) (decode_sizes c.lent.sizes)
      (steps_of l c b.interface entry) refl (sym (run_answer true (request_of c.codes) (derived_over l c).lent b.interface entry) ∙ answered)

  left_layout : decode_layout (check_stage (derived_over l c)).layout ≡ (steps_of l c b.interface entry).layout
  left_layout =
      rw (runs_on (derived_over l c) b, run_layout l c b.interface entry)
      (decode_encode (steps_of l c b.interface entry).layout (folded l c f b entry).good)

  pub leaves : Leaves l c
  leaves =
      record {
        runs = b;
        placed = λ i m. rw left_layout ((folded l c f b entry).placed parts.0 i m);
        passed = parts.1;
        written = rw (runs_on (derived_over l c) b) (run_out true (request_of c.codes) (derived_over l c).lent b.interface entry answered);
      }

-- ---- a list of calls in derived mode

pub ran_calls : (l : List ℕ) (calls : List Call) → layout_well_formed l ≡ true → Ran l (run_over l calls)
unfolding run_over
ran_calls l [] f = ran_none l f
ran_calls l (c ∷ cs) f =
    let first = ran_call l c f in
    let m = (check_stage (derived_over l c)).layout in
    ran_on l m (run_over m cs) first (ran_calls m cs first.well_formed)

pub run_append : (l : List ℕ) (before after : List Call) → run_over l (before ++ after) ≡ run_over (run_over l before) after
unfolding run_over
run_append l [] after = refl
run_append l (c ∷ cs) after = run_append (check_stage (derived_over l c)).layout cs after
