-- Demand 3.
use Prim.Native.Nat.{ℕ}
use mathlib.Core.Path.{◌≡◌}
use mathlib.Core.Bool.{true}
use mathlib.Core.List.{List, ◌∷◌, ◌++◌}
use Rattle.word.specs.Answers.{accepted}
use Rattle.layouts.specs.Format.{layout_well_formed}
use Rattle.stage.specs.Meaning.{Call}
use Rattle.stage.specs.Stage.{check_stage}
use Rattle.derived_layouts.specs.Theorem.{derived_over, put_again, run_over, Stands, pack_reusable, interface_of_call, RoomEnough, Again, DerivedServes}
use Rattle.refusals.proofs.Calls.{accepted_runs}
use Rattle.derived_layouts.proofs.Runs.{ran_call, leaves, ran_calls, run_append}
use Rattle.derived_layouts.proofs.Again.{put_again_lem}

module _ (layout : List ℕ) (well_formed : layout_well_formed layout ≡ true) where
  stood : (before after calls : List Call) → before ++ after ≡ calls → Stands (run_over layout before) (run_over layout calls)
  stood before after calls e =
      let m = run_over layout before in
      rw (← e, run_append layout before after) (ran_calls m after (ran_calls layout before well_formed).well_formed).grows

  repeated : (before after calls : List Call) (c : Call) → before ++ (c ∷ after) ≡ calls
      → (check_stage (derived_over (run_over layout before) c)).answer ≡ accepted → pack_reusable (interface_of_call c) ≡ true
      → (sizes out : List ℕ) → RoomEnough c sizes out
      → Again (check_stage (derived_over (run_over layout before) c)) (check_stage (put_again (run_over layout calls) sizes out c))
  unfolding run_over
  repeated before after calls c e h k sizes out r =
      let m = run_over layout before in
      let f = (ran_calls layout before well_formed).well_formed in
      let n = (check_stage (derived_over m c)).layout in
      let rest = ran_calls n after (ran_call m c f).well_formed in
      let x = leaves m c f (accepted_runs (derived_over m c) h) h in
      rw (← e, run_append layout before (c ∷ after)) (put_again_lem m (run_over n after) sizes out c x rest.well_formed rest.grows k r)

-- demand 3: whatever calls run over a well-formed layout list in derived mode, it stays well formed and loses nothing, and each accepted call
-- whose pack meets the five conditions is accepted again as provided over the finished list, with the same list out
pub derived_serves : (layout : List ℕ) → layout_well_formed layout ≡ true → (calls : List Call) → DerivedServes layout calls
derived_serves layout well_formed calls =
    record {
      well_formed = (ran_calls layout calls well_formed).well_formed;
      stands = λ before after e. stood layout well_formed before after calls e;
      again = λ before after c e h k sizes out r. repeated layout well_formed before after calls c e h k sizes out r;
    }
