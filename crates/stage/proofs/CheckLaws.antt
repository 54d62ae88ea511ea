-- The ways on through the functions of a stage check.
use Prim.Native.Nat.{ℕ, ◌+◌, ◌-◌, ◌*◌, ◌<◌, ◌≤◌}
use native.Mathlib.Omega.{arith}
use mathlib.Core.Path.{◌≡◌, sym, ap, ◌∙◌}
use mathlib.Core.Bool.{Bool, true, false, ◌&&◌}
use mathlib.Core.List.{List}
use lib.Dec.{eqb}
use lib.ListN.{length, take, drop}
use borrow.Author.Tests.{lt-ltb, le-ltb}
use Rattle.std.specs.Prelude.{Option, Some, None, IfSome}
use Rattle.word.specs.Words.{word_at, bits}
use Rattle.word.specs.Answers.{accepted, refused}
use Rattle.word.specs.declared.answer.Answer.{Answer}
use Rattle.word.proofs.Tests.{yes_true, yes_false}
use Rattle.word.proofs.Truth.{first, second}
use Rattle.layouts.specs.Meaning.{Layout}
use Rattle.sizes.specs.Meaning.{Sizes}
use Rattle.layouts.specs.Format.{layout_well_formed}
use Rattle.sizes.specs.Format.{sizes_well_formed}
use Rattle.stage_lists.specs.Format.{out_well_formed}
use Rattle.interface.specs.Meaning.{EntryPoint, Interface, entry_point_nth}
use Rattle.interface.specs.Format.{decode, decoded_number, stage_at, contents, pairs_of, interface_of}
use Rattle.interface.specs.Inner.Reads.{standing}
use Rattle.interface.specs.Inner.Parts.{Placed, Offsets}
use Rattle.entry_points.specs.Rules.{find_entry_point}
use Rattle.interface.specs.declared.types.EntryParts.{EntryParts}
use Rattle.interface.specs.declared.types.ShaderStage.{ShaderStage}
use Rattle.output_steps.specs.Inner.Summary.{summary_of}
use Rattle.output_steps.specs.Inner.Given.{Summed}
use Rattle.output_steps.specs.declared.types.Request.{Request}
use Rattle.output_steps.specs.declared.types.Summary.{Summary}
use Rattle.stage.specs.declared.types.Codes.{Codes}
use Rattle.stage.specs.Meaning.{Lent, Call, Outcome, outcome}
use Rattle.resource_steps.specs.Meaning.{state}
use Rattle.resource_steps.specs.Resources.{provide_result, provide_steps, derive_result, derive_steps, resource_steps}
use Rattle.resource_steps.specs.Inner.Given.{Inside, resource_table, each_encodable, each_below}
use Rattle.resource_steps.specs.Inner.Stops.{stopped_answer}
use Rattle.resource_steps.specs.declared.types.Stopped.{Stopped}
use Rattle.std.proofs.Common.{Result, Ok, Err}
use Rattle.word.specs.Refusals.{answer_of, refusal_answer}
use Rattle.word.specs.declared.refusal.Refusal.{Refusal}
use Rattle.word.proofs.Both.{number_nonzero}
use Rattle.bindings.specs.declared.types.Resource.{Resource}
use Rattle.stage.specs.Inner.Given.{Named}
use Rattle.stage.specs.Inner.Bindings.{binding_steps}
use Rattle.stage.specs.Stage.{pair_step, lists_good, request_of, derived_of, out_words, run_body, on_entry_point, on_chosen, on_named}
use Rattle.stage.proofs.JudgeLaws.{pairs_standing}
use Rattle.resource_steps.proofs.ResourceParts.{counted}
use Rattle.stage.proofs.GivenLaws.{given_encodable, given_below, given_pairs, given_outputs}

-- ---- the resources of an entry point that stands at positions

module _ (ws : List ℕ) (p : EntryParts) (w : Placed ws p) where
  resources_standing : contents (take (p.pairs - p.resources) (drop p.resources ws)) ≡ (standing ws p).resources
  unfolding standing
  resources_standing = let n : p.pairs - p.resources ≡ bits 23 18 (word_at ws p.counts) = omega (arith, w.resources) in rw n

  pub resources_below : (i : Interface) (rs : List Resource) → rs ≡ i.resources → Named i (standing ws p)
      → each_below (length rs) (contents (take (p.pairs - p.resources) (drop p.resources ws))) ≡ true
  resources_below i rs e n = rw (e, resources_standing) n.below

  module _ (rs : List Resource) (s : ShaderStage) (derived : Bool) (L : Layout) (S : Sizes) (o : Result Unit Stopped) (passed : ℕ) where
    module _ (M : Layout) (t : derived ≡ true)
        (h : derive_result (stopped_answer o) passed M
        ≡ derive_steps s rs (pairs_of (take (p.inputs - p.pairs) (drop p.pairs ws))) (contents (take (p.pairs - p.resources) (drop p.resources ws))) L) where
      pub resources_derived : (a : Answer) → stopped_answer o ≡ a
          → state a M S ≡ resource_steps s derived rs (standing ws p).pairs (standing ws p).resources L S
      unfolding resource_steps
      resources_derived a k =
          let e = rw (pairs_standing ws p w, resources_standing) at h in
          rw (yes_true derived t, ← e, k)

    module _ (T : Sizes) (t : derived ≡ false)
        (h : provide_result (stopped_answer o) passed T ≡ provide_steps s L rs (contents (take (p.pairs - p.resources) (drop p.resources ws))) S) where
      pub resources_provided : (a : Answer) → stopped_answer o ≡ a
          → state a L T ≡ resource_steps s derived rs (standing ws p).pairs (standing ws p).resources L S
      unfolding resource_steps
      resources_provided a k =
          let e = rw resources_standing at h in
          rw (yes_false derived t, ← e, k)

pub stopped_at : (o : Result Unit Stopped) (s : Stopped) (r : Refusal) → o ≡ Err s → r ≡ s.refusal → stopped_answer o ≡ refusal_answer r
stopped_at o s r z e = rw (z, e)

pub stopped_nowhere : (o : Result Unit Stopped) (v : Unit) → o ≡ Ok v → stopped_answer o ≡ accepted
stopped_nowhere o v z = rw z

-- ---- the resources, and the pairs behind them

module _ (i : Interface) (e : EntryPoint) (rs : List Resource) (q : rs ≡ i.resources) (derived : Bool) (stage : ShaderStage) (L : Layout) (S : Sizes)
    (o : Result Unit Refusal) (M : Layout) (T : Sizes) (steps : state (answer_of o) M T ≡ resource_steps stage derived rs e.pairs e.resources L S) where
  pub bindings_refused : (r : Refusal) → o ≡ Err r → state (refusal_answer r) M T ≡ binding_steps derived stage i e L S
  bindings_refused r z = rw (← q, ← steps, z, number_nonzero r.number)

  pub bindings_went : (b : Answer) (v : Unit) → o ≡ Ok v → b ≡ pair_step derived rs e M → state b M T ≡ binding_steps derived stage i e L S
  bindings_went b v z h = rw (← q, ← steps, z, ← h)

-- ---- the entry point

names_of : (ws : List ℕ) (k : ℕ) → decoded_number (decode ws) ≡ 0 → Named (interface_of (decode ws)) (entry_point_nth (interface_of (decode ws)).entries k)
names_of ws k z = record { encodable = given_encodable ws z; below = given_below ws z k; pairs = given_pairs ws z k; outputs = given_outputs ws z k }

pub names_at : (ws : List ℕ) (p : EntryParts) (k : ℕ) → decoded_number (decode ws) ≡ 0 → standing ws p ≡ entry_point_nth (interface_of (decode ws)).entries k
    → Named (interface_of (decode ws)) (standing ws p)
names_at ws p k z e = rw e (names_of ws k z)

-- the resources by the table of their positions
module _ (ws offsets : List ℕ) (z : decoded_number (decode ws) ≡ 0) (o : Offsets ws offsets) where
  pub table_inside : Inside ws offsets
  unfolding resource_table
  table_inside = record { words = λ i h. o.within z i (counted ws offsets i h).0 }

  module _ (rs : List Resource) (q : rs ≡ resource_table ws offsets) where
    pub table_listed : rs ≡ (interface_of (decode ws)).resources
    unfolding resource_table
    table_listed = q ∙ o.resources z

    pub table_encodable : each_encodable rs ≡ true
    table_encodable = rw table_listed (given_encodable ws z)

out_words_lem : (ws : List ℕ) (p : EntryParts) (s : Summary) → Summed ws p s → 2 + 2 * s.locals ≡ out_words (standing ws p)
unfolding summary_of
out_words_lem ws p s g = rw g.outputs

module _ (derived : Bool) (q : Request) (t : Lent) (i : Interface) (e : EntryPoint) (ws : List ℕ) (p : EntryParts) (s : Summary) (ef : standing ws p ≡ e)
    (g : Summed ws p s) where
  pub entry_short : (a : Answer) (l z o : List ℕ) → l ≡ t.layout → z ≡ t.sizes → o ≡ t.out → a ≡ refused 4 → length t.out < 2 + 2 * s.locals
      → outcome a l z o ≡ on_entry_point derived q t i e
  entry_short a l z o el ez eo ea h = rw (← ef, ← out_words_lem ws p s g, lt-ltb (length t.out) (2 + 2 * s.locals) h, ea, el, ez, eo)

  pub entry_went : (x : Outcome) → 2 + 2 * s.locals ≤ length t.out → x ≡ run_body derived q t i (standing ws p) → x ≡ on_entry_point derived q t i e
  entry_went x h ex = rw (← ef, ← out_words_lem ws p s g, le-ltb (length t.out) (2 + 2 * s.locals) h) ex

pub room_enough : (ws : List ℕ) (p : EntryParts) (s : Summary) (l : ℕ) → Summed ws p s → 2 + 2 * s.locals ≤ l → out_words (standing ws p) ≤ l
room_enough ws p s l g h = rw (← out_words_lem ws p s g) h

module _ (c : Call) (i : Interface) (s : ShaderStage) (chosen : Option ℕ) (es : s ≡ (request_of c.codes).stage) (ec : chosen ≡ find_entry_point s c.name i.entries) where
  on_found : (x : Outcome) → x ≡ on_chosen (derived_of c.codes) (request_of c.codes) c.lent i chosen → x ≡ on_named c i
  on_found x h =
      let f : chosen ≡ find_entry_point (request_of c.codes).stage c.name i.entries = ec ∙ rw es in
      h ∙ ap (on_chosen (derived_of c.codes) (request_of c.codes) c.lent i) f

  pub chosen_at : (k : ℕ) (x : Outcome) → chosen ≡ Some k
      → x ≡ on_entry_point (derived_of c.codes) (request_of c.codes) c.lent i (entry_point_nth i.entries k) → x ≡ on_named c i
  chosen_at k x e ex = on_found x (rw e ex)

  module _ (a : Answer) (l z o : List ℕ) (el : l ≡ c.lent.layout) (ez : z ≡ c.lent.sizes) (eo : o ≡ c.lent.out) (ea : a ≡ refused 10) where
    pub chosen_absent : chosen ≡ None → outcome a l z o ≡ on_named c i
    chosen_absent e = on_found (outcome a l z o) (rw (e, ea, el, ez, eo))

pub chosen_below : (chosen : Option ℕ) (k n : ℕ) → chosen ≡ Some k → IfSome chosen (λ i. i < n) → k < n
chosen_below chosen k n ec h = rw ec at h

-- ---- the call

pub request_read : (c : Codes) (s : ShaderStage) → s ≡ stage_at c.stage
    → ◌≡◌ {A = Request} (record { stage = s; topology = c.topology; dual_source = eqb c.dual_source 1; depth = eqb c.depth 1 }) (request_of c)
request_read c s e = rw e

-- a test that fails, and one that holds with others behind it
module _ (a b c : Bool) (e : c ≡ a) where
  pub test_fails : c ≡ false → false ≡ (a && b)
  test_fails f = rw (← e, f)

  pub test_holds : (r : Bool) → c ≡ true → r ≡ b → r ≡ (a && b)
  test_holds r t h = rw (← e, t) h

pub ruleset tests_on = (test_fails, test_holds)

-- what a call with good lists has
module _ (layout sizes inputs : List ℕ) (codes r : Bool) (er : r ≡ (lists_good layout sizes inputs && codes)) (t : r ≡ true) where
  pub good_layout : layout_well_formed layout ≡ true
  unfolding lists_good
  good_layout = let h = sym er ∙ t in search first

  pub good_sizes : sizes_well_formed sizes ≡ true
  unfolding lists_good
  good_sizes = let h = sym er ∙ t in search (first, second)

  pub good_inputs : out_well_formed inputs ≡ true
  unfolding lists_good
  good_inputs = let h = sym er ∙ t in search (first, second)
