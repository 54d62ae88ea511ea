-- The ways through the inputs of an entry point.
use Rattle.std.proofs.Common.{Option, Some, None, Result, Ok, Err}
use Prim.Native.Nat.{ℕ, ◌+◌, ◌-◌, ◌/◌, ◌%◌, ◌^◌, ◌<◌, ◌≤◌}
use native.Mathlib.Omega.{arith}
use mathlib.Core.Path.{◌≡◌, refl, ◌∙◌}
use mathlib.Core.Bool.{Bool, true, false, ◌||◌}
use mathlib.Core.List.{List, [], ◌∷◌}
use lib.Dec.{eqb}
use lib.ListN.{drop}
use borrow.Author.Tests.{eq-eqb, ne_eqb}
use Rattle.word.specs.Choice.{pick, yes}
use Rattle.word.specs.Words.{word_at, content_of, bits, bit}
use Rattle.word.specs.Answers.{accepted}
use Rattle.word.specs.declared.answer.Answer.{Answer}
use Rattle.numeric.specs.TypeWords.{type_of}
use Rattle.numeric.proofs.Subtype.{fits_itself}
use Rattle.bindings.proofs.DerivedTypes.{same_bool_lem}
use Rattle.varying.specs.Format.{location_well_formed, var_of}
use Rattle.varying.specs.declared.InterfaceVar.{InterfaceVar}
use Rattle.varying.specs.declared.Located.{Located}
use Rattle.numeric.proofs.Joined.{kind_back}
use Rattle.stage_lists.specs.Meaning.{varying_at}
use Rattle.stage_lists.specs.Format.{variable_found}
use Rattle.interface.specs.Format.{built_in_of}
use Rattle.interface.specs.Inner.Reads.{varying, varying_width, varyings}
use Rattle.interface.specs.declared.types.ShaderStage.{ShaderStage}
use Rattle.interface.specs.declared.types.BuiltIn.{BuiltIn}
use Rattle.interface.specs.declared.types.BuiltIn.TheVariants as In
use Rattle.interface.specs.declared.types.Varying.{Varying}
use Rattle.interface.specs.declared.types.Varying.TheVariants as Var
use Rattle.input_steps.specs.Inputs.{Walked, vertex_input, fragment_input, input_number, local_step, met_local, met_built_in, walked, input_step, input_steps}
use Rattle.input_steps.specs.declared.types.InputWalk.{InputWalk}
use Rattle.word.specs.Refusals.{answer_of, refusal_answer}
use Rattle.word.specs.declared.refusal.Refusal.{Refusal}
use Rattle.word.proofs.Both.{number_nonzero}
use Rattle.input_steps.proofs.VaryingLaws.{varyings_more, varyings_none}

-- ---- one local input

module _ (w p : ℕ) where
  pub vertex_kind : (w / 16 % 4 ≡ p / 16 % 4 → ⊥) → 51 ≡ vertex_input (var_of w) (var_of p)
  unfolding vertex_input var_of type_of
  vertex_kind n = rw (kind_back (bits 5 4 w) (omega arith), kind_back (bits 5 4 p) (omega arith), ne_eqb (bits 5 4 w) (bits 5 4 p) n)

  pub vertex_primitive : w / 16 % 4 ≡ p / 16 % 4 → w / 0x4_0000 % 2 ≡ 1 → 54 ≡ vertex_input (var_of w) (var_of p)
  unfolding vertex_input var_of type_of yes
  vertex_primitive e t =
      rw (kind_back (bits 5 4 w) (omega arith), kind_back (bits 5 4 p) (omega arith), eq-eqb (bits 5 4 w) (bits 5 4 p) e, eq-eqb (bit 18 w) 1 t)

  pub vertex_good : w / 16 % 4 ≡ p / 16 % 4 → (w / 0x4_0000 % 2 ≡ 1 → ⊥) → 0 ≡ vertex_input (var_of w) (var_of p)
  unfolding vertex_input var_of type_of yes
  vertex_good e n =
      rw (kind_back (bits 5 4 w) (omega arith), kind_back (bits 5 4 p) (omega arith), eq-eqb (bits 5 4 w) (bits 5 4 p) e, ne_eqb (bit 18 w) 1 n)

fragment_itself : (v : InterfaceVar) → 0 ≡ fragment_input v v
unfolding fragment_input
fragment_itself v =
    rw (
      eq-eqb v.interpolation v.interpolation refl,
      eq-eqb v.sampling v.sampling refl,
      fits_itself v.ty,
      same_bool_lem v.per_primitive,
    )

pub fragment_same : (w p : ℕ) → w ≡ p → 0 ≡ fragment_input (var_of w) (var_of p)
fragment_same w p e = rw e (fragment_itself (var_of p))

module _ (stage : ShaderStage) (iv : InterfaceVar) (l : List ℕ) (f : Option ℕ) (p : Option InterfaceVar) (e : variable_found l f ≡ p) where
  pub number_found : (i y r : ℕ) → f ≡ Some i → y ≡ word_at l i → r ≡ input_number stage iv (Some (var_of y)) → r ≡ input_number stage iv p
  number_found i y r n g h = let q : Some (var_of (word_at l i)) ≡ p = rw n at e in h ∙ rw (g, q)

  pub number_missing : f ≡ None → 50 ≡ input_number stage iv p
  unfolding input_number
  number_missing n = let q : None ≡ p = rw n at e in rw (← q)

-- ---- one input by its words, which a test tells apart

module _ (x y : ℕ) (t : Bool) (ht : t ≡ location_well_formed x) (stage : ShaderStage) (provided : List Located) (w : InputWalk) where
  pub step_built_in : t ≡ false → input_step stage provided (varying (x ∷ y ∷ [])) w ≡ walked (met_built_in (built_in_of x) w) accepted
  unfolding input_step
  step_built_in f = rw (← ht, f)

  pub step_local : t ≡ true
      → input_step stage provided (varying (x ∷ y ∷ [])) w
      ≡ local_step (input_number stage (var_of y) (varying_at (content_of x) provided)) (content_of x) (var_of y) w
  unfolding input_step
  step_local f = rw (← ht, f)

-- a step meets at most one local input
chosen_locals : (b : Bool) (iv : InterfaceVar) (w : InputWalk) (x y : Answer) → (pick b (walked (met_local iv w) x) (walked w y)).walk.locals ≤ w.locals + 1
chosen_locals true iv w x y = omega arith
chosen_locals false iv w x y = omega arith

built_in_locals : (b : BuiltIn) (w : InputWalk) → (met_built_in b w).locals ≡ w.locals
built_in_locals (In.Other slots) w = refl
built_in_locals (In.PrimitiveIndex slots) w = refl
built_in_locals (In.DrawIndex slots) w = refl
built_in_locals (In.FragDepth slots) w = refl
built_in_locals (In.ClipDistances size) w = refl

step_locals : (stage : ShaderStage) (provided : List Located) (v : Varying) (w : InputWalk) → (input_step stage provided v w).walk.locals ≤ w.locals + 1
unfolding input_step
step_locals stage provided (Var.Local location iv) w = chosen_locals (eqb (input_number stage iv (varying_at location provided)) 0) iv w _ _
step_locals stage provided (Var.BuiltIn b) w = omega (arith, built_in_locals b w)

-- ---- each input in order

pub locals_left : (stage : ShaderStage) (provided : List Located) (v : Varying) (w x : InputWalk) (n i : ℕ)
    → x ≡ (input_step stage provided v w).walk → i < n → w.locals + (n - i) < 2 ^ 31 → x.locals + (n - (i + 1)) < 2 ^ 31
locals_left stage provided v w x n i e h k =
    let m : x.locals ≤ w.locals + 1 = rw e (step_locals stage provided v w) in
    omega (arith, m, h, k)

-- the inputs from a position on, when as many of them as are counted have been met
module _ (stage : ShaderStage) (provided : List Located) (ws : List ℕ) (n i at : ℕ) (w : InputWalk) (goal : Walked)
    (inv : goal ≡ input_steps stage provided (varyings (n - i) (drop at ws)) w) where
  module _ (h : i < n) (v : Varying) (d : v ≡ varying (drop at ws)) (x : InputWalk) (o : Result Unit Refusal)
      (e : answer_of o ≡ (input_step stage provided v w).answer) (f : x ≡ (input_step stage provided v w).walk) where
    pub inputs_refused : (r : Refusal) → o ≡ Err r → goal ≡ walked x (refusal_answer r)
    unfolding input_steps
    inputs_refused r g =
        let a : refusal_answer r ≡ (input_step stage provided v w).answer = rw g at e in
        inv ∙ rw (varyings_more ws n i at h, ← d, ← a, number_nonzero r.number) (rw (a, f))

    pub inputs_onward : (u : Unit) (next : ℕ) → o ≡ Ok u → next ≡ at + varying_width (drop at ws)
        → goal ≡ input_steps stage provided (varyings (n - (i + 1)) (drop next ws)) x
    unfolding input_steps
    inputs_onward u next g p =
        let a : accepted ≡ (input_step stage provided v w).answer = rw g at e in
        inv ∙ rw (varyings_more ws n i at h, ← d, ← a, p, f)

  pub inputs_ended : n ≤ i → goal ≡ walked w accepted
  unfolding input_steps
  inputs_ended h = let none : n - i ≡ 0 = omega (arith, h) in inv ∙ rw (varyings_none (drop at ws) (n - i) none)

-- ---- a local input that is met

pub met_local_lem : (w : ℕ) (walk : InputWalk) (b : Bool) → b ≡ (walk.per_vertex || eqb (w / 0x1000 % 8) 4)
    → ◌≡◌ {A = InputWalk}
    (record { primitive_index = walk.primitive_index; draw_index = walk.draw_index; per_vertex = b; locals = walk.locals + 1 }) (met_local (var_of w) walk)
unfolding var_of
met_local_lem w walk b e = rw e
