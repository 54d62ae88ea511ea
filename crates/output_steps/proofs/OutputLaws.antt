-- The ways through outputs and slots.
use Prim.Native.Nat.{ℕ, ◌+◌, ◌-◌, ◌*◌, ◌%◌, ◌<◌, ◌≤◌, ◌^◌, max, ◌/◌}
use native.Mathlib.Nat.{add-zero, zero-add, max-zero, zero-max}
use native.Mathlib.Omega.{arith}
use mathlib.Core.Path.{◌≡◌, refl, sym, ◌∙◌}
use mathlib.Core.Bool.{Bool, true, false, not, ◌&&◌, ◌||◌, or-false}
use mathlib.Core.List.{List, [], ◌∷◌}
use mathlib.Core.Logic.{◌⊎◌, inl, inr}
use lib.Dec.{eqb, ltb}
use lib.ListN.{length, drop}
use borrow.Author.Tests.{eq-eqb, ne_eqb, lt-ltb, le-ltb, ltb-true}
use Rattle.word.specs.Choice.{pick, yes}
use Rattle.word.specs.Words.{word_at, kind_of, content_of, bits}
use Rattle.word.proofs.Truth.{by_test}
use Rattle.word.proofs.Both.{number_nonzero}
use Rattle.word.specs.Refusals.{answer_of, refusal_answer}
use Rattle.word.specs.declared.refusal.Refusal.{Refusal}
use Rattle.std.proofs.Common.{Result, Ok, Err, Option, Some, None}
use Rattle.word.specs.Answers.{accepted, refused, both}
use Rattle.word.specs.declared.answer.Answer.{Answer}
use Rattle.varying.specs.Format.{location_well_formed, payload_of}
use Rattle.word.proofs.Parse.{first_of}
use Rattle.interface.specs.Format.{local, built_in_of, topology_at}
use Rattle.interface.specs.Inner.Reads.{varying, varying_width, varyings, standing}
use Rattle.interface.specs.Inner.Parts.{varyings_end, Placed}
use Rattle.interface.specs.declared.types.EntryParts.{EntryParts}
use Rattle.interface.specs.declared.types.PrimitiveTopology.{PrimitiveTopology}
use Rattle.interface.specs.declared.types.WorkgroupSize.{WorkgroupSize}
use Rattle.interface.specs.declared.types.BuiltIn.{BuiltIn}
use Rattle.interface.specs.declared.types.BuiltIn.TheVariants as In
use Rattle.interface.specs.declared.types.Varying.{Varying}
use Rattle.interface.specs.declared.types.Varying.TheVariants as Var
use Rattle.output_steps.specs.Inner.Given.{Summed}
use Rattle.output_steps.specs.Outputs.{is_local, clip_part, built_in_part, is_depth, is_primitive, local_count, clip_slot_count, built_in_slot_count, any_of, location_use, location_uses, count_use, point_part, vertex_outputs, fragment_slots, attachment_use}
use Rattle.output_steps.specs.Inner.Summary.{reach_part, reach_of, nothing, summary_of, plus}
use Rattle.output_steps.specs.declared.types.Summary.{Summary}
use Rattle.interface.proofs.ReadsWays.{width_there}
use Rattle.input_steps.proofs.VaryingLaws.{varyings_left, varyings_none, Ahead, ahead_onward}

-- varyings are left where the index is below their number
pub left_some : (n i : ℕ) → i < n → n - i ≡ 0 → ⊥
left_some n i h z = omega arith

-- ---- summaries

any_joined : (a t b : Bool) → (a || pick t true b) ≡ ((a || pick t true false) || b)
any_joined true t b = refl
any_joined false true b = refl
any_joined false false b = refl

count_joined : (a x b : ℕ) → a + (x + b) ≡ a + (x + 0) + b
count_joined a x b = omega arith

reach_joined : (a x b : ℕ) → max a (max x b) ≡ max (max a (max x 0)) b
reach_joined a x b = omega arith

plus_more : (a : Summary) (v : Varying) (vs : List Varying) → plus a (summary_of (v ∷ vs)) ≡ plus (plus a (summary_of (v ∷ []))) (summary_of vs)
unfolding summary_of local_count clip_slot_count built_in_slot_count reach_of any_of
plus_more a v vs =
    rw (
      count_joined a.locals (is_local v) (local_count vs),
      count_joined a.clip_slots (clip_part v) (clip_slot_count vs),
      count_joined a.built_in_slots (built_in_part v) (built_in_slot_count vs),
      reach_joined a.reach (reach_part v) (reach_of vs),
      any_joined a.depth (is_depth v) (any_of is_depth vs),
      any_joined a.primitive (is_primitive v) (any_of is_primitive vs),
    )

plus_end : (a : Summary) → plus a (summary_of []) ≡ a
unfolding summary_of local_count clip_slot_count built_in_slot_count reach_of any_of
plus_end a = simp (add-zero, max-zero, or-false)

plus_start : (vs : List Varying) → summary_of vs ≡ plus nothing (summary_of vs)
unfolding summary_of
plus_start vs = simp (zero-add, zero-max)

-- a varying by itself
abbrev pub part_of : Varying → Summary
part_of v =
    record { locals = is_local v; clip_slots = clip_part v; built_in_slots = built_in_part v; reach = reach_part v; depth = is_depth v; primitive = is_primitive v }

pick_itself : (b : Bool) → pick b true false ≡ b
pick_itself true = refl
pick_itself false = refl

one_varying : (v : Varying) → summary_of (v ∷ []) ≡ part_of v
unfolding summary_of local_count clip_slot_count built_in_slot_count reach_of any_of
one_varying v = simp (add-zero, max-zero, pick_itself)

-- a built-in by itself
pub built_in_one : (b : BuiltIn) (r : Summary) → r ≡ part_of (Var.BuiltIn b) → r ≡ summary_of (Var.BuiltIn b ∷ [])
built_in_one b r e = e ∙ sym (one_varying (Var.BuiltIn b))

-- the clip distances that a word means are at most as many as a byte counts
pub clip_few : (b : BuiltIn) (w size : ℕ) → b ≡ built_in_of w → b ≡ In.ClipDistances size → size < 256
clip_few b w size e f = go (eqb (bits 26 24 w) 0) (eqb (bits 26 24 w) 1) (eqb (bits 26 24 w) 2) (eqb (bits 26 24 w) 3) (sym f ∙ e)
  where
    go : (a b c d : Bool) → In.ClipDistances size ≡ pick a (In.Other (bits 7 0 w)) (pick b (In.PrimitiveIndex (bits 7 0 w)) (pick c (In.DrawIndex (bits 7 0 w))
        (pick d (In.FragDepth (bits 7 0 w)) (In.ClipDistances (bits 7 0 w))))) → size < 256
    go true b c d x = let y : ◌≡◌ {A = ℕ} 0 1 = cc in absurd (omega arith)
    go false true c d x = let y : ◌≡◌ {A = ℕ} 0 1 = cc in absurd (omega arith)
    go false false true d x = let y : ◌≡◌ {A = ℕ} 0 1 = cc in absurd (omega arith)
    go false false false true x = let y : ◌≡◌ {A = ℕ} 0 1 = cc in absurd (omega arith)
    go false false false false x = let y : size ≡ bits 7 0 w = cc in omega arith

-- ---- a varying by its first word

module _ (w k : ℕ) (ek : k ≡ kind_of w) where
  pub with_local : (s : Summary) (location r : ℕ) → k ≡ 12 → location ≡ content_of w → r ≡ max s.reach (location + 1)
      → ◌≡◌ {A = Summary}
      (record {
        locals = s.locals + 1;
        clip_slots = s.clip_slots;
        built_in_slots = s.built_in_slots;
        reach = r;
        depth = s.depth;
        primitive = s.primitive;
      })
      (plus s (summary_of (varying (w ∷ []) ∷ [])))
  with_local s location r h e m = rw (m, e, ← ek, eq-eqb k 12 h, one_varying (local w 0)) (simp (add-zero, or-false))

  pub with_built_in : (s p r : Summary) → (k ≡ 12 → ⊥) → p ≡ summary_of (Var.BuiltIn (built_in_of w) ∷ []) → r ≡ plus s p
      → r ≡ plus s (summary_of (varying (w ∷ []) ∷ []))
  with_built_in s p r n e f = rw (← ek, ne_eqb k 12 n, ← e) f

-- the type of a local variable does not matter
module _ (ws : List ℕ) (at w : ℕ) (ew : w ≡ word_at ws at) where
  pub ahead_by : (n width : ℕ) → Ahead ws n at → (n ≡ 0 → ⊥) → width ≡ varying_width (w ∷ []) → Ahead ws (n - 1) (at + width)
  ahead_by n width i h x = ahead_onward ws n at i h (at + width) (rw (x, width_there ws at w ew))

  first_summary : summary_of (varying (w ∷ []) ∷ []) ≡ summary_of (varying (drop at ws) ∷ [])
  first_summary =
      rw (first_of ws at, ← ew, one_varying (varying (w ∷ [])), one_varying (pick (location_well_formed w) (local w (word_at (drop at ws) 1)) (Var.BuiltIn (built_in_of w))))
      (go (location_well_formed w))
    where
      go : (t : Bool) → part_of (pick t (local w 0) (Var.BuiltIn (built_in_of w))) ≡ part_of (pick t (local w (word_at (drop at ws) 1)) (Var.BuiltIn (built_in_of w)))
      go true = refl
      go false = refl

  first_location : (number past limit : ℕ) → location_use number past limit (varying (w ∷ [])) ≡ location_use number past limit (varying (drop at ws))
  first_location number past limit = rw (first_of ws at, ← ew) (go (location_well_formed w))
    where
      go : (t : Bool) → location_use number past limit (pick t (local w 0) (Var.BuiltIn (built_in_of w)))
          ≡ location_use number past limit (pick t (local w (word_at (drop at ws) 1)) (Var.BuiltIn (built_in_of w)))
      go true = refl
      go false = refl

-- ---- the sums of a pass stay small

pub record Small (s : Summary) : Type 0 where
  pub locals : s.locals ≤ 1
  pub clip : s.clip_slots ≤ 64
  pub built_in : s.built_in_slots ≤ 255

built_in_small : (b : BuiltIn) (w : ℕ) → b ≡ built_in_of w → Small (part_of (Var.BuiltIn b))
built_in_small b w e = rw e (go (eqb (bits 26 24 w) 0) (eqb (bits 26 24 w) 1) (eqb (bits 26 24 w) 2) (eqb (bits 26 24 w) 3))
  where
    go : (a b c d : Bool)
        → Small (part_of (Var.BuiltIn (pick a (In.Other (bits 7 0 w)) (pick b (In.PrimitiveIndex (bits 7 0 w)) (pick c (In.DrawIndex (bits 7 0 w))
        (pick d (In.FragDepth (bits 7 0 w)) (In.ClipDistances (bits 7 0 w))))))))
    go true b c d = record { locals = omega arith; clip = omega arith; built_in = omega arith }
    go false true c d = record { locals = omega arith; clip = omega arith; built_in = omega arith }
    go false false true d = record { locals = omega arith; clip = omega arith; built_in = omega arith }
    go false false false true = record { locals = omega arith; clip = omega arith; built_in = omega arith }
    go false false false false = record { locals = omega arith; clip = omega arith; built_in = omega arith }

varying_small : (w : ℕ) (t : Bool) → Small (part_of (pick t (local w 0) (Var.BuiltIn (built_in_of w))))
varying_small w true = record { locals = omega arith; clip = omega arith; built_in = omega arith }
varying_small w false = built_in_small (built_in_of w) w refl

part_small : (w : ℕ) → Small (summary_of (varying (w ∷ []) ∷ []))
part_small w = rw (one_varying (varying (w ∷ []))) (varying_small w (location_well_formed w))

module _ (w : ℕ) (s : Summary) (e : s ≡ summary_of (Var.BuiltIn (built_in_of w) ∷ [])) where
  built_in_part_lem : Small s
  built_in_part_lem = rw (e, one_varying (Var.BuiltIn (built_in_of w))) (built_in_small (built_in_of w) w refl)

  pub part_locals : s.locals < 2 ^ 31
  part_locals = omega (arith, built_in_part_lem.locals)

  pub part_clip : s.clip_slots < 2 ^ 31
  part_clip = omega (arith, built_in_part_lem.clip)

  pub part_built_in : s.built_in_slots < 2 ^ 31
  part_built_in = omega (arith, built_in_part_lem.built_in)

-- what the varyings that are left may still add
pub record Within (s : Summary) (left : ℕ) : Type 0 where
  pub locals : s.locals + left ≤ 63
  pub clip : s.clip_slots + 64 * left ≤ 63 * 64
  pub built_in : s.built_in_slots + 255 * left ≤ 63 * 255

pub within_start : (s : Summary) (n : ℕ) → s ≡ nothing → n ≤ 63 → Within s n
within_start s n e h = rw e (record { locals = omega arith; clip = omega arith; built_in = omega arith })

pub within_more : (w : ℕ) (s r : Summary) (left : ℕ) → r ≡ plus s (summary_of (varying (w ∷ []) ∷ [])) → (left ≡ 0 → ⊥) → Within s left → Within r (left - 1)
within_more w s r left f n h =
    let q = part_small w in
    rw f (record { locals = omega (arith, h.locals, q.locals); clip = omega (arith, h.clip, q.clip); built_in = omega (arith, h.built_in, q.built_in) })

-- ---- one pass

pub summary_start : (vs : List Varying) (s : Summary) → s ≡ nothing → summary_of vs ≡ plus s (summary_of vs)
summary_start vs s e = rw e (plus_start vs)

module _ (ws : List ℕ) (k at : ℕ) (s goal : Summary) (inv : goal ≡ plus s (summary_of (varyings k (drop at ws)))) where
  pub summary_onward : (w : ℕ) (r : Summary) (width : ℕ) → (k ≡ 0 → ⊥) → w ≡ word_at ws at → r ≡ plus s (summary_of (varying (w ∷ []) ∷ []))
      → width ≡ varying_width (w ∷ []) → goal ≡ plus r (summary_of (varyings (k - 1) (drop (at + width) ws)))
  summary_onward w r width h d f x =
      let others : List Varying = varyings (k - 1) (drop (at + width) ws) in
      inv ∙ rw (varyings_left ws k at h, ← width_there ws at w d, ← x)
      (plus_more s (varying (drop at ws)) others ∙ rw (← first_summary ws at w d, f))

  pub summary_ended : k ≡ 0 → s ≡ goal
  summary_ended h = sym (inv ∙ rw (varyings_none (drop at ws) k h) (plus_end s))

-- ---- locations

module _ (number past limit : ℕ) (ws : List ℕ) (k at : ℕ) (goal : Answer) (inv : goal ≡ location_uses number past limit (varyings k (drop at ws))) where
  module _ (w : ℕ) (o : Result Unit Refusal) (h : k ≡ 0 → ⊥) (d : w ≡ word_at ws at) (e : answer_of o ≡ location_use number past limit (varying (w ∷ []))) where
    use_is : answer_of o ≡ location_use number past limit (varying (drop at ws))
    use_is = e ∙ first_location ws at w d number past limit

    pub locations_refused : (r : Refusal) → o ≡ Err r → refusal_answer r ≡ goal
    unfolding location_uses
    locations_refused r g =
        let u : refusal_answer r ≡ location_use number past limit (varying (drop at ws)) = rw g at use_is in
        sym (inv ∙ rw (varyings_left ws k at h, ← u, number_nonzero r.number))

    pub locations_onward : (u : Unit) (width : ℕ) → o ≡ Ok u → width ≡ varying_width (w ∷ [])
        → goal ≡ location_uses number past limit (varyings (k - 1) (drop (at + width) ws))
    unfolding location_uses
    locations_onward u width g x =
        let u : accepted ≡ location_use number past limit (varying (drop at ws)) = rw g at use_is in
        inv ∙ rw (varyings_left ws k at h, ← u, ← width_there ws at w d, x)

  pub locations_ended : (a : Answer) → k ≡ 0 → a ≡ accepted → a ≡ goal
  unfolding location_uses
  locations_ended a h e = sym (inv ∙ rw (varyings_none (drop at ws) k h, e))

-- a local variable is refused where a bound is below the reach, and nowhere else
reach_within : (number past limit : ℕ) (vs : List Varying) → reach_of vs ≤ past → location_uses number past limit vs ≡ accepted
unfolding reach_of location_uses
reach_within number past limit [] h = refl
reach_within number past limit (Var.Local location iv ∷ vs) h = rw (lt-ltb location past (omega arith)) (reach_within number past limit vs (omega arith))
reach_within number past limit (Var.BuiltIn b ∷ vs) h = reach_within number past limit vs (omega arith)

reach_past : (number past limit : ℕ) (vs : List Varying) → (number ≡ 0 → ⊥) → past < reach_of vs → (location_uses number past limit vs).number ≡ number
unfolding reach_of location_uses
reach_past number past limit [] n h = absurd (omega arith)
reach_past number past limit (Var.Local location iv ∷ vs) n h =
    by_test (ltb location past) (λ t. rw t (reach_past number past limit vs n (omega (arith, ltb-true location past t)))) λ f. rw (f, ne_eqb number 0 n)
reach_past number past limit (Var.BuiltIn b ∷ vs) n h = reach_past number past limit vs n (omega arith)

-- ---- slots

module _ (vs : List Varying) (s : Summary) (hs : s ≡ summary_of vs) where
  clip_is : clip_slot_count vs ≡ s.clip_slots
  unfolding summary_of
  clip_is = rw hs

  locals_are : local_count vs ≡ s.locals
  unfolding summary_of
  locals_are = rw hs

  built_in_is : built_in_slot_count vs ≡ s.built_in_slots
  unfolding summary_of
  built_in_is = rw hs

  depth_is : any_of is_depth vs ≡ s.depth
  unfolding summary_of
  depth_is = rw hs

  module _ (number past limit : ℕ) (a b : Answer) where
    within_reach : s.reach ≤ past → a ≡ b → a ≡ both (location_uses number past limit vs) b
    unfolding summary_of
    within_reach h x = rw (reach_within number past limit vs (rw hs at h)) x

    past_reach : (number ≡ 0 → ⊥) → past < s.reach → a ≡ location_uses number past limit vs → a ≡ both (location_uses number past limit vs) b
    unfolding summary_of
    past_reach n h x = rw (ne_eqb (location_uses number past limit vs).number 0 (λ z. n (sym (reach_past number past limit vs n (rw hs at h)) ∙ z))) x

  module _ (topology limit point : ℕ) (r : Answer) (hp : point ≡ point_part topology) where
    pub vertex_taken : limit < point + s.clip_slots → r ≡ refused 65 → r ≡ vertex_outputs topology limit vs
    unfolding vertex_outputs
    vertex_taken h x = rw (clip_is, ← hp, lt-ltb limit (point + s.clip_slots) h) x

    module _ (h : point + s.clip_slots ≤ limit) where
      pub vertex_clipped : limit < 1 + s.clip_slots → r ≡ refused 65 → r ≡ vertex_outputs topology limit vs
      unfolding vertex_outputs
      vertex_clipped k x = rw (clip_is, ← hp, le-ltb limit (point + s.clip_slots) h, lt-ltb limit (1 + s.clip_slots) k) x

      module _ (k : 1 + s.clip_slots ≤ limit) where
        pub vertex_location_lem : limit - s.clip_slots < s.reach → r ≡ location_uses 60 (limit - s.clip_slots) limit vs → r ≡ vertex_outputs topology limit vs
        unfolding vertex_outputs
        vertex_location_lem m x =
            rw (clip_is, ← hp, le-ltb limit (point + s.clip_slots) h, le-ltb limit (1 + s.clip_slots) k)
            (past_reach 60 (limit - s.clip_slots) limit r _ (λ z. absurd (omega (arith, z))) m x)

        pub vertex_count_lem : s.reach ≤ limit - s.clip_slots → r ≡ count_use 61 s.locals (limit - (point + s.clip_slots)) limit
            → r ≡ vertex_outputs topology limit vs
        unfolding vertex_outputs
        vertex_count_lem m x =
            rw (clip_is, locals_are, ← hp, le-ltb limit (point + s.clip_slots) h, le-ltb limit (1 + s.clip_slots) k)
            (within_reach 60 (limit - s.clip_slots) limit r _ m x)

  module _ (limit locals : ℕ) (r : Answer) where
    pub fragment_taken : limit < s.built_in_slots → r ≡ refused 65 → r ≡ fragment_slots limit locals vs
    unfolding fragment_slots
    fragment_taken h x = rw (built_in_is, lt-ltb limit s.built_in_slots h) x

    module _ (h : s.built_in_slots ≤ limit) where
      pub fragment_location_lem : limit < s.reach → r ≡ location_uses 62 limit limit vs → r ≡ fragment_slots limit locals vs
      unfolding fragment_slots
      fragment_location_lem m x =
          rw (built_in_is, le-ltb limit s.built_in_slots h) (past_reach 62 limit limit r _ (λ z. absurd (omega (arith, z))) m x)

      pub fragment_count_lem : s.reach ≤ limit → r ≡ count_use 63 locals (limit - s.built_in_slots) limit → r ≡ fragment_slots limit locals vs
      unfolding fragment_slots
      fragment_count_lem m x = rw (built_in_is, le-ltb limit s.built_in_slots h) (within_reach 62 limit limit r _ m x)

-- ---- attachments

module _ (ws : List ℕ) (p : EntryParts) (dual : Bool) where
  shader_is : (standing ws p).dual ≡ eqb (word_at ws p.head % 2) 1
  unfolding standing
  shader_is = refl

  pub dual_given : (dual ≡ true × word_at ws p.head % 2 ≡ 1) ⊎ (dual ≡ false) → dual && not (eqb (word_at ws p.head % 2) 1) ≡ false
  dual_given (inl (d, e)) = rw (d, eq-eqb (word_at ws p.head % 2) 1 e)
  dual_given (inr d) = rw d

module _ (ws : List ℕ) (p : EntryParts) (s : Summary) (g : Summed ws p s) (dual depth : Bool) (r : Answer) where
  pub dual_absent : dual ≡ true → (word_at ws p.head % 2 ≡ 1 → ⊥) → r ≡ refused 66
      → r ≡ attachment_use dual depth (standing ws p).dual (standing ws p).outputs
  unfolding attachment_use yes
  dual_absent d n x = rw (shader_is ws p dual, d, ne_eqb (word_at ws p.head % 2) 1 n) x

  module _ (f : dual && not (eqb (word_at ws p.head % 2) 1) ≡ false) where
    pub depth_absent : s.depth ≡ true → not depth ≡ true → r ≡ refused 67 → r ≡ attachment_use dual depth (standing ws p).dual (standing ws p).outputs
    unfolding attachment_use yes
    depth_absent d n x = rw (shader_is ws p dual, f, depth_is (standing ws p).outputs s g.outputs, d, n) x

    pub attachments_good : s.depth && not depth ≡ false → r ≡ accepted → r ≡ attachment_use dual depth (standing ws p).dual (standing ws p).outputs
    unfolding attachment_use yes
    attachments_good d x = rw (shader_is ws p dual, f, depth_is (standing ws p).outputs s g.outputs, d) x

-- ---- an entry point by its parts

module _ (ws : List ℕ) (p : EntryParts) (counts n : ℕ) (hc : counts ≡ word_at ws p.counts) (g : Placed ws p) where
  pub inputs_end_lem : n ≡ bits 11 6 counts → varyings_end ws n p.inputs < length ws
  inputs_end_lem hn = rw (hn, hc) g.inputs_end

  pub outputs_end_lem : n ≡ bits 5 0 counts → varyings_end ws n p.outputs < length ws
  outputs_end_lem hn = rw (hn, hc) g.outputs_end

module _ (ws : List ℕ) (p : EntryParts) (counts n : ℕ) (hc : counts ≡ word_at ws p.counts) where
  pub inputs_read : n ≡ bits 11 6 counts → varyings n (drop p.inputs ws) ≡ (standing ws p).inputs
  unfolding standing
  inputs_read hn = rw (hn, hc)

  pub outputs_read : n ≡ bits 5 0 counts → varyings n (drop p.outputs ws) ≡ (standing ws p).outputs
  unfolding standing
  outputs_read hn = rw (hn, hc)

-- a list of varyings that is an entry point's
module _ (vs us : List Varying) (e : vs ≡ us) (a : Answer) where
  pub slots_as : (limit locals : ℕ) → a ≡ fragment_slots limit locals vs → a ≡ fragment_slots limit locals us
  slots_as limit locals x = rw (← e) x

  pub vertex_as : (topology limit : ℕ) → a ≡ vertex_outputs topology limit vs → a ≡ vertex_outputs topology limit us
  vertex_as topology limit x = rw (← e) x

module _ (ws : List ℕ) (p : EntryParts) (s : Summary) (g : Summed ws p s) where
  pub colours_past : (vs : List Varying) (most : ℕ) (a b : Answer) → vs ≡ (standing ws p).outputs → most < s.reach → a ≡ location_uses 64 most most vs
      → a ≡ both (location_uses 64 most most (standing ws p).outputs) b
  colours_past vs most a b e h x = past_reach (standing ws p).outputs s g.outputs 64 most most a b (λ z. absurd (omega (arith, z))) h (rw (← e) x)

  pub colours_within : (most : ℕ) (a b : Answer) → s.reach ≤ most → a ≡ b → a ≡ both (location_uses 64 most most (standing ws p).outputs) b
  colours_within most a b h x = within_reach (standing ws p).outputs s g.outputs 64 most most a b h x

  pub summed_read : (vs : List Varying) → vs ≡ (standing ws p).outputs → s ≡ summary_of vs
  summed_read vs e = rw e g.outputs

pub summed_here : (ws : List ℕ) (p : EntryParts) (counts n : ℕ) (s : Summary) → counts ≡ word_at ws p.counts → n ≡ bits 5 0 counts
    → s ≡ summary_of (varyings n (drop p.outputs ws)) → s.locals ≤ 63 → s.clip_slots ≤ 63 * 64 → Summed ws p s
summed_here ws p counts n s hc hn e l c = record { outputs = rw (← outputs_read ws p counts n hc hn) e; locals = l; clip = c }

-- ---- parts of an entry point that stands at positions

module _ (ws : List ℕ) (p : EntryParts) where
  pub mesh_absent : (word_at ws p.head / 2 % 2 ≡ 1 → ⊥) → None ≡ (standing ws p).mesh
  unfolding standing
  mesh_absent n = rw (ne_eqb (word_at ws p.head / 2 % 2) 1 n)

  pub mesh_there : (a b c x y z : ℕ) (t : PrimitiveTopology) → word_at ws p.head / 2 % 2 ≡ 1
      → a ≡ word_at ws (p.workgroup + 4) → x ≡ content_of a → b ≡ word_at ws (p.workgroup + 4 + 1) → y ≡ content_of b
      → c ≡ word_at ws (p.workgroup + 4 + 2) → z ≡ content_of c → t ≡ topology_at z
      → Some (record { max_vertices = x; max_primitives = y; primitive_topology = t }) ≡ (standing ws p).mesh
  unfolding standing
  mesh_there a b c x y z t one ea ex eb ey ec ez et = rw (eq-eqb (word_at ws p.head / 2 % 2) 1 one, ← ea, ← eb, ← ec, ← ex, ← ey, ← ez, ← et)

  pub payload_there : (a : ℕ) (r : Option ℕ) → a ≡ word_at ws (p.workgroup + 3) → r ≡ payload_of a → r ≡ (standing ws p).payload
  unfolding standing
  payload_there a r ea er = rw (← ea) er

  pub workgroup_there : (a b c x y z : ℕ) → a ≡ word_at ws p.workgroup → x ≡ content_of a → b ≡ word_at ws (p.workgroup + 1) → y ≡ content_of b
      → c ≡ word_at ws (p.workgroup + 2) → z ≡ content_of c → ◌≡◌ {A = WorkgroupSize} (record { x = x; y = y; z = z }) (standing ws p).workgroup
  unfolding standing
  workgroup_there a b c x y z ea ex eb ey ec ez = rw (← ea, ← eb, ← ec, ← ex, ← ey, ← ez)
