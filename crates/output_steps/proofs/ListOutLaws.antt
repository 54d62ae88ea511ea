-- What a stage hands on: one output after the other, and the words behind them.
use Rattle.std.proofs.Common.{Option, Some, None}
use Prim.Native.Nat.{ℕ, zero, suc, ◌+◌, ◌-◌, ◌*◌, ◌<◌, ◌≤◌}
use native.Mathlib.Omega.{arith}
use mathlib.Core.Path.{◌≡◌, refl, sym, ap, ◌∙◌}
use mathlib.Core.Bool.{Bool, true, false, ◌||◌}
use mathlib.Core.List.{List, [], ◌∷◌}
use lib.ListN.{length, drop, set, length-drop, length-set}
use lib.Seq.{drop-drop}
use borrow.Author.Tests.{eq-eqb, ne_eqb}
use Rattle.word.specs.Choice.{pick}
use Rattle.word.proofs.Tests.{yes_true, yes_false}
use Rattle.word.proofs.Lists.{first_passes, rest_passes}
use Rattle.word.specs.Words.{word_at, kind_of, content_of}
use Rattle.word.specs.Lists.{every}
use Rattle.varying.specs.Format.{var_of, located_encodable, payload_encodable}
use Rattle.varying.proofs.Joined.{payload_encodable_lem}
use Rattle.varying.specs.declared.Located.{Located}
use Rattle.stage_lists.specs.Meaning.{StageIo, rising, varying_at, is_provided, insert, inserted}
use Rattle.stage_lists.specs.Format.{out_well_formed, decode_stage, encode_stage}
use Rattle.stage_lists.proofs.InsertLaws.{rising_insert, insert_length, longer}
use Rattle.stage_lists.proofs.StageLists.{good, good_decode, encode_decode}
use Rattle.interface.specs.Inner.Reads.{varying, varying_width, varyings, standing}
use Rattle.interface.specs.declared.types.EntryParts.{EntryParts}
use Rattle.interface.specs.declared.types.ShaderStage.{ShaderStage}
use Rattle.interface.specs.declared.types.ShaderStage.TheVariants as Stage
use Rattle.interface.specs.declared.types.Varying.{Varying}
use Rattle.interface.specs.declared.types.Varying.TheVariants as Var
use Rattle.output_steps.specs.Outputs.{is_local, local_count}
use Rattle.output_steps.specs.ListOut.{locals_of, primitive_out, stage_out}
use Rattle.output_steps.specs.Inner.Summary.{summary_of}
use Rattle.output_steps.specs.Inner.Given.{Summed}
use Rattle.output_steps.specs.Inner.ListOut.{output_encodable, handed}
use Rattle.input_steps.specs.declared.types.InputWalk.{InputWalk}
use Rattle.output_steps.specs.declared.types.Summary.{Summary}
use Rattle.interface.proofs.ReadsWays.{width_there}
use Rattle.input_steps.proofs.VaryingLaws.{varyings_left, varyings_none, varying_words_lem}

module _ (stage : ShaderStage) (w : Bool) where
  pub mesh_written : stage ≡ Stage.Mesh → w ≡ true → (Some true) ≡ primitive_out stage w
  mesh_written d e = rw (d, yes_true w e)

  pub mesh_unwritten : stage ≡ Stage.Mesh → w ≡ false → (Some false) ≡ primitive_out stage w
  mesh_unwritten d e = rw (d, yes_false w e)

  pub no_mesh : (s : ShaderStage) → stage ≡ s → None ≡ primitive_out s w → None ≡ primitive_out stage w
  no_mesh s d h = rw d h

-- ---- one output

module _ (x y k : ℕ) (ek : k ≡ kind_of x) where
  module _ (t : k ≡ 12) where
    pub local_few : (n : ℕ) → n + is_local (varying (x ∷ y ∷ [])) ≤ 63 → n < 63
    local_few n h = let m : n + 1 ≤ 63 = rw (← ek, eq-eqb k 12 t) at h in omega arith

    pub local_roomy : (n : ℕ) → 2 * is_local (varying (x ∷ y ∷ [])) ≤ n → 2 ≤ n
    local_roomy n h = rw (← ek, eq-eqb k 12 t) at h

    there_local : varying (x ∷ y ∷ []) ≡ Var.Local (content_of x) (var_of y)
    there_local = rw (← ek, eq-eqb k 12 t)

    pub local_encodable : output_encodable (varying (x ∷ y ∷ [])) ≡ true → located_encodable (record { location = content_of x; var = var_of y }) ≡ true
    local_encodable h = ap output_encodable (sym there_local) ∙ h

    pub local_handed : (S T : StageIo) → T ≡ inserted (record { location = content_of x; var = var_of y }) S → T ≡ handed (varying (x ∷ y ∷ [])) S
    unfolding handed
    local_handed S T h = h ∙ ap (λ v. handed v S) (sym there_local)

  pub built_in_handed : (S : StageIo) → (k ≡ 12 → ⊥) → S ≡ handed (varying (x ∷ y ∷ [])) S
  unfolding handed
  built_in_handed S t = rw (← ek, ne_eqb k 12 t)

-- ---- all outputs in order

unfoldable pub handed_all : List Varying → StageIo → StageIo
handed_all [] S = S
handed_all (v ∷ vs) S = handed_all vs (handed v S)

abbrev pub out_of : Option Bool → Option ℕ → List Located → List ℕ → StageIo
out_of p q vs out = record { primitive = p; payload = q; varyings = vs; room = drop (2 + 2 * length vs) out }

room_kept : (b : Bool) (n k : ℕ) (out : List ℕ) → k ≡ longer b n → pick b (drop (2 + 2 * n) out) (drop 2 (drop (2 + 2 * n) out)) ≡ drop (2 + 2 * k) out
room_kept true n k out e = rw e
room_kept false n k out e =
    let m : 2 + 2 * n + 2 ≡ 2 + 2 * k = omega (arith, e) in
    drop-drop 2 (2 + 2 * n) out ∙ ap (λ (i : ℕ). drop i out) m

handed_out_lem : (p : Option Bool) (q : Option ℕ) (v : Located) (vs : List Located) (out : List ℕ) → rising vs ≡ true
    → inserted v (out_of p q vs out) ≡ out_of p q (insert v vs) out
unfolding inserted
handed_out_lem p q v vs out h =
    rw (room_kept (is_provided (varying_at v.location vs)) (length vs) (length (insert v vs)) out (insert_length v vs h))

handed_all_lem : (p : Option Bool) (q : Option ℕ) (all : List Varying) (vs : List Located) (out : List ℕ) → rising vs ≡ true
    → handed_all all (out_of p q vs out) ≡ out_of p q (locals_of all vs) out
unfolding handed_all handed locals_of
handed_all_lem p q [] vs out h = refl
handed_all_lem p q (Var.Local location iv ∷ all) vs out h =
    let v : Located = record { location = location; var = iv } in
    rw (handed_out_lem p q v vs out h) (handed_all_lem p q all (insert v vs) out (rising_insert v vs h))
handed_all_lem p q (Var.BuiltIn b ∷ all) vs out h = handed_all_lem p q all vs out h

-- ---- room for what is left

pub record Roomy (rest : List Varying) (S : StageIo) : Type 0 where
  pub few : length S.varyings + local_count rest ≤ 63
  pub room : 2 * local_count rest ≤ length S.room
  pub encodable : every output_encodable rest ≡ true

locals_few : (n : ℕ) (ws : List ℕ) → local_count (varyings n ws) ≤ n
unfolding local_count varyings
locals_few zero ws = omega arith
locals_few (suc n) ws = omega (arith, locals_few n (drop (varying_width ws) ws), local_one (varying ws))
  where
    local_one : (v : Varying) → is_local v ≤ 1
    local_one (Var.Local location iv) = omega arith
    local_one (Var.BuiltIn b) = omega arith

module _ (ws : List ℕ) (from n : ℕ) (p : Option Bool) (q : Option ℕ) (out : List ℕ) (S : StageIo)
    (begun : S ≡ record { primitive = p; payload = q; varyings = []; room = drop 2 out }) where
  pub begun_roomy : n ≤ 63 → every output_encodable (varyings n (drop from ws)) ≡ true → 2 + 2 * local_count (varyings n (drop from ws)) ≤ length out
      → Roomy (varyings n (drop from ws)) S
  begun_roomy few encodable room =
      rw begun
      (record {
        few = omega (arith, few, locals_few n (drop from ws));
        room = omega (arith, room, length-drop 2 out);
        encodable = encodable;
      })

  begun_all : out_of p q (locals_of (varyings n (drop from ws)) []) out ≡ handed_all (varyings n (drop from ws)) S
  unfolding rising
  begun_all = sym (rw begun (handed_all_lem p q (varyings n (drop from ws)) [] out refl))

-- one output more
longer_by : (b : Bool) (n : ℕ) → longer b n ≤ n + 1
longer_by true n = omega arith
longer_by false n = omega arith

room_by : (b : Bool) (room : List ℕ) → length room ≤ length (pick b room (drop 2 room)) + 2
room_by true room = omega arith
room_by false room = omega (arith, length-drop 2 room)

handed_few : (v : Varying) (S : StageIo) → rising S.varyings ≡ true → length (handed v S).varyings ≤ length S.varyings + is_local v
unfolding handed inserted
handed_few (Var.Local location iv) S h =
    let w : Located = record { location = location; var = iv } in
    omega (arith, insert_length w S.varyings h, longer_by (is_provided (varying_at location S.varyings)) (length S.varyings))
handed_few (Var.BuiltIn b) S h = omega arith

handed_room : (v : Varying) (S : StageIo) → length S.room ≤ length (handed v S).room + 2 * is_local v
unfolding handed inserted
handed_room (Var.Local location iv) S = room_by (is_provided (varying_at location S.varyings)) S.room
handed_room (Var.BuiltIn b) S = omega arith

roomy_more : (v : Varying) (vs : List Varying) (S : StageIo) → rising S.varyings ≡ true → Roomy (v ∷ vs) S → Roomy vs (handed v S)
unfolding local_count every
roomy_more v vs S h r =
    record {
      few = omega (arith, r.few, handed_few v S h);
      room = omega (arith, r.room, handed_room v S);
      encodable = rest_passes (output_encodable v) (every output_encodable vs) r.encodable;
    }

module _ (ws : List ℕ) (k at x y : ℕ) (h : k ≡ 0 → ⊥) (ex : x ≡ word_at ws at) (ey : y ≡ word_at ws (at + 1)) where
  these : varyings k (drop at ws) ≡ varying (x ∷ y ∷ []) ∷ varyings (k - 1) (drop (at + varying_width (drop at ws)) ws)
  these = varyings_left ws k at h ∙ rw (varying_words_lem ws at x y ex ey)

  module _ (S : StageIo) (r : Roomy (varyings k (drop at ws)) S) where
    pub next_encodable : output_encodable (varying (x ∷ y ∷ [])) ≡ true
    unfolding every
    next_encodable = first_passes (output_encodable (varying (x ∷ y ∷ []))) (every output_encodable (varyings (k - 1) (drop (at + varying_width (drop at ws)) ws))) (rw these at r).encodable

    pub next_few : length S.varyings + is_local (varying (x ∷ y ∷ [])) ≤ 63
    unfolding local_count
    next_few = omega (arith, (rw these at r).few)

    pub next_room : 2 * is_local (varying (x ∷ y ∷ [])) ≤ length S.room
    unfolding local_count
    next_room = omega (arith, (rw these at r).room)

module _ (ws : List ℕ) (k at x y width : ℕ) (out : List ℕ) (T : StageIo) (e : T ≡ handed (varying (x ∷ y ∷ [])) (decode_stage out))
    (ex : x ≡ word_at ws at) (ey : y ≡ word_at ws (at + 1)) (d : width ≡ varying_width (x ∷ [])) (h : k ≡ 0 → ⊥) where
  others : varyings k (drop at ws) ≡ varying (x ∷ y ∷ []) ∷ varyings (k - 1) (drop (at + width) ws)
  others = these ws k at x y h ex ey ∙ rw (d, width_there ws at x ex)

  pub roomy_onward : out_well_formed out ≡ true → Roomy (varyings k (drop at ws)) (decode_stage out) → Roomy (varyings (k - 1) (drop (at + width) ws)) T
  roomy_onward f r =
      rw e
      (roomy_more (varying (x ∷ y ∷ [])) (varyings (k - 1) (drop (at + width) ws)) (decode_stage out) (good (decode_stage out) (good_decode out f)).rises
      (rw others at r))

  pub all_onward : (goal : StageIo) → goal ≡ handed_all (varyings k (drop at ws)) (decode_stage out) → goal ≡ handed_all (varyings (k - 1) (drop (at + width) ws)) T
  unfolding handed_all
  all_onward goal inv = inv ∙ rw (others, e)

pub as_long : (lent begun out : List ℕ) (head : ℕ) → length begun ≡ length lent → length out ≡ length begun → length (set out 0 head) ≡ length lent
as_long lent begun out head e f = length-set out 0 head ∙ (f ∙ e)

pub all_ended : (ws : List ℕ) (from n k at : ℕ) (p : Option Bool) (q : Option ℕ) (lent out : List ℕ) (S : StageIo)
    → S ≡ record { primitive = p; payload = q; varyings = []; room = drop 2 lent } → k ≡ 0 → out_well_formed out ≡ true
    → handed_all (varyings n (drop from ws)) S ≡ handed_all (varyings k (drop at ws)) (decode_stage out)
    → out ≡ encode_stage (out_of p q (locals_of (varyings n (drop from ws)) []) lent)
unfolding handed_all
all_ended ws from n k at p q lent out S begun z f inv =
    sym (ap encode_stage (begun_all ws from n p q lent S begun ∙ inv ∙ rw (varyings_none (drop at ws) k z)) ∙ encode_decode out f)

-- ---- the list out of an entry point that stands at positions

pub payload_read_encodable : (ws : List ℕ) (p : EntryParts) (q : Option ℕ) → q ≡ (standing ws p).payload → payload_encodable q ≡ true
unfolding standing
payload_read_encodable ws p q e = rw e (payload_encodable_lem (word_at ws (p.workgroup + 3)))

module _ (ws : List ℕ) (p : EntryParts) (vs : List Varying) (e : vs ≡ (standing ws p).outputs) where
  pub outputs_encodable : every output_encodable (standing ws p).outputs ≡ true → every output_encodable vs ≡ true
  outputs_encodable h = rw e h

  pub outputs_room : (l : ℕ) → 2 + 2 * local_count (standing ws p).outputs ≤ l → 2 + 2 * local_count vs ≤ l
  outputs_room l h = rw e h

  pub list_out : (stage : ShaderStage) (walk : InputWalk) (s : Summary) (b : Bool) (i : Option Bool) (q : Option ℕ) (out o : List ℕ)
      → Summed ws p s → b ≡ (walk.primitive_index || s.primitive) → i ≡ primitive_out stage b
      → q ≡ (standing ws p).payload
      → o ≡ encode_stage (out_of i q (locals_of vs []) out)
      → o ≡ encode_stage (stage_out stage (standing ws p) walk out)
  unfolding stage_out summary_of
  list_out stage walk s b i q out o g eb ei eq eo = eo ∙ rw (ei, eb, g.outputs, e, eq)
