-- An accepted call in derived mode, put again as provided over a list in which nothing was lost.
use Prim.Native.Nat.{ℕ, ◌+◌, ◌*◌, ◌^◌}
use native.Mathlib.Omega.{arith}
use mathlib.Core.Path.{◌≡◌, refl, sym, ◌∙◌}
use mathlib.Core.Bool.{true, false, ◌&&◌}
use mathlib.Core.List.{List, [], ◌∷◌}
use lib.ListN.{length, take}
use lib.Seq.{take-append-le}
use borrow.Author.Tests.{leb-true}
use Rattle.word.specs.Answers.{accepted}
use Rattle.word.specs.Words.{of_kind}
use Rattle.word.specs.Lists.{flat, among}
use Rattle.bindings.specs.Format.{place_encodable, type_encodable}
use Rattle.word.proofs.Truth.{first, second}
use Rattle.varying.specs.Format.{located_words, payload_word}
use Rattle.varying.specs.declared.Located.{Located}
use Rattle.stage_lists.specs.Meaning.{StageIo}
use Rattle.layouts.specs.Format.{layout_well_formed, decode_layout}
use Rattle.sizes.specs.Format.{sizes_well_formed, decode_sizes}
use Rattle.stage_lists.specs.Format.{stage_well_formed, decode_stage, encode_stage, primitive_code}
use Rattle.places.specs.Records.{count_of}
use Rattle.layouts.proofs.LayoutLists.{good, good_decode}
use Rattle.interface.specs.Meaning.{Interface, EntryPoint}
use Rattle.interface.specs.declared.types.ShaderStage.{ShaderStage}
use Rattle.output_steps.specs.ListOut.{stage_out}
use Rattle.input_steps.specs.declared.types.InputWalk.{InputWalk}
use Rattle.stage.specs.Meaning.{Call}
use Rattle.resource_steps.specs.Resources.{resource_nth, named_texture, provided_use, provide_steps, pair_uses}
use Rattle.sizes.specs.Meaning.{size_record_width}
use Rattle.stage.specs.Stage.{lists_good, codes_good, call_good, request_of, input_walk, check_stage}
use Rattle.stage.proofs.GivenLaws.{resource_encodable_lem, entry_pairs}
use Rattle.derived_layouts.specs.Theorem.{derived_over, put_again, pack_reusable, interface_of_call, entry_of_call, lacking, RoomEnough, used, Again}
use Rattle.derived_layouts.proofs.Growth.{Grows}
use Rattle.derived_layouts.proofs.Derives.{HasEntry, has_entry_grows}
use Rattle.derived_layouts.proofs.Packs.{resource_reusable_lem, pairs_reusable_lem}
use Rattle.derived_layouts.proofs.Provides.{placed_serves, provide_steps_lem}
use Rattle.derived_layouts.proofs.Pairs.{pairs_accepted}
use Rattle.derived_layouts.proofs.Bodies.{provided_accepts}
use Rattle.refusals.proofs.Calls.{run_of, Runs, runs_on}
use Rattle.derived_layouts.proofs.Runs.{Leaves, entry_of, run_answer, run_out}

-- ---- the same list out

located_length : (vs : List Located) → length (flat located_words vs) ≡ 2 * length vs
unfolding flat
located_length [] = refl
located_length (v ∷ vs) = omega (arith, located_length vs)

-- the words that a list out is written with
abbrev front : StageIo → List ℕ
front S = of_kind 11 (2 ^ 25 * primitive_code S.primitive + length S.varyings) ∷ payload_word S.payload ∷ flat located_words S.varyings

used_front : (S : StageIo) → used (encode_stage S) ≡ take (2 + 2 * count_of (front S)) (front S)
unfolding encode_stage count_of
used_front S = take-append-le (2 + 2 * count_of (front S)) (front S) S.room (omega (arith, located_length S.varyings))

pub used_same : (stage : ShaderStage) (e : EntryPoint) (w : InputWalk) (a b : List ℕ) → used (encode_stage (stage_out stage e w a)) ≡ used (encode_stage (stage_out stage e w b))
unfolding stage_out
used_same stage e w a b = used_front (stage_out stage e w a) ∙ sym (used_front (stage_out stage e w b))

-- ---- put again

module _ (l final sizes out : List ℕ) (c : Call) (x : Leaves l c) (f : layout_well_formed final ≡ true)
    (g : Grows (decode_layout (check_stage (derived_over l c)).layout) (decode_layout final)) (k : pack_reusable (interface_of_call c) ≡ true) (r : RoomEnough c sizes out) where
  abbrev again : Call
  again = put_again final sizes out c

  abbrev i : Interface
  i = x.runs.interface

  abbrev e : EntryPoint
  e = entry_of (derived_over l c) x.runs

  interface_is : interface_of_call c ≡ i
  interface_is = rw x.runs.decoded

  entry_is : entry_of_call c ≡ e
  entry_is = rw (x.runs.decoded, x.runs.chosen)

  good_again : call_good again.lent again.codes ≡ true
  unfolding call_good lists_good
  good_again =
      let lists = lists_good l c.lent.sizes c.lent.inputs in
      let codes = codes_good again.codes in
      let inputs = second (sizes_well_formed c.lent.sizes) (stage_well_formed c.lent.inputs) (second (layout_well_formed l) (sizes_well_formed c.lent.sizes && stage_well_formed c.lent.inputs) (first lists codes x.runs.good)) in
      rw (f, r.passes3, inputs) (second lists codes x.runs.good)

  runs_again : Runs again
  runs_again =
      record {
        interface = i;
        position = x.runs.position;
        decoded = x.runs.decoded;
        good = good_again;
        chosen = x.runs.chosen;
        room = rw entry_is at r.passes4;
      }

  -- every resource is served over the finished list
  placed_again : (j : ℕ) → among e.resources j ≡ true → HasEntry (request_of c.codes).stage (named_texture j e.pairs) (resource_nth i.resources j) (decode_layout final)
  placed_again j m =
      has_entry_grows (request_of c.codes).stage (named_texture j e.pairs) (resource_nth i.resources j) (decode_layout (check_stage (derived_over l c)).layout) (decode_layout final) g
      (x.placed j m)

  served_again : (j : ℕ) → among e.resources j ≡ true → provided_use (request_of c.codes).stage (decode_layout final) (resource_nth i.resources j) ≡ accepted
  served_again j m =
      let s = resource_nth i.resources j in
      placed_serves (request_of c.codes).stage (named_texture j e.pairs) s (decode_layout final) (good (decode_layout final) (good_decode final f)).distinct (placed_again j m)
      (second (place_encodable s.bind) (type_encodable s.ty) (resource_encodable_lem c.pack i x.runs.decoded j))
      (resource_reusable_lem i (rw interface_is at k) j)

  steps_again : (provide_steps (request_of c.codes).stage (decode_layout final) i.resources e.resources (decode_sizes sizes)).answer ≡ accepted
  steps_again =
      provide_steps_lem (request_of c.codes).stage (decode_layout final) i.resources e.resources (decode_sizes sizes) served_again
      (leb-true (size_record_width * lacking i.resources e.resources (decode_sizes sizes).records) (length (decode_sizes sizes).room) (rw (entry_is, interface_is) at r.free))

  pairs_again : pair_uses (decode_layout final) i.resources e.pairs ≡ accepted
  pairs_again =
      pairs_accepted (request_of c.codes).stage i.resources e.pairs (decode_layout final) (good (decode_layout final) (good_decode final f)).distinct e.resources placed_again
      (entry_pairs c.pack i x.runs.decoded x.runs.position) (pairs_reusable_lem i (rw interface_is at k) x.runs.position)

  answered_again : (run_of again i e).answer ≡ accepted
  answered_again =
      run_answer false (request_of c.codes) again.lent i e
      ∙ provided_accepts (request_of c.codes) i e (decode_stage c.lent.inputs) (decode_layout final) (decode_sizes sizes) steps_again pairs_again x.passed

  pub put_again_lem : Again (check_stage (derived_over l c)) (check_stage again)
  unfolding runs_again
  put_again_lem =
      let w = (input_walk (request_of c.codes) e (decode_stage c.lent.inputs)).walk in
      record {
        passes = rw (runs_on again runs_again) answered_again;
        same =
            rw (runs_on again runs_again, run_out false (request_of c.codes) again.lent i e answered_again, x.written)
            (used_same (request_of c.codes).stage e w out c.lent.out);
      }
