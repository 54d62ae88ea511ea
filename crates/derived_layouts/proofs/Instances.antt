-- Demand 3 at work: an instance that meets what the theorem asks for, and packs outside each of its five conditions, refused when put again.
use Rattle.std.proofs.Common.{None}
use Prim.Native.Nat.{ℕ, ◌*◌, ◌^◌}
use mathlib.Core.Path.{◌≡◌, refl}
use mathlib.Core.Bool.{Bool, true, false, ◌&&◌}
use mathlib.Core.List.{List, [], ◌∷◌}
use lib.Dec.{eqb}
use lib.ListN.{replicate}
use Rattle.word.specs.Choice.{pick, yes}
use Rattle.word.specs.Words.{of_kind, sum_of, closing_sum}
use Rattle.word.specs.Answers.{answer, accepted}
use Rattle.numeric.specs.declared.types.ScalarKind.TheVariants as Kinds
use Rattle.numeric.specs.declared.types.NumericDimension.TheVariants as Dims
use Rattle.bindings.specs.declared.types.AddressSpace.TheVariants as Space
use Rattle.bindings.specs.declared.types.ImageDimension.TheVariants as Dim
use Rattle.bindings.specs.declared.types.SampleKind.TheVariants as Kind
use Rattle.bindings.specs.declared.types.ImageClass.TheVariants as Class
use Rattle.bindings.specs.declared.types.Resource.{Resource}
use Rattle.bindings.specs.declared.types.ResourceType.{ResourceType}
use Rattle.bindings.specs.declared.types.ResourceType.TheVariants as Res
use Rattle.interface.specs.Meaning.{Interface, entry_point_nth}
use Rattle.interface.specs.Format.{stage_code, read_varying, clips, bytes_of, no_zero, all_zero, read_name, read_workgroup, read_mesh, contents, of_type, pairs_of}
use Rattle.interface.specs.declared.types.ShaderStage.{ShaderStage}
use Rattle.interface.specs.declared.types.ShaderStage.TheVariants as Stage
use Rattle.interface.specs.declared.types.Varying.{Varying}
use Rattle.interface.specs.declared.types.Varying.TheVariants as Var
use Rattle.interface.specs.declared.types.SamplingPair.{SamplingPair}
use Rattle.interface.specs.declared.types.Limits.{Limits}
use Rattle.input_steps.specs.Workgroup.{workgroup_use, workgroup_step}
use Rattle.input_steps.specs.Inputs.{input_step, input_steps}
use Rattle.output_steps.specs.Outputs.{clip_slot_count, built_in_slot_count, local_count, location_uses, vertex_outputs, any_of, attachment_use, fragment_slots, fragment_outputs, slots_step}
use Rattle.last_steps.specs.Last.{mesh_use, payload_match, primitive_use, draw_use, per_vertex_use, last_step}
use Rattle.output_steps.specs.ListOut.{locals_of, stage_out}
use Rattle.stage.specs.Meaning.{Call, codes, lent, call}
use Rattle.derived_layouts.specs.Theorem.{derived_over, put_again, pack_reusable, interface_of_call, RoomEnough, Again, run_over, lacking}
use Rattle.derived_layouts.proofs.Theorem.{derived_serves}
use Rattle.word.specs.Parse.{several}
use Rattle.word.specs.Lists.{flat, among, every}
use Rattle.numeric.specs.TypeWords.{type_well_formed, type_of, type_word}
use Rattle.bindings.specs.Rules.{same_space, buffer_use, sampler_use, view_fits, sampled_fits, storage_fits, texture_use, check_binding_use, same_binding, derived_texture}
use Rattle.bindings.specs.Rules.{derive_binding_type}
use Rattle.derived_layouts.specs.Reusable.{resource_reusable}
use Rattle.bindings.specs.Format.{resource_type_well_formed, resource_type_of, read_resource, resource_words, binding_type_well_formed, binding_type_of, entry_well_formed, entry_of}
use Rattle.bindings.specs.Format.{binding_code, entry_words}
use Rattle.varying.specs.Format.{var_well_formed, var_of, var_word, payload_well_formed, payload_of, payload_word}
use Rattle.places.specs.Places.{place_from, place_in, distinct_places}
use Rattle.layouts.specs.Meaning.{pushed, join_at, joined, entry_nth}
use Rattle.sizes.specs.Meaning.{raise_at, recorded}
use Rattle.stage_lists.specs.Meaning.{varying_at, rising, insert}
use Rattle.places.specs.Records.{past, each, put, count_of, records}
use Rattle.layouts.specs.Format.{groups_of, layout_head, layout_well_formed, decode_layout, encode_layout}
use Rattle.sizes.specs.Format.{sizes_head, sizes_well_formed, decode_sizes, encode_sizes}
use Rattle.stage_lists.specs.Format.{stage_head, out_well_formed, decode_stage, encode_stage}
use Rattle.interface.specs.Format.{read_entry_point, same_bytes, has_name, distinct_names, read_pack, damaged, decode, pack_name, entry_point_words, record_words, encode}
use Rattle.entry_points.specs.Rules.{find_from}
use Rattle.resource_steps.specs.Resources.{resource_nth, record_size, provided_use, provide_step, provide_steps, occupied, vacant, derive_step, named_texture, derive_steps, resource_steps}
use Rattle.resource_steps.specs.Resources.{pair_number, pair_use, pair_uses}
use Rattle.stage.specs.Stage.{judgement, stage_body, call_good, finish, run_body, check_stage, behind_inputs, lists_good}

-- ---- packs and calls

abbrev limits : Limits
limits =
    record {
      max_inter_stage_shader_variables = 16;
      max_color_attachments = 8;
      max_compute_workgroup_size_x = 256;
      max_compute_workgroup_size_y = 256;
      max_compute_workgroup_size_z = 64;
      max_compute_invocations_per_workgroup = 256;
      max_task_invocations_per_dimension = 256;
      max_task_invocations_per_workgroup = 256;
      max_mesh_invocations_per_dimension = 256;
      max_mesh_invocations_per_workgroup = 256;
      max_mesh_output_vertices = 256;
      max_mesh_output_primitives = 256;
      max_task_payload_size = 16384;
    }

-- the bytes of 'main'
abbrev name : List ℕ
name = 109 ∷ 97 ∷ 105 ∷ 110 ∷ []

-- a pack of one entry point
abbrev only : ShaderStage → List Resource → List ℕ → List SamplingPair → List Varying → Interface
only stage resources indexes pairs outputs =
    record {
      limits = limits;
      resources = resources;
      entries =
          record {
            stage = stage;
            name = name;
            dual = false;
            workgroup = record { x = 1; y = 1; z = 1 };
            payload = None;
            mesh = None;
            resources = indexes;
            pairs = pairs;
            inputs = [];
            outputs = outputs;
          }
          ∷ [];
    }

-- a stage list with nothing in it, and a layout list of one group with room for four entries
abbrev nothing : List ℕ
nothing = of_kind 11 0 ∷ of_kind 9 0 ∷ []

abbrev start : List ℕ
start = of_kind 17 (2 ^ 16 * 1) ∷ replicate 16 0

abbrev calls : ShaderStage → Interface → List ℕ → Call
calls stage i out = call (encode i) name (codes (stage_code stage) 3 1 0 0) (lent [] (of_kind 20 0 ∷ []) nothing out)

abbrev at : ℕ → ResourceType → Resource
at binding ty = record { bind = record { group = 0; binding = binding }; ty = ty }

abbrev flat_texture : Bool → ResourceType
flat_texture arrayed = Res.Texture Dim.D2 arrayed (Class.Sampled Kind.Float false)

-- ---- two accepted calls and a refused one between them

-- a uniform buffer, and a variable at location 0 handed on
abbrev vertex : Call
vertex =
    calls Stage.Vertex
    (only Stage.Vertex (at 0 (Res.Buffer 64 Space.Uniform) ∷ []) (0 ∷ []) []
    (Var.Local 0 (record { ty = record { dim = Dims.Scalar; scalar = record { kind = Kinds.Float; width = 4 } }; interpolation = 1; sampling = 0; per_primitive = false }) ∷ []))
    (0 ∷ 0 ∷ 0 ∷ 0 ∷ [])

-- a sampler, which is recorded, and then that buffer with another size
abbrev compute : Call
compute = calls Stage.Compute (only Stage.Compute (at 1 (Res.Sampler false) ∷ at 0 (Res.Buffer 32 Space.Uniform) ∷ []) (0 ∷ 1 ∷ []) [] []) (0 ∷ 0 ∷ [])

-- the buffer, and a texture sampled with the sampler
abbrev fragment : Call
fragment =
    calls Stage.Fragment
    (only Stage.Fragment (at 0 (Res.Buffer 64 Space.Uniform) ∷ at 2 (flat_texture false) ∷ at 1 (Res.Sampler false) ∷ []) (0 ∷ 1 ∷ 2 ∷ [])
    (record { texture = 1; sampler = 2 } ∷ []) [])
    (0 ∷ 0 ∷ [])

abbrev run : List Call
run = vertex ∷ compute ∷ fragment ∷ []

-- room for the size of one buffer, and other words than zero to write over
abbrev sizes : List ℕ
sizes = of_kind 20 0 ∷ 7 ∷ 7 ∷ []

abbrev out : List ℕ
out = 7 ∷ 7 ∷ 7 ∷ 7 ∷ 7 ∷ []

pub record Met : Type 0 where
  pub well_formed : layout_well_formed start ≡ true
  pub first : (check_stage (derived_over start vertex)).answer ≡ accepted
  pub second : (check_stage (derived_over (run_over start (vertex ∷ [])) compute)).answer ≡ answer 29 0 0 0
  pub third : (check_stage (derived_over (run_over start (vertex ∷ compute ∷ [])) fragment)).answer ≡ accepted
  pub reusable_first : pack_reusable (interface_of_call vertex) ≡ true
  pub reusable_third : pack_reusable (interface_of_call fragment) ≡ true
  pub room_first : RoomEnough vertex sizes out
  pub room_third : RoomEnough fragment sizes out

pub met : Met
unfolding yes sum_of closing_sum several type_well_formed type_of type_word same_space buffer_use sampler_use view_fits sampled_fits storage_fits texture_use check_binding_use
    same_binding derived_texture derive_binding_type resource_reusable resource_type_well_formed resource_type_of read_resource resource_words binding_type_well_formed binding_type_of entry_well_formed
    entry_of binding_code entry_words var_well_formed var_of var_word payload_well_formed payload_of payload_word place_from place_in distinct_places entry_nth pushed join_at
    joined raise_at recorded varying_at rising insert past records each flat put groups_of count_of layout_head layout_well_formed decode_layout encode_layout
    sizes_head sizes_well_formed decode_sizes encode_sizes stage_head out_well_formed decode_stage encode_stage read_varying clips bytes_of no_zero all_zero read_name
    read_workgroup read_mesh contents among of_type pairs_of read_entry_point same_bytes has_name distinct_names read_pack damaged decode pack_name
    entry_point_words record_words encode entry_point_nth find_from workgroup_use workgroup_step input_step input_steps clip_slot_count built_in_slot_count local_count
    location_uses vertex_outputs any_of attachment_use fragment_slots fragment_outputs slots_step mesh_use payload_match primitive_use draw_use per_vertex_use
    last_step locals_of stage_out resource_nth record_size provided_use provide_step provide_steps occupied vacant derive_step named_texture derive_steps resource_steps
    pair_number pair_use pair_uses behind_inputs judgement stage_body lists_good call_good finish run_body check_stage run_over every lacking
met =
    record {
      well_formed = refl;
      first = refl;
      second = refl;
      third = refl;
      reusable_first = refl;
      reusable_third = refl;
      room_first = record { passes4 = refl; passes3 = refl; free = refl };
      room_third = record { passes4 = refl; passes3 = refl; free = refl };
    }

pub first_again : Again (check_stage (derived_over start vertex)) (check_stage (put_again (run_over start run) sizes out vertex))
unfolding run_over
first_again = (derived_serves start met.well_formed run).again [] (compute ∷ fragment ∷ []) vertex refl met.first met.reusable_first sizes out met.room_first

pub third_again :
    Again (check_stage (derived_over (run_over start (vertex ∷ compute ∷ [])) fragment)) (check_stage (put_again (run_over start run) sizes out fragment))
third_again =
    (derived_serves start met.well_formed run).again (vertex ∷ compute ∷ []) [] fragment refl met.third met.reusable_third sizes out met.room_third

-- ---- outside the five conditions

-- a compute stage over one resource, or over a texture and a sampler that are a pair
abbrev lone : ResourceType → Call
lone ty = calls Stage.Compute (only Stage.Compute (at 0 ty ∷ []) (0 ∷ []) [] []) (0 ∷ 0 ∷ [])

abbrev joint : ResourceType → Bool → Call
joint texture comparison =
    calls Stage.Compute (only Stage.Compute (at 0 texture ∷ at 1 (Res.Sampler comparison) ∷ []) (0 ∷ 1 ∷ []) (record { texture = 0; sampler = 1 } ∷ []) [])
    (0 ∷ 0 ∷ [])

-- whether the conditions hold, the answer in derived mode, and the answer when put again
pub record Case : Type 0 where
  pub call : Call
  pub reusable : Bool
  pub again : ℕ

abbrev right : Case → Bool
right c =
    eqb (pick (pack_reusable (interface_of_call c.call)) 1 0) (pick c.reusable 1 0)
    && (eqb (check_stage (derived_over start c.call)).answer.number 0
    && eqb (check_stage (put_again (check_stage (derived_over start c.call)).layout sizes (0 ∷ 0 ∷ []) c.call)).answer.number c.again)

pub all_right : List Case → Bool
all_right [] = true
all_right (c ∷ cs) = let rest = all_right cs in pick (right c) rest false

abbrev storage : ℕ → ResourceType
storage access = Res.Buffer 64 (Space.Storage access)

abbrev stored : ℕ → ResourceType
stored access = Res.Texture Dim.D2 false (Class.Storage 9 access)

pub cases : List Case
cases =
    -- storage buffers: load, load with store; neither, store alone
    record { call = lone (storage 1); reusable = true; again = 0 } ∷
    record { call = lone (storage 3); reusable = true; again = 0 } ∷
    record { call = lone (storage 0); reusable = false; again = 23 } ∷
    record { call = lone (storage 2); reusable = false; again = 23 } ∷
    -- arrayed textures: 2D; 1D, 3D
    record { call = lone (flat_texture true); reusable = true; again = 0 } ∷
    record { call = lone (Res.Texture Dim.D1 true (Class.Sampled Kind.Float false)); reusable = false; again = 26 } ∷
    record { call = lone (Res.Texture Dim.D3 true (Class.Sampled Kind.Float false)); reusable = false; again = 26 } ∷
    -- external textures: 2D; arrayed, cube
    record { call = lone (Res.Texture Dim.D2 false Class.External); reusable = true; again = 0 } ∷
    record { call = lone (Res.Texture Dim.D2 true Class.External); reusable = false; again = 26 } ∷
    record { call = lone (Res.Texture Dim.Cube false Class.External); reusable = false; again = 26 } ∷
    -- atomic storage textures: with load and store; alone, with load
    record { call = lone (stored 7); reusable = true; again = 0 } ∷
    record { call = lone (stored 4); reusable = false; again = 27 } ∷
    record { call = lone (stored 5); reusable = false; again = 27 } ∷
    -- pairs: float with a filtering sampler, sint with a comparison sampler; sint or uint with a filtering sampler
    record { call = joint (flat_texture false) false; reusable = true; again = 0 } ∷
    record { call = joint (Res.Texture Dim.D2 false (Class.Sampled Kind.Sint false)) true; reusable = true; again = 0 } ∷
    record { call = joint (Res.Texture Dim.D2 false (Class.Sampled Kind.Sint false)) false; reusable = false; again = 33 } ∷
    record { call = joint (Res.Texture Dim.D2 false (Class.Sampled Kind.Uint false)) false; reusable = false; again = 33 } ∷
    []

pub cases_right : all_right cases ≡ true
unfolding all_right cases yes sum_of closing_sum several type_well_formed type_of type_word same_space buffer_use sampler_use view_fits sampled_fits storage_fits texture_use check_binding_use
    same_binding derived_texture derive_binding_type resource_reusable resource_type_well_formed resource_type_of read_resource resource_words binding_type_well_formed binding_type_of entry_well_formed
    entry_of binding_code entry_words var_well_formed var_of var_word payload_well_formed payload_of payload_word place_from place_in distinct_places entry_nth pushed join_at
    joined raise_at recorded varying_at rising insert past records each flat put groups_of count_of layout_head layout_well_formed decode_layout encode_layout
    sizes_head sizes_well_formed decode_sizes encode_sizes stage_head out_well_formed decode_stage encode_stage read_varying clips bytes_of no_zero all_zero read_name
    read_workgroup read_mesh contents among of_type pairs_of read_entry_point same_bytes has_name distinct_names read_pack damaged decode pack_name
    entry_point_words record_words encode entry_point_nth find_from workgroup_use workgroup_step input_step input_steps clip_slot_count built_in_slot_count local_count
    location_uses vertex_outputs any_of attachment_use fragment_slots fragment_outputs slots_step mesh_use payload_match primitive_use draw_use per_vertex_use
    last_step locals_of stage_out resource_nth record_size provided_use provide_step provide_steps occupied vacant derive_step named_texture derive_steps resource_steps
    pair_number pair_use pair_uses behind_inputs judgement stage_body lists_good call_good finish run_body check_stage run_over every lacking
cases_right = refl
