-- What the definitions say of the pack of document 01's listing: one vertex entry point 'main' with a uniform buffer of 64 bytes at group 0, binding 3.
use Rattle.std.proofs.Common.{None}
use Prim.Native.Nat.{ℕ, ◌%◌, ◌^◌}
use mathlib.Core.Path.{◌≡◌, refl}
use mathlib.Core.Bool.{true, false}
use mathlib.Core.List.{List, [], ◌∷◌, ◌++◌, map}
use lib.ListN.{take, set}
use Rattle.word.specs.Choice.{yes}
use Rattle.word.specs.Words.{sum_of, closing_sum}
use Rattle.word.specs.Parse.{several}
use Rattle.word.specs.Lists.{among, flat, every}
use Rattle.bindings.specs.Format.{read_resource, resource_type_well_formed, resource_type_of, resource_words, type_encodable}
use Rattle.bindings.specs.declared.types.AddressSpace.TheVariants as Space
use Rattle.bindings.specs.declared.types.ResourceType.TheVariants as Res
use Rattle.varying.specs.Format.{payload_well_formed, payload_of, payload_word}
use Rattle.interface.specs.Meaning.{Interface}
use Rattle.interface.specs.Format.{Pack, read_name, bytes_of, no_zero, all_zero, read_workgroup, read_mesh, read_varying, contents, pairs_of, clips, of_type, read_entry_point}
use Rattle.interface.specs.Format.{same_bytes, has_name, distinct_names, read_pack, damaged, decode, decoded_number, pack_name, entry_point_words, record_words, encode}
use Rattle.interface.specs.Encodable.{entry_point_encodable, interface_encodable}
use Rattle.interface.specs.declared.types.ShaderStage.TheVariants as Stage

pub listing : List ℕ
listing =
    0x801001b ∷ 0x10010001
    ∷ 0x18000010 ∷ 0x18000008 ∷ 0x18000100 ∷ 0x18000100 ∷ 0x18000040 ∷ 0x18000100 ∷ 0x18000100 ∷ 0x18000100 ∷ 0x18000100 ∷ 0x18000100 ∷ 0x18000100
    ∷ 0x18000100 ∷ 0x18004000
    ∷ 0x20000003 ∷ 0x80000000 ∷ 0x30000040
    ∷ 0x38040000 ∷ 0x6e69616d ∷ 0x40000000 ∷ 0x40000000 ∷ 0x40000000 ∷ 0x48000000 ∷ 0x78040000 ∷ 0x28000000
    ∷ 0x6e73ab24 ∷ []

pub listed : Interface
listed =
    record {
      limits =
          record {
            max_inter_stage_shader_variables = 16;
            max_color_attachments = 8;
            max_compute_workgroup_size_x = 256;
            max_compute_workgroup_size_y = 256;
            max_compute_workgroup_size_z = 64;
            max_compute_invocations_per_workgroup = 256;
            max_task_invocations_per_dimension = 256;
            max_task_invocations_per_workgroup = 256;
            max_mesh_invocations_per_dimension = 256;
            max_mesh_invocations_per_workgroup = 256;
            max_mesh_output_vertices = 256;
            max_mesh_output_primitives = 256;
            max_task_payload_size = 16384;
          };
      resources = record { bind = record { group = 0; binding = 3 }; ty = Res.Buffer 64 Space.Uniform } ∷ [];
      entries =
          record {
            stage = Stage.Vertex;
            name = 0x6d ∷ 0x61 ∷ 0x69 ∷ 0x6e ∷ [];
            dual = false;
            workgroup = record { x = 0; y = 0; z = 0 };
            payload = None;
            mesh = None;
            resources = 0 ∷ [];
            pairs = [];
            inputs = [];
            outputs = [];
          } ∷ [];
    }

-- the listing with another word at a place, summed anew
abbrev still_well_formed : ℕ → ℕ → List ℕ
still_well_formed place w = let ws = take 26 (set listing place w) in ws ++ (sum_of ws % 2 ^ 32 ∷ [])

-- the listing is read whole, its meaning can be encoded and written as it stood
pub listing_read : (decode listing ≡ Pack listed) × (interface_encodable listed ≡ true) × (encode listed ≡ listing)
unfolding listing listed
    sum_of closing_sum several read_resource resource_type_well_formed resource_type_of resource_words payload_well_formed payload_of payload_word yes
    read_name bytes_of no_zero all_zero read_workgroup read_mesh read_varying contents pairs_of clips among of_type read_entry_point same_bytes has_name distinct_names read_pack damaged decode
    flat pack_name entry_point_words record_words encode every type_encodable entry_point_encodable interface_encodable
listing_read = (refl, refl, refl)

-- another total is damaged; a second resource, where there is none, and a zero byte in the name are malformed
pub listing_changed : map (λ ws. decoded_number (decode ws)) (still_well_formed 0 0x801001c ∷ still_well_formed 1 0x10020001 ∷ still_well_formed 19 0x6e00616d ∷ []) ≡ 1 ∷ 2 ∷ 2 ∷ []
unfolding listing
    sum_of closing_sum several read_resource resource_type_well_formed resource_type_of payload_well_formed yes
    read_name bytes_of no_zero all_zero read_workgroup read_mesh read_varying contents pairs_of clips among of_type read_entry_point same_bytes has_name distinct_names read_pack damaged decode
listing_changed = refl
