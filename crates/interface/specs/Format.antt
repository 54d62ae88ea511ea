-- How words carry a module pack: a grammar in document 01's order, and the words of a pack.
use Rattle.std.specs.Prelude.{ℕ, zero, suc, ◌+◌, ◌-◌, ◌*◌, ◌/◌, ◌%◌, ◌^◌, Bool, true, false, not, ◌&&◌, ◌||◌, List, [], ◌∷◌, ◌++◌, eqb, leb, ltb, length, take, drop, Option, Some, None}
use Rattle.word.specs.Choice.{pick}
use Rattle.word.specs.Numbers as Number
use Rattle.word.specs.Words.{word_at, kind_of, content_of, bits, bit, of_kind, closing_sum, sum_of}
use Rattle.word.specs.Lists.{among, flat}
use Rattle.word.specs.Parse.{Parsed, fault, got, next, one, several}
use Rattle.bindings.specs.Format.{read_resource, resource_words, flag}
use Rattle.bindings.specs.declared.types.Resource.{Resource}
use Rattle.bindings.specs.declared.types.ResourceType.{ResourceType}
use Rattle.bindings.specs.declared.types.ResourceType.TheVariants as Res
use Rattle.bindings.specs.declared.types.ImageClass.{ImageClass}
use Rattle.bindings.specs.declared.types.ImageClass.TheVariants as Class
use Rattle.varying.specs.Format.{location_well_formed, var_well_formed, var_of, var_word, payload_well_formed, payload_of, payload_word}
use Rattle.interface.specs.Meaning.{EntryPoint, Interface}
use Rattle.interface.specs.declared.types.ShaderStage.{ShaderStage}
use Rattle.interface.specs.declared.types.ShaderStage.TheVariants as Stage
use Rattle.interface.specs.declared.types.PrimitiveTopology.{PrimitiveTopology}
use Rattle.interface.specs.declared.types.PrimitiveTopology.TheVariants as Top
use Rattle.interface.specs.declared.types.BuiltIn.{BuiltIn}
use Rattle.interface.specs.declared.types.BuiltIn.TheVariants as In
use Rattle.interface.specs.declared.types.Varying.{Varying}
use Rattle.interface.specs.declared.types.Varying.TheVariants as Var
use Rattle.interface.specs.declared.types.SamplingPair.{SamplingPair}
use Rattle.interface.specs.declared.types.WorkgroupSize.{WorkgroupSize}
use Rattle.interface.specs.declared.types.Limits.{Limits}
use Rattle.interface.specs.declared.types.EntryPointMeshInfo.{EntryPointMeshInfo}

-- ---- the format's limits

-- 'at most 4,096 words'
abbrev pub most_words : ℕ
most_words = 4096

-- 'resources 0–128'
abbrev pub most_resources : ℕ
most_resources = 128

-- 'entry points 0–16'
abbrev pub most_entries : ℕ
most_entries = 16

-- 'name bytes 1–64'
abbrev pub most_bytes : ℕ
most_bytes = 64

-- ---- codes

-- 'stage 26–24: 0 vertex, 1 fragment, 2 compute, 3 task, 4 mesh'
abbrev pub stage_at : ℕ → ShaderStage
stage_at code =
    pick (eqb code 0) Stage.Vertex
    (pick (eqb code 1) Stage.Fragment (pick (eqb code 2) Stage.Compute (pick (eqb code 3) Stage.Task Stage.Mesh)))

abbrev pub stage_code : ShaderStage → ℕ
stage_code Stage.Vertex = 0
stage_code Stage.Fragment = 1
stage_code Stage.Compute = 2
stage_code Stage.Task = 3
stage_code Stage.Mesh = 4

-- 'topology (0 points, 1 lines, 2 line strip, 3 triangles, 4 triangle strip)'
abbrev pub topology_at : ℕ → PrimitiveTopology
topology_at code =
    pick (eqb code 0) Top.PointList
    (pick (eqb code 1) Top.LineList (pick (eqb code 2) Top.LineStrip (pick (eqb code 3) Top.TriangleList Top.TriangleStrip)))

abbrev pub topology_code : PrimitiveTopology → ℕ
topology_code Top.PointList = 0
topology_code Top.LineList = 1
topology_code Top.LineStrip = 2
topology_code Top.TriangleList = 3
topology_code Top.TriangleStrip = 4

-- ---- varyings

-- '26–24: 0 other, 1 primitive index, 2 draw index, 3 fragment depth, 4 clip distances; 7–0 array size for 4, else inter-stage slots'
abbrev pub built_in_of : ℕ → BuiltIn
built_in_of w =
    pick (eqb (bits 26 24 w) 0) (In.Other (bits 7 0 w))
    (pick (eqb (bits 26 24 w) 1) (In.PrimitiveIndex (bits 7 0 w))
    (pick (eqb (bits 26 24 w) 2) (In.DrawIndex (bits 7 0 w))
    (pick (eqb (bits 26 24 w) 3) (In.FragDepth (bits 7 0 w)) (In.ClipDistances (bits 7 0 w)))))

-- codes below a number: 4 among inputs and 5 among outputs, since 'code 4 stands only among outputs'
abbrev pub built_in_well_formed : ℕ → ℕ → Bool
built_in_well_formed codes w = eqb (kind_of w) 14 && (ltb (bits 26 24 w) codes && eqb (bits 23 8 w) 0)

abbrev pub local : ℕ → ℕ → Varying
local location var = Var.Local (content_of location) (var_of var)

-- 'Varying: kind 12 location, then kind 13 …. Or a built-in, kind 14'
abbrev pub varying_behind : ℕ → ℕ → List ℕ → Parsed Varying
varying_behind codes w rest =
    pick (location_well_formed w) (next (one var_well_formed rest) λ var rest. got (local w var) rest)
    (pick (built_in_well_formed codes w) (got (Var.BuiltIn (built_in_of w)) rest) fault)

unfoldable pub read_varying : ℕ → List ℕ → Parsed Varying
read_varying codes [] = fault
read_varying codes (w ∷ rest) = varying_behind codes w rest

abbrev pub is_clip : Varying → ℕ
is_clip (Var.Local location iv) = 0
is_clip (Var.BuiltIn (In.Other slots)) = 0
is_clip (Var.BuiltIn (In.PrimitiveIndex slots)) = 0
is_clip (Var.BuiltIn (In.DrawIndex slots)) = 0
is_clip (Var.BuiltIn (In.FragDepth slots)) = 0
is_clip (Var.BuiltIn (In.ClipDistances size)) = 1

-- how many clip distances stand among varyings
unfoldable pub clips : List Varying → ℕ
clips [] = 0
clips (v ∷ vs) = is_clip v + clips vs

-- ---- names: 'four bytes a word, low first, zero padded, no zero byte inside'

unfoldable pub bytes_of : List ℕ → List ℕ
bytes_of [] = []
bytes_of (w ∷ ws) = bits 7 0 w ∷ bits 15 8 w ∷ bits 23 16 w ∷ bits 31 24 w ∷ bytes_of ws

unfoldable pub no_zero : List ℕ → Bool
no_zero [] = true
no_zero (b ∷ bs) = let rest = no_zero bs in pick (eqb b 0) false rest

unfoldable pub all_zero : List ℕ → Bool
all_zero [] = true
all_zero (b ∷ bs) = let rest = all_zero bs in pick (eqb b 0) rest false

abbrev pub name_well_formed : ℕ → List ℕ → Bool
name_well_formed n bytes = no_zero (take n bytes) && all_zero (drop n bytes)

abbrev pub name_words : ℕ → ℕ
name_words n = (n + 3) / 4

unfoldable pub read_name : ℕ → List ℕ → Parsed (List ℕ)
read_name n ws =
    next (several (name_words n) (one (λ w. true)) ws) λ words rest.
    pick (name_well_formed n (bytes_of words)) (got (take n (bytes_of words)) rest) fault

-- ---- entry points

-- 'kind 7 (stage 26–24; name bytes 22–16, 1–64; bit 1 mesh record, bit 0 dual source)'
abbrev pub head_well_formed : ℕ → Bool
head_well_formed w =
    eqb (kind_of w) 7 && (ltb (bits 26 24 w) 5 && (eqb (bit 23 w) 0 && (leb 1 (bits 22 16 w) && (leb (bits 22 16 w) most_bytes && eqb (bits 15 2 w) 0))))

abbrev pub of_word : ℕ → ℕ → Bool
of_word kind w = eqb (kind_of w) kind

-- 'three words kind 8, workgroup size'
unfoldable pub read_workgroup : List ℕ → Parsed WorkgroupSize
read_workgroup ws =
    next (one (of_word 8) ws) λ x rest.
    next (one (of_word 8) rest) λ y rest.
    next (one (of_word 8) rest) λ z rest.
    got (record { x = content_of x; y = content_of y; z = content_of z }) rest

abbrev pub topology_well_formed : ℕ → Bool
topology_well_formed w = of_word 10 w && ltb (content_of w) 5

abbrev pub mesh_info : ℕ → ℕ → ℕ → Option EntryPointMeshInfo
mesh_info vertices primitives topology =
    Some (record { max_vertices = content_of vertices; max_primitives = content_of primitives; primitive_topology = topology_at (content_of topology) })

-- 'if marked, three words kind 10: most vertices, most primitives, topology'
unfoldable pub read_mesh : Bool → List ℕ → Parsed (Option EntryPointMeshInfo)
read_mesh false ws = got None ws
read_mesh true ws =
    next (one (of_word 10) ws) λ vertices rest.
    next (one (of_word 10) rest) λ primitives rest.
    next (one topology_well_formed rest) λ topology rest.
    got (mesh_info vertices primitives topology) rest

-- 'kind 15 with four 6-bit counts from bit 23 down'
abbrev pub counts_well_formed : ℕ → Bool
counts_well_formed w = of_word 15 w && eqb (bits 26 24 w) 0

-- 'resource indexes, kind 5'
abbrev pub index_well_formed : ℕ → ℕ → Bool
index_well_formed count w = of_word 5 w && ltb (content_of w) count

unfoldable pub contents : List ℕ → List ℕ
contents [] = []
contents (w ∷ ws) = content_of w ∷ contents ws

abbrev pub sampled_class : ImageClass → Bool
sampled_class (Class.Sampled kind multi) = true
sampled_class (Class.Depth multi) = true
sampled_class (Class.Storage format access) = false
sampled_class Class.External = true

-- 'a type 2, 3 or 5 texture'
abbrev pub is_texture : ResourceType → Bool
is_texture (Res.Buffer size space) = false
is_texture (Res.Sampler comparison) = false
is_texture (Res.Texture dim arrayed class) = sampled_class class
is_texture (Res.AccelerationStructure returns) = false

abbrev pub is_sampler : ResourceType → Bool
is_sampler (Res.Buffer size space) = false
is_sampler (Res.Sampler comparison) = true
is_sampler (Res.Texture dim arrayed class) = false
is_sampler (Res.AccelerationStructure returns) = false

-- whether the resource of an index passes a test; an index past the end passes none
unfoldable pub of_type : (ResourceType → Bool) → List Resource → ℕ → Bool
of_type test [] i = false
of_type test (r ∷ rs) zero = test r.ty
of_type test (r ∷ rs) (suc i) = of_type test rs i

abbrev pub pair_of : ℕ → SamplingPair
pair_of w = record { texture = bits 15 8 w; sampler = bits 7 0 w }

-- 'A pair names a type 2, 3 or 5 texture and a sampler, both in the entry's list'
abbrev pub pair_good : List Resource → List ℕ → SamplingPair → Bool
pair_good resources listed p =
    among listed p.texture && (of_type is_texture resources p.texture
    && (among listed p.sampler && of_type is_sampler resources p.sampler))

-- 'pairs, kind 5 (texture 15–8, sampler 7–0)'
abbrev pub pair_well_formed : List Resource → List ℕ → ℕ → Bool
pair_well_formed resources listed w = of_word 5 w && (eqb (bits 26 16 w) 0 && pair_good resources listed (pair_of w))

unfoldable pub pairs_of : List ℕ → List SamplingPair
pairs_of [] = []
pairs_of (w ∷ ws) = pair_of w ∷ pairs_of ws

-- 'Entry point: kind 7; name; three words kind 8; kind 9 payload; if marked, three words kind 10; kind 15; resource indexes; pairs; inputs; outputs',
-- with clip distances 'at most once'
unfoldable pub read_entry_point : List Resource → List ℕ → Parsed EntryPoint
read_entry_point resources ws =
    next (one head_well_formed ws) λ head rest.
    next (read_name (bits 22 16 head) rest) λ name rest.
    next (read_workgroup rest) λ workgroup rest.
    next (one payload_well_formed rest) λ payload rest.
    next (read_mesh (eqb (bit 1 head) 1) rest) λ mesh rest.
    next (one counts_well_formed rest) λ counts rest.
    next (several (bits 23 18 counts) (one (index_well_formed (length resources))) rest) λ indexes rest.
    next (several (bits 17 12 counts) (one (pair_well_formed resources (contents indexes))) rest) λ pairs rest.
    next (several (bits 11 6 counts) (read_varying 4) rest) λ inputs rest.
    next (several (bits 5 0 counts) (read_varying 5) rest) λ outputs rest.
    pick (leb (clips outputs) 1)
    (got
    (record {
      stage = stage_at (bits 26 24 head);
      name = name;
      dual = eqb (bit 0 head) 1;
      workgroup = workgroup;
      payload = payload_of payload;
      mesh = mesh;
      resources = contents indexes;
      pairs = pairs_of pairs;
      inputs = inputs;
      outputs = outputs;
    })
    rest)
    fault

-- ---- packs

-- 'kind 1 (edition 1 in bits 26–16, total words 15–0)'
abbrev pub edition_well_formed : ℕ → Bool
edition_well_formed w = of_word 1 w && eqb (bits 26 16 w) 1

-- 'kind 2 (resources 0–128 in bits 26–16, entry points 0–16 in 15–0)'
abbrev pub totals_well_formed : ℕ → Bool
totals_well_formed w = of_word 2 w && (leb (bits 26 16 w) most_resources && leb (bits 15 0 w) most_entries)

-- '13 limits of kind 3: inter-stage variables, colour attachments, compute size in x, y, z, compute total, task dimension, task total,
-- mesh dimension, mesh total, mesh vertices, mesh primitives, task payload'
abbrev pub limits_by : ℕ → ℕ → ℕ → ℕ → ℕ → ℕ → ℕ → ℕ → ℕ → ℕ → ℕ → ℕ → ℕ → Limits
limits_by a b c d e f g h i j k l m =
    record {
      max_inter_stage_shader_variables = a;
      max_color_attachments = b;
      max_compute_workgroup_size_x = c;
      max_compute_workgroup_size_y = d;
      max_compute_workgroup_size_z = e;
      max_compute_invocations_per_workgroup = f;
      max_task_invocations_per_dimension = g;
      max_task_invocations_per_workgroup = h;
      max_mesh_invocations_per_dimension = i;
      max_mesh_invocations_per_workgroup = j;
      max_mesh_output_vertices = k;
      max_mesh_output_primitives = l;
      max_task_payload_size = m;
    }

-- the limits that thirteen words hold
abbrev pub limits_of : List ℕ → Limits
limits_of ws =
    limits_by (content_of (word_at ws 0)) (content_of (word_at ws 1)) (content_of (word_at ws 2)) (content_of (word_at ws 3)) (content_of (word_at ws 4))
    (content_of (word_at ws 5)) (content_of (word_at ws 6)) (content_of (word_at ws 7)) (content_of (word_at ws 8))
    (content_of (word_at ws 9)) (content_of (word_at ws 10)) (content_of (word_at ws 11)) (content_of (word_at ws 12))

-- the same bytes in the same order
unfoldable pub same_bytes : List ℕ → List ℕ → Bool
same_bytes [] [] = true
same_bytes [] (c ∷ cs) = false
same_bytes (b ∷ bs) [] = false
same_bytes (b ∷ bs) (c ∷ cs) = let rest = same_bytes bs cs in pick (eqb b c) rest false

-- whether an entry point has a stage and a name
abbrev pub named : ShaderStage → List ℕ → EntryPoint → Bool
named stage name e = eqb (stage_code e.stage) (stage_code stage) && same_bytes e.name name

unfoldable pub has_name : ShaderStage → List ℕ → List EntryPoint → Bool
has_name stage name [] = false
has_name stage name (e ∷ es) = let rest = has_name stage name es in pick (named stage name e) true rest

-- 'Stage and name together occur once'
unfoldable pub distinct_names : List EntryPoint → Bool
distinct_names [] = true
distinct_names (e ∷ es) = let rest = distinct_names es in pick (has_name e.stage e.name es) false rest

-- the words before the closing one, in order
unfoldable pub read_pack : List ℕ → Parsed Interface
read_pack ws =
    next (one edition_well_formed ws) λ edition rest.
    next (one totals_well_formed rest) λ totals rest.
    next (several 13 (one (of_word 3)) rest) λ limits rest.
    next (several (bits 26 16 totals) read_resource rest) λ resources rest.
    next (several (bits 15 0 totals) (read_entry_point resources) rest) λ entries rest.
    pick (distinct_names entries) (got (record { limits = limits_of limits; resources = resources; entries = entries }) rest) fault

-- 'under 16 or over 4,096 words, total unlike the length, or sum'
unfoldable pub damaged : List ℕ → Bool
damaged ws =
    ltb (length ws) 16 || (ltb most_words (length ws) || (not (eqb (bits 15 0 (word_at ws 0)) (length ws))
    || not (eqb (word_at ws (length ws - 1)) (closing_sum ws))))

pub data Decoded : Type 0 where
  Damaged : Decoded
  Malformed : Decoded
  Pack : Interface → Decoded

-- the records end exactly at the closing word
abbrev pub whole : Parsed Interface → Decoded
whole fault = Malformed
whole (got i []) = Pack i
whole (got i (w ∷ ws)) = Malformed

abbrev pub body : List ℕ → List ℕ
body ws = take (length ws - 1) ws

unfoldable pub decode : List ℕ → Decoded
decode ws = pick (damaged ws) Damaged (whole (read_pack (body ws)))

-- 1 damaged, 2 malformed
abbrev pub decoded_number : Decoded → ℕ
decoded_number Damaged = Number.damaged_pack
decoded_number Malformed = Number.malformed_pack
decoded_number (Pack i) = 0

-- ---- the words of a pack

abbrev pub built_in_code : BuiltIn → ℕ
built_in_code (In.Other slots) = slots
built_in_code (In.PrimitiveIndex slots) = 2 ^ 24 * 1 + slots
built_in_code (In.DrawIndex slots) = 2 ^ 24 * 2 + slots
built_in_code (In.FragDepth slots) = 2 ^ 24 * 3 + slots
built_in_code (In.ClipDistances size) = 2 ^ 24 * 4 + size

abbrev pub varying_words : Varying → List ℕ
varying_words (Var.Local location iv) = of_kind 12 location ∷ var_word iv ∷ []
varying_words (Var.BuiltIn b) = of_kind 14 (built_in_code b) ∷ []

unfoldable pub pack_name : List ℕ → List ℕ
pack_name [] = []
pack_name (a ∷ []) = a ∷ []
pack_name (a ∷ b ∷ []) = (a + 2 ^ 8 * b) ∷ []
pack_name (a ∷ b ∷ c ∷ []) = (a + 2 ^ 8 * b + 2 ^ 16 * c) ∷ []
pack_name (a ∷ b ∷ c ∷ d ∷ bytes) = (a + 2 ^ 8 * b + 2 ^ 16 * c + 2 ^ 24 * d) ∷ pack_name bytes

abbrev pub mesh_flag : Option EntryPointMeshInfo → ℕ
mesh_flag None = 0
mesh_flag (Some info) = 1

abbrev pub mesh_words : Option EntryPointMeshInfo → List ℕ
mesh_words None = []
mesh_words (Some info) =
    of_kind 10 info.max_vertices ∷ of_kind 10 info.max_primitives ∷ of_kind 10 (topology_code info.primitive_topology) ∷ []

abbrev pub workgroup_words : WorkgroupSize → List ℕ
workgroup_words size = of_kind 8 size.x ∷ of_kind 8 size.y ∷ of_kind 8 size.z ∷ []

abbrev pub head_word : EntryPoint → ℕ
head_word e = of_kind 7 (2 ^ 24 * stage_code e.stage + (2 ^ 16 * length e.name + (2 * mesh_flag e.mesh + flag e.dual)))

abbrev pub counts_word : EntryPoint → ℕ
counts_word e =
    of_kind 15 (2 ^ 18 * length e.resources + (2 ^ 12 * length e.pairs + (2 ^ 6 * length e.inputs + length e.outputs)))

abbrev pub index_words : ℕ → List ℕ
index_words i = of_kind 5 i ∷ []

abbrev pub pair_words : SamplingPair → List ℕ
pair_words p = of_kind 5 (2 ^ 8 * p.texture + p.sampler) ∷ []

unfoldable pub entry_point_words : EntryPoint → List ℕ
entry_point_words e =
    head_word e ∷ (pack_name e.name ++ (workgroup_words e.workgroup ++ (payload_word e.payload ∷ (mesh_words e.mesh
    ++ (counts_word e ∷ (flat index_words e.resources ++ (flat pair_words e.pairs
    ++ (flat varying_words e.inputs ++ flat varying_words e.outputs))))))))

-- the limits in their order
abbrev pub limit_numbers : Limits → List ℕ
limit_numbers l =
    l.max_inter_stage_shader_variables ∷ l.max_color_attachments
    ∷ l.max_compute_workgroup_size_x ∷ l.max_compute_workgroup_size_y ∷ l.max_compute_workgroup_size_z
    ∷ l.max_compute_invocations_per_workgroup
    ∷ l.max_task_invocations_per_dimension ∷ l.max_task_invocations_per_workgroup
    ∷ l.max_mesh_invocations_per_dimension ∷ l.max_mesh_invocations_per_workgroup
    ∷ l.max_mesh_output_vertices ∷ l.max_mesh_output_primitives
    ∷ l.max_task_payload_size ∷ []

abbrev pub limit_word : ℕ → List ℕ
limit_word n = of_kind 3 n ∷ []

abbrev pub limit_words : Limits → List ℕ
limit_words l = flat limit_word (limit_numbers l)

-- all but the first and the closing word
unfoldable pub record_words : Interface → List ℕ
record_words i =
    of_kind 2 (2 ^ 16 * length i.resources + length i.entries)
    ∷ (limit_words i.limits ++ (flat resource_words i.resources ++ flat entry_point_words i.entries))

abbrev pub open_words : Interface → List ℕ
open_words i = of_kind 1 (2 ^ 16 * 1 + (length (record_words i) + 2)) ∷ record_words i

-- the pack, closed by its sum
unfoldable pub encode : Interface → List ℕ
encode i = open_words i ++ ((sum_of (open_words i) % 2 ^ 32) ∷ [])

-- the interface of an accepted pack
abbrev pub interface_of : Decoded → Interface
interface_of Damaged = record { limits = limits_of []; resources = []; entries = [] }
interface_of Malformed = record { limits = limits_of []; resources = []; entries = [] }
interface_of (Pack i) = i
