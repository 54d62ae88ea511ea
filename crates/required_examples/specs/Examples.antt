-- P1 to P11 of document 01, 'Deliveries', as one list; the numbers are written as document 01 has them.
use Rattle.std.specs.Prelude.{ℕ, zero, suc, ◌+◌, ◌-◌, ◌*◌, true, false, List, [], ◌∷◌, map, length, replicate, None}
use Rattle.word.specs.Answers.{answer, accepted}
use Rattle.word.specs.declared.answer.Answer.{Answer}
use Rattle.numeric.specs.Types.{numeric}
use Rattle.numeric.specs.declared.types.NumericType.{NumericType}
use Rattle.numeric.specs.declared.types.NumericDimension.TheVariants as D
use Rattle.numeric.specs.declared.types.VectorSize.TheVariants.{Bi, Tri, Quad}
use Rattle.numeric.specs.declared.types.ScalarKind.TheVariants as K
use Rattle.bindings.specs.declared.types.ResourceBinding.{ResourceBinding}
use Rattle.bindings.specs.declared.types.Resource.{Resource}
use Rattle.bindings.specs.declared.types.ResourceType.{ResourceType}
use Rattle.bindings.specs.declared.types.ResourceType.TheVariants as Res
use Rattle.bindings.specs.declared.types.AddressSpace.TheVariants as Space
use Rattle.bindings.specs.declared.types.ImageDimension.TheVariants as Dim
use Rattle.bindings.specs.declared.types.ImageClass.TheVariants as Class
use Rattle.bindings.specs.declared.types.SampleKind.TheVariants as Kind
use Rattle.bindings.specs.declared.types.BindingType.{BindingType}
use Rattle.bindings.specs.declared.types.BindingType.TheVariants as Bind
use Rattle.bindings.specs.declared.types.BufferBindingType.TheVariants as Buf
use Rattle.bindings.specs.declared.types.SamplerBindingType.TheVariants as Samp
use Rattle.bindings.specs.declared.types.StorageTextureAccess.TheVariants as Acc
use Rattle.bindings.specs.declared.types.TextureViewDimension.TheVariants as View
use Rattle.bindings.specs.declared.types.BindGroupLayoutEntry.{BindGroupLayoutEntry}
use Rattle.varying.specs.declared.InterfaceVar.{InterfaceVar}
use Rattle.varying.specs.declared.Located.{Located}
use Rattle.layouts.specs.Format.{encode_layout}
use Rattle.sizes.specs.Format.{encode_sizes}
use Rattle.stage_lists.specs.Format.{encode_stage}
use Rattle.interface.specs.Meaning.{EntryPoint}
use Rattle.interface.specs.Format.{encode, stage_code}
use Rattle.interface.specs.declared.types.ShaderStage.{ShaderStage}
use Rattle.interface.specs.declared.types.ShaderStage.TheVariants as Stage
use Rattle.interface.specs.declared.types.BuiltIn.TheVariants as In
use Rattle.interface.specs.declared.types.Varying.{Varying}
use Rattle.interface.specs.declared.types.Varying.TheVariants as Var
use Rattle.interface.specs.declared.types.WorkgroupSize.{WorkgroupSize}
use Rattle.interface.specs.declared.types.Limits.{Limits}
use Rattle.stage.specs.Meaning.{Call, call, codes, lent, Outcome, outcome}
use Rattle.required_examples.specs.Kinds.{Example, on_entry, below, checked}

-- ---- what the examples are made of

abbrev pub f32 : NumericType
f32 = numeric D.Scalar K.Float 4

abbrev pub u32 : NumericType
u32 = numeric D.Scalar K.Uint 4

abbrev pub f64 : NumericType
f64 = numeric D.Scalar K.Float 8

abbrev pub vec2 : NumericType
vec2 = numeric (D.Vector Bi) K.Float 4

abbrev pub vec3 : NumericType
vec3 = numeric (D.Vector Tri) K.Float 4

abbrev pub vec4 : NumericType
vec4 = numeric (D.Vector Quad) K.Float 4

abbrev pub var : NumericType → ℕ → ℕ → InterfaceVar
var type interpolation sampling = record { ty = type; interpolation = interpolation; sampling = sampling; per_primitive = false }

abbrev pub local : ℕ → NumericType → Varying
local location type = Var.Local location (var type 0 0)

-- a variable that a stage is handed
abbrev pub handed : ℕ → NumericType → Located
handed location type = record { location = location; var = var type 0 0 }

abbrev pub uniform : ℕ → ResourceType
uniform size = Res.Buffer size Space.Uniform

abbrev pub uniform_entry : ℕ → BindingType
uniform_entry least = Bind.Buffer Buf.Uniform false least

-- a storage texture of an access, 2D, in a format that can be stored
abbrev pub storage : ℕ → ResourceType
storage access = Res.Texture Dim.D2 false (Class.Storage 27 access)

abbrev pub read_write_entry : BindingType
read_write_entry = Bind.StorageTexture Acc.ReadWrite 27 View.D2

-- an inter-stage limit of 16
abbrev pub limits : Limits
limits =
    record {
      max_inter_stage_shader_variables = 16;
      max_color_attachments = 8;
      max_compute_workgroup_size_x = 256;
      max_compute_workgroup_size_y = 256;
      max_compute_workgroup_size_z = 64;
      max_compute_invocations_per_workgroup = 256;
      max_task_invocations_per_dimension = 128;
      max_task_invocations_per_workgroup = 128;
      max_mesh_invocations_per_dimension = 128;
      max_mesh_invocations_per_workgroup = 128;
      max_mesh_output_vertices = 256;
      max_mesh_output_primitives = 256;
      max_task_payload_size = 16384;
    }

-- the name 'main'
abbrev pub main : List ℕ
main = 109 ∷ 97 ∷ 105 ∷ 110 ∷ []

abbrev pub size : ℕ → ℕ → ℕ → WorkgroupSize
size x y z = record { x = x; y = y; z = z }

abbrev pub entry : ShaderStage → WorkgroupSize → List ℕ → List Varying → List Varying → EntryPoint
entry stage workgroup resources inputs outputs =
    record {
      stage = stage;
      name = main;
      dual = false;
      workgroup = workgroup;
      payload = None;
      mesh = None;
      resources = resources;
      pairs = [];
      inputs = inputs;
      outputs = outputs;
    }

abbrev pub pack : List Resource → EntryPoint → List ℕ
pack resources e = encode (record { limits = limits; resources = resources; entries = e ∷ [] })

-- ---- the lists of a call

-- free room, and a list out of 40 words
abbrev pub free : ℕ → List ℕ
free n = replicate n 7

abbrev pub out : List ℕ
out = free 40

-- the list out with what a stage hands on
abbrev pub out_with : List Located → List ℕ
out_with varyings = encode_stage (record { primitive = None; payload = None; varyings = varyings; room = free (38 - 2 * length varyings) })

abbrev pub io : List Located → List ℕ
io varyings = encode_stage (record { primitive = None; payload = None; varyings = varyings; room = [] })

abbrev pub layout : List BindGroupLayoutEntry → List ℕ → List ℕ
layout entries room = encode_layout (record { groups = 8; entries = entries; room = room })

abbrev pub no_room : List ℕ
no_room = layout [] []

-- group 0, binding 3
abbrev pub place : ResourceBinding
place = record { group = 0; binding = 3 }

abbrev pub resource_there : ResourceType → List Resource
resource_there ty = record { bind = place; ty = ty } ∷ []

abbrev pub entry_there : BindingType → ℕ → List BindGroupLayoutEntry
entry_there ty visibility = record { bind = place; ty = ty; visibility = visibility } ∷ []

abbrev pub no_sizes : List ℕ
no_sizes = encode_sizes (record { records = []; room = [] })

-- room for two sizes, and with one recorded
abbrev pub roomy_sizes : List ℕ
roomy_sizes = encode_sizes (record { records = []; room = free 4 })

abbrev pub size_there : ℕ → List ℕ
size_there bytes = encode_sizes (record { records = record { bind = place; size = bytes } ∷ []; room = free 2 })

-- ---- calls, and what they come to

-- in derived mode with depth attached
abbrev pub derived_call : ShaderStage → List ℕ → List ℕ → List ℕ → ℕ → Call
derived_call stage words over inputs topology = call words main (codes (stage_code stage) topology 1 0 1) (lent over no_sizes inputs out)

-- it leaves the sizes
abbrev pub derives : Answer → List ℕ → List ℕ → Outcome
derives a over handed = outcome a over no_sizes handed

-- a vertex stage with one resource against a layout that provides one entry
abbrev pub provided_call : ResourceType → BindingType → Call
provided_call resource ty =
    call (pack (resource_there resource) (entry Stage.Vertex (size 0 0 0) (0 ∷ []) [] [])) main (codes (stage_code Stage.Vertex) 3 0 0 1)
    (lent (layout (entry_there ty 1) []) roomy_sizes (io []) out)

-- it leaves the layout
abbrev pub provides : Answer → BindingType → List ℕ → List ℕ → Outcome
provides a ty sizes handed = outcome a (layout (entry_there ty 1) []) sizes handed

-- an arrayed 2D texture
abbrev pub arrayed : ResourceType
arrayed = Res.Texture Dim.D2 true (Class.Sampled Kind.Float false)

-- a vertex stage alone, with inputs and outputs
abbrev pub vertex : List Varying → List Varying → List ℕ → ℕ → Call
vertex inputs outputs provided topology = derived_call Stage.Vertex (pack [] (entry Stage.Vertex (size 0 0 0) [] inputs outputs)) no_room provided topology

-- variables at as many locations from one on
unfoldable pub variables : ℕ → ℕ → List Located
variables zero from = []
variables (suc n) from = let rest = variables n (from + 1) in handed from vec4 ∷ rest

-- put out behind clip distances of size 5
abbrev pub clipped : List Located → List Varying
clipped vs = Var.BuiltIn (In.ClipDistances 5) ∷ map (λ v. Var.Local v.location v.var) vs

-- ---- the list

unfoldable pub examples : List Example
examples =
    -- P1 uniform size 64: least 64, or none, passes; 63 is 25; and so by a stage check, which records the size in each case
    on_entry (uniform 64) (uniform_entry 64) 0
    ∷ on_entry (uniform 64) (uniform_entry 0) 0
    ∷ on_entry (uniform 64) (uniform_entry 63) 25
    ∷ checked (provided_call (uniform 64) (uniform_entry 64)) (provides accepted (uniform_entry 64) (size_there 64) (out_with []))
    ∷ checked (provided_call (uniform 64) (uniform_entry 0)) (provides accepted (uniform_entry 0) (size_there 64) (out_with []))
    ∷ checked (provided_call (uniform 64) (uniform_entry 63)) (provides (answer 25 0 3 0) (uniform_entry 63) (size_there 64) out)
    -- P2 store-only storage texture on a both entry passes; load-only is 27; and so by a stage check
    ∷ on_entry (storage 2) read_write_entry 0
    ∷ on_entry (storage 1) read_write_entry 27
    ∷ checked (provided_call (storage 2) read_write_entry) (provides accepted read_write_entry roomy_sizes (out_with []))
    ∷ checked (provided_call (storage 1) read_write_entry) (provides (answer 27 0 3 0) read_write_entry roomy_sizes out)
    -- P3 f32 below vec3 f32: yes; f64 below vec3 f32: no
    ∷ below f32 vec3 true
    ∷ below f64 vec3 false
    -- P4 vec3 below vec2, 3 by 2 matrix below 2 by 3: no
    ∷ below vec3 vec2 false
    ∷ below (numeric (D.Matrix Tri Bi) K.Float 4) (numeric (D.Matrix Bi Tri) K.Float 4) false
    -- P5 vertex input vec4 f32 fed a scalar f32 passes; fed u32, 51
    ∷ checked (vertex (local 2 vec4 ∷ []) [] (io (handed 2 f32 ∷ [])) 3) (derives accepted no_room (out_with []))
    ∷ checked (vertex (local 2 vec4 ∷ []) [] (io (handed 2 u32 ∷ [])) 3) (derives (answer 51 2 0 0) no_room out)
    -- P6 fragment input, interpolation and sampling both off: 52
    ∷ checked
    (derived_call Stage.Fragment (pack [] (entry Stage.Fragment (size 0 0 0) [] (Var.Local 1 (var vec4 1 1) ∷ []) [])) no_room
    (io (record { location = 1; var = var vec4 2 2 } ∷ [])) 3)
    (derives (answer 52 1 0 0) no_room out)
    -- P7 vertex derives uniform 64, fragment uniform 80 at that place: 29; size and bit unchanged
    ∷ checked (derived_call Stage.Vertex (pack (resource_there (uniform 64)) (entry Stage.Vertex (size 0 0 0) (0 ∷ []) [] [])) (layout [] (free 4)) (io []) 3)
    (derives accepted (layout (entry_there (uniform_entry 64) 1) []) (out_with []))
    ∷ checked
    (derived_call Stage.Fragment (pack (resource_there (uniform 80)) (entry Stage.Fragment (size 0 0 0) (0 ∷ []) [] [])) (layout (entry_there (uniform_entry 64) 1) [])
    (io []) 3)
    (derives (answer 29 0 3 0) (layout (entry_there (uniform_entry 64) 1) []) out)
    -- P8 limit 16, point list, clip size 5: 13 slots, highest location 13. Fourteen outputs at 0–13: 61. One at 14: 60
    ∷ checked (vertex [] (clipped (variables 13 1)) (io []) 0) (derives accepted no_room (out_with (variables 13 1)))
    ∷ checked (vertex [] (clipped (variables 14 0)) (io []) 0) (derives (answer 61 14 16 0) no_room out)
    ∷ checked (vertex [] (clipped (variables 1 14)) (io []) 0) (derives (answer 60 14 16 0) no_room out)
    -- P9 compute 0, 1, 1 within limits: 41
    ∷ checked (derived_call Stage.Compute (pack [] (entry Stage.Compute (size 0 1 1) [] [] [])) no_room (io []) 5)
    (derives (answer 41 0 1 1) no_room out)
    -- P10 arrayed 2D texture on a sampler entry: 26; and so by a stage check
    ∷ on_entry arrayed (Bind.Sampler Samp.Filtering) 26
    ∷ checked (provided_call arrayed (Bind.Sampler Samp.Filtering))
    (provides (answer 26 0 3 0) (Bind.Sampler Samp.Filtering) roomy_sizes out)
    -- P11 two outputs at location 0: the last is kept
    ∷ checked (vertex [] (local 0 vec2 ∷ local 0 vec4 ∷ []) (io []) 3) (derives accepted no_room (out_with (handed 0 vec4 ∷ [])))
    ∷ []
