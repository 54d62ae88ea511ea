-- How words carry resources and layout entries (document 01, 'Resource' and 'Layout list').
use Rattle.std.specs.Prelude.{ℕ, ◌+◌, ◌*◌, ◌^◌, Bool, true, false, not, ◌&&◌, ◌||◌, List, [], ◌∷◌, ◌==◌, nat_lt}
use Rattle.word.specs.Choice.{pick, yes}
use Rattle.word.specs.Words.{word_at, kind_of, content_of, bits, bit, of_kind}
use Rattle.word.specs.Parse.{Parsed, got, next, one}
use Rattle.bindings.specs.Rules.{sample_kind_code, view_code, storable}
use Rattle.bindings.specs.declared.types.ResourceBinding.{ResourceBinding}
use Rattle.bindings.specs.declared.types.AddressSpace.{AddressSpace}
use Rattle.bindings.specs.declared.types.AddressSpace.TheVariants as Space
use Rattle.bindings.specs.declared.types.ImageDimension.{ImageDimension}
use Rattle.bindings.specs.declared.types.ImageDimension.TheVariants as Dim
use Rattle.bindings.specs.declared.types.SampleKind.{SampleKind}
use Rattle.bindings.specs.declared.types.SampleKind.TheVariants as Kind
use Rattle.bindings.specs.declared.types.ImageClass.{ImageClass}
use Rattle.bindings.specs.declared.types.ImageClass.TheVariants as Class
use Rattle.bindings.specs.declared.types.ResourceType.{ResourceType}
use Rattle.bindings.specs.declared.types.ResourceType.TheVariants as Res
use Rattle.bindings.specs.declared.types.Resource.{Resource}
use Rattle.bindings.specs.declared.types.BufferBindingType.{BufferBindingType}
use Rattle.bindings.specs.declared.types.BufferBindingType.TheVariants as Buf
use Rattle.bindings.specs.declared.types.SamplerBindingType.{SamplerBindingType}
use Rattle.bindings.specs.declared.types.SamplerBindingType.TheVariants as Samp
use Rattle.bindings.specs.declared.types.TextureSampleType.{TextureSampleType}
use Rattle.bindings.specs.declared.types.TextureSampleType.TheVariants as Sample
use Rattle.bindings.specs.declared.types.TextureViewDimension.{TextureViewDimension}
use Rattle.bindings.specs.declared.types.TextureViewDimension.TheVariants as View
use Rattle.bindings.specs.declared.types.StorageTextureAccess.{StorageTextureAccess}
use Rattle.bindings.specs.declared.types.StorageTextureAccess.TheVariants as Acc
use Rattle.bindings.specs.declared.types.BindingType.{BindingType}
use Rattle.bindings.specs.declared.types.BindingType.TheVariants as Bind
use Rattle.bindings.specs.declared.types.BindGroupLayoutEntry.{BindGroupLayoutEntry}

abbrev pub flag : Bool → ℕ
flag b = pick (yes b) 1 0

-- ---- places: 'kind 4 (group 26–23, binding 22–0)'

abbrev pub place_well_formed : ℕ → Bool
place_well_formed w = kind_of w == 4

abbrev pub place_of : ℕ → ResourceBinding
place_of w = record { group = bits 26 23 w; binding = bits 22 0 w }

abbrev pub place_word : ResourceBinding → ℕ
place_word bind = of_kind 4 (2 ^ 23 * bind.group + bind.binding)

-- ---- resources: 'kind 16 (type 26–23)'

abbrev pub type_code : ℕ → ℕ
type_code w = bits 26 23 w

-- 'dimension 1–0: 1D, 2D, 3D, cube'
abbrev pub dimension_at : ℕ → ImageDimension
dimension_at code = pick (code == 0) Dim.D1 (pick (code == 1) Dim.D2 (pick (code == 2) Dim.D3 Dim.Cube))

abbrev pub dimension_code : ImageDimension → ℕ
dimension_code Dim.D1 = 0
dimension_code Dim.D2 = 1
dimension_code Dim.D3 = 2
dimension_code Dim.Cube = 3

-- 'kind 5–4: 0 float, 1 sint, 2 uint'
abbrev pub sample_kind_at : ℕ → SampleKind
sample_kind_at code = pick (code == 0) Kind.Float (pick (code == 1) Kind.Sint Kind.Uint)

-- 'space 4–3: 0 uniform, 1 storage, 2 other'
abbrev pub space_at : ℕ → ℕ → AddressSpace
space_at code access = pick (code == 0) Space.Uniform (pick (code == 1) (Space.Storage access) Space.Other)

-- 'buffer (access 2–0, space 4–3 …; access 0 unless storage)'
abbrev pub buffer_well_formed : ℕ → Bool
buffer_well_formed w = bits 22 5 w == 0 && (nat_lt (bits 4 3 w) 3 && (bits 4 3 w == 1 || bits 2 0 w == 0))

-- 'storage … (format 14–8, access 18–16, not 0)', and 'a shader's format must be storable'
abbrev pub storage_well_formed : ℕ → Bool
storage_well_formed w =
    (bits 22 19 w == 0) && (bit 15 w == 0 && (bits 7 3 w == 0 && (storable (bits 14 8 w) && not (bits 18 16 w == 0))))

-- the bits of each type, those unnamed zero; types are 0 to 6
unfoldable pub resource_type_well_formed : ℕ → Bool
resource_type_well_formed w =
    pick (type_code w == 0) (buffer_well_formed w)
    (pick (type_code w == 1) (bits 22 1 w == 0)
    (pick (type_code w == 2) (bits 22 6 w == 0 && nat_lt (bits 5 4 w) 3)
    (pick (type_code w == 3) (bits 22 4 w == 0)
    (pick (type_code w == 4) (storage_well_formed w)
    (pick (type_code w == 5) (bits 22 3 w == 0)
    (pick (type_code w == 6) (bits 22 1 w == 0)
    false))))))

abbrev pub resource_word_well_formed : ℕ → Bool
resource_word_well_formed w = kind_of w == 16 && resource_type_well_formed w

-- ---- sizes: 'kind 6, size'

-- how many words a size takes
abbrev pub size_width : ℕ
size_width = 1

-- sizes are below this
abbrev pub size_limit : ℕ
size_limit = 2 ^ 27

-- the word of a size
abbrev pub size_word : ℕ → ℕ
size_word size = of_kind 6 size

-- the size that stands at a position, read without asking whether it is well formed
abbrev pub size_standing : List ℕ → ℕ → ℕ
size_standing ws at = content_of (word_at ws at)

-- 'kind 6, size, at least 1'
abbrev pub size_well_formed : ℕ → Bool
size_well_formed w = kind_of w == 6 && not (content_of w == 0)

-- a set bit of a word
abbrev pub bit_set : ℕ → ℕ → Bool
bit_set n w = bit n w == 1

abbrev pub texture : ℕ → ImageClass → ResourceType
texture w class = Res.Texture (dimension_at (bits 1 0 w)) (bit_set 2 w) class

-- what a type word and, for a buffer, its size mean
unfoldable pub resource_type_of : ℕ → ℕ → ResourceType
resource_type_of w size =
    pick (type_code w == 0) (Res.Buffer size (space_at (bits 4 3 w) (bits 2 0 w)))
    (pick (type_code w == 1) (Res.Sampler (bit_set 0 w))
    (pick (type_code w == 2) (texture w (Class.Sampled (sample_kind_at (bits 5 4 w)) (bit_set 3 w)))
    (pick (type_code w == 3) (texture w (Class.Depth (bit_set 3 w)))
    (pick (type_code w == 4) (texture w (Class.Storage (bits 14 8 w) (bits 18 16 w)))
    (pick (type_code w == 5) (texture w Class.External)
    (Res.AccelerationStructure (bit_set 0 w)))))))

abbrev pub is_buffer_word : ℕ → Bool
is_buffer_word w = type_code w == 0

abbrev pub resource : ℕ → ℕ → ℕ → Resource
resource place type size = record { bind = place_of place; ty = resource_type_of type size }

-- the words of a resource that has a size
abbrev pub resource_width : ℕ
resource_width = 2 + size_width

-- 'Resource: kind 4; kind 16; for buffers kind 6'
unfoldable pub read_resource : List ℕ → Parsed Resource
read_resource ws =
    next (one place_well_formed ws) λ place rest.
    next (one resource_word_well_formed rest) λ type rest.
    pick (is_buffer_word type) (next (one size_well_formed rest) λ size rest. got (resource place type (content_of size)) rest)
    (got (resource place type 0) rest)

abbrev pub texture_code : ImageDimension → Bool → ℕ
texture_code dim arrayed = dimension_code dim + 4 * flag arrayed

abbrev pub class_code : ImageClass → ℕ
class_code (Class.Sampled kind multi) = 2 ^ 23 * 2 + (16 * sample_kind_code kind + 8 * flag multi)
class_code (Class.Depth multi) = 2 ^ 23 * 3 + 8 * flag multi
class_code (Class.Storage format access) = 2 ^ 23 * 4 + (2 ^ 16 * access + 2 ^ 8 * format)
class_code Class.External = 2 ^ 23 * 5

abbrev pub space_code : AddressSpace → ℕ
space_code Space.Uniform = 0
space_code (Space.Storage access) = 8 + access
space_code Space.Other = 16

abbrev pub resource_code : ResourceType → ℕ
resource_code (Res.Buffer size space) = space_code space
resource_code (Res.Sampler comparison) = 2 ^ 23 * 1 + flag comparison
resource_code (Res.Texture dim arrayed class) = class_code class + texture_code dim arrayed
resource_code (Res.AccelerationStructure returns) = 2 ^ 23 * 6 + flag returns

abbrev pub size_words : ResourceType → List ℕ
size_words (Res.Buffer size space) = size_word size ∷ []
size_words (Res.Sampler comparison) = []
size_words (Res.Texture dim arrayed class) = []
size_words (Res.AccelerationStructure returns) = []

-- the words of a resource
unfoldable pub resource_words : Resource → List ℕ
resource_words r = place_word r.bind ∷ of_kind 16 (resource_code r.ty) ∷ size_words r.ty

-- what a pack can hold of a resource: the ranges of its numbers
abbrev pub place_encodable : ResourceBinding → Bool
place_encodable bind = nat_lt bind.group 16 && nat_lt bind.binding (2 ^ 23)

abbrev pub space_encodable : AddressSpace → Bool
space_encodable Space.Uniform = true
space_encodable (Space.Storage access) = nat_lt access 8
space_encodable Space.Other = true

abbrev pub class_encodable : ImageClass → Bool
class_encodable (Class.Sampled kind multi) = true
class_encodable (Class.Depth multi) = true
class_encodable (Class.Storage format access) = storable format && (nat_lt access 8 && not (access == 0))
class_encodable Class.External = true

unfoldable pub type_encodable : ResourceType → Bool
type_encodable (Res.Buffer size space) = space_encodable space && (nat_lt size size_limit && not (size == 0))
type_encodable (Res.Sampler comparison) = true
type_encodable (Res.Texture dim arrayed class) = class_encodable class
type_encodable (Res.AccelerationStructure returns) = true

abbrev pub resource_encodable : Resource → Bool
resource_encodable r = place_encodable r.bind && type_encodable r.ty

-- ---- layout entries: types of kind 18 'as above, without 3'

-- 'view 2–0: 1D, 2D, 2D array, cube, cube array, 3D'
abbrev pub view_at : ℕ → TextureViewDimension
view_at code =
    pick (code == 0) View.D1
    (pick (code == 1) View.D2 (pick (code == 2) View.D2Array (pick (code == 3) View.Cube (pick (code == 4) View.CubeArray View.D3))))

-- 'sample 6–4: filterable float, other float, depth, sint, uint'
abbrev pub sample_at : ℕ → TextureSampleType
sample_at code =
    pick (code == 0) (Sample.Float true)
    (pick (code == 1) (Sample.Float false) (pick (code == 2) Sample.Depth (pick (code == 3) Sample.Sint Sample.Uint)))

abbrev pub sample_code : TextureSampleType → ℕ
sample_code (Sample.Float filterable) = pick (yes filterable) 0 1
sample_code Sample.Depth = 2
sample_code Sample.Sint = 3
sample_code Sample.Uint = 4

-- 'access 17–16: read, write, both, atomic'
abbrev pub access_at : ℕ → StorageTextureAccess
access_at code = pick (code == 0) Acc.ReadOnly (pick (code == 1) Acc.WriteOnly (pick (code == 2) Acc.ReadWrite Acc.Atomic))

abbrev pub access_code : StorageTextureAccess → ℕ
access_code Acc.ReadOnly = 0
access_code Acc.WriteOnly = 1
access_code Acc.ReadWrite = 2
access_code Acc.Atomic = 3

-- 'sampler (0 filtering, 1 non-filtering, 2 comparison)'
abbrev pub sampler_at : ℕ → SamplerBindingType
sampler_at code = pick (code == 0) Samp.Filtering (pick (code == 1) Samp.NonFiltering Samp.Comparison)

abbrev pub sampler_code : SamplerBindingType → ℕ
sampler_code Samp.Filtering = 0
sampler_code Samp.NonFiltering = 1
sampler_code Samp.Comparison = 2

-- 'buffer (bit 0 storage, 1 read-only, only with 0, 2 dynamic)'
abbrev pub buffer_at : ℕ → BufferBindingType
buffer_at w = pick (bit_set 0 w) (Buf.Storage (bit_set 1 w)) Buf.Uniform

abbrev pub buffer_code : BufferBindingType → ℕ
buffer_code Buf.Uniform = 0
buffer_code (Buf.Storage read_only) = 1 + 2 * flag read_only

-- the bits of each type by its code, those unnamed zero; formats are 0 to 76
abbrev pub fields_well_formed : ℕ → ℕ → Bool
fields_well_formed code w =
    pick (code == 0) (bits 22 3 w == 0 && (bit 1 w == 0 || bit 0 w == 1))
    (pick (code == 1) (nat_lt (bits 22 0 w) 3)
    (pick (code == 2) (bits 22 7 w == 0 && (nat_lt (bits 2 0 w) 6 && nat_lt (bits 6 4 w) 5))
    (pick (code == 4)
    (bits 22 18 w == 0 && (bit 15 w == 0 && (bits 7 3 w == 0 && (nat_lt (bits 2 0 w) 6 && nat_lt (bits 14 8 w) 77))))
    (pick (code == 5) (bits 22 0 w == 0)
    (pick (code == 6) (bits 22 1 w == 0)
    false)))))

unfoldable pub binding_type_well_formed : ℕ → Bool
binding_type_well_formed w = fields_well_formed (type_code w) w

-- what a type word and a least size mean
unfoldable pub binding_type_of : ℕ → ℕ → BindingType
binding_type_of w least =
    pick (type_code w == 0) (Bind.Buffer (buffer_at w) (bit_set 2 w) least)
    (pick (type_code w == 1) (Bind.Sampler (sampler_at (bits 22 0 w)))
    (pick (type_code w == 2) (Bind.Texture (sample_at (bits 6 4 w)) (view_at (bits 2 0 w)) (bit_set 3 w))
    (pick (type_code w == 4) (Bind.StorageTexture (access_at (bits 17 16 w)) (bits 14 8 w) (view_at (bits 2 0 w)))
    (pick (type_code w == 5) Bind.ExternalTexture
    (Bind.AccelerationStructure (bit_set 0 w))))))

-- 'type (kind 18), least size (kind 6; 0 means none, and is the only form for non-buffers), visibility (kind 19, bit s for stage s)'
unfoldable pub entry_well_formed : ℕ → ℕ → ℕ → ℕ → Bool
entry_well_formed place type least visibility =
    place_well_formed place && (kind_of type == 18 && (binding_type_well_formed type
    && (kind_of least == 6 && ((is_buffer_word type || content_of least == 0)
    && (kind_of visibility == 19 && nat_lt (content_of visibility) 32)))))

unfoldable pub entry_of : ℕ → ℕ → ℕ → ℕ → BindGroupLayoutEntry
entry_of place type least visibility =
    record { bind = place_of place; ty = binding_type_of type (content_of least); visibility = content_of visibility }

-- an entry by its parts: the words of its place, type and visibility, and its least size
abbrev pub parts_well_formed : ℕ → ℕ → ℕ → ℕ → Bool
parts_well_formed place type least visibility = entry_well_formed place type (size_word least) visibility

abbrev pub entry_of_parts : ℕ → ℕ → ℕ → ℕ → BindGroupLayoutEntry
entry_of_parts place type least visibility = entry_of place type (size_word least) visibility

-- the type's bits, and the least size, of a binding type
unfoldable pub binding_code : BindingType → ℕ
binding_code (Bind.Buffer ty dynamic least) = buffer_code ty + 4 * flag dynamic
binding_code (Bind.Sampler ty) = 2 ^ 23 * 1 + sampler_code ty
binding_code (Bind.Texture sample view multi) = 2 ^ 23 * 2 + (16 * sample_code sample + 8 * flag multi + view_code view)
binding_code (Bind.StorageTexture access format view) = 2 ^ 23 * 4 + (2 ^ 16 * access_code access + 2 ^ 8 * format + view_code view)
binding_code Bind.ExternalTexture = 2 ^ 23 * 5
binding_code (Bind.AccelerationStructure returns) = 2 ^ 23 * 6 + flag returns

abbrev pub least_size_of : BindingType → ℕ
least_size_of (Bind.Buffer ty dynamic least) = least
least_size_of (Bind.Sampler ty) = 0
least_size_of (Bind.Texture sample view multi) = 0
least_size_of (Bind.StorageTexture access format view) = 0
least_size_of Bind.ExternalTexture = 0
least_size_of (Bind.AccelerationStructure returns) = 0

-- an entry is a place, a type, a least size and a visibility
abbrev pub entry_width : ℕ
entry_width = 3 + size_width

-- the words of an entry
unfoldable pub entry_words : BindGroupLayoutEntry → List ℕ
entry_words e =
    place_word e.bind ∷ of_kind 18 (binding_code e.ty) ∷ size_word (least_size_of e.ty) ∷ of_kind 19 e.visibility ∷ []

-- what a layout list can hold of an entry: the ranges of its numbers
abbrev pub format_encodable : BindingType → Bool
format_encodable (Bind.Buffer ty dynamic least) = nat_lt least size_limit
format_encodable (Bind.Sampler ty) = true
format_encodable (Bind.Texture sample view multi) = true
format_encodable (Bind.StorageTexture access format view) = nat_lt format 77
format_encodable Bind.ExternalTexture = true
format_encodable (Bind.AccelerationStructure returns) = true

abbrev pub entry_encodable : BindGroupLayoutEntry → Bool
entry_encodable e = place_encodable e.bind && (format_encodable e.ty && nat_lt e.visibility 32)

-- ---- what stands at a position, read without asking whether it is well formed

abbrev pub resource_at : List ℕ → ℕ → Resource
resource_at ws at = resource (word_at ws at) (word_at ws (at + 1)) (size_standing ws (at + 2))

abbrev pub entry_well_formed_at : List ℕ → ℕ → Bool
entry_well_formed_at ws at = entry_well_formed (word_at ws at) (word_at ws (at + 1)) (word_at ws (at + 2)) (word_at ws (at + 3))

abbrev pub entry_at : List ℕ → ℕ → BindGroupLayoutEntry
entry_at ws at = entry_of (word_at ws at) (word_at ws (at + 1)) (word_at ws (at + 2)) (word_at ws (at + 3))
