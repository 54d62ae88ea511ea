-- When a layout entry serves a shader's resource, and the entry that a resource asks for
-- (WebGPU, 'validating shader binding' and 'default pipeline layout'; document 01, refusals 22 to 30).
use Rattle.std.specs.Prelude.{ℕ, Bool, true, false, not, ◌&&◌, ◌||◌, ◌==◌, nat_lt, Result, Ok, Err}
use Rattle.word.specs.Choice.{pick, yes}
use Rattle.word.specs.Numbers as Number
use Rattle.bindings.specs.declared.types.AddressSpace.{AddressSpace}
use Rattle.bindings.specs.declared.types.AddressSpace.TheVariants as Space
use Rattle.bindings.specs.declared.types.ImageDimension.{ImageDimension}
use Rattle.bindings.specs.declared.types.ImageDimension.TheVariants as Dim
use Rattle.bindings.specs.declared.types.SampleKind.{SampleKind}
use Rattle.bindings.specs.declared.types.SampleKind.TheVariants as Kind
use Rattle.bindings.specs.declared.types.ImageClass.{ImageClass}
use Rattle.bindings.specs.declared.types.ImageClass.TheVariants as Class
use Rattle.bindings.specs.declared.types.ResourceType.{ResourceType}
use Rattle.bindings.specs.declared.types.ResourceType.TheVariants as Res
use Rattle.bindings.specs.declared.types.BufferBindingType.{BufferBindingType}
use Rattle.bindings.specs.declared.types.BufferBindingType.TheVariants as Buf
use Rattle.bindings.specs.declared.types.SamplerBindingType.{SamplerBindingType}
use Rattle.bindings.specs.declared.types.SamplerBindingType.TheVariants as Samp
use Rattle.bindings.specs.declared.types.TextureSampleType.{TextureSampleType}
use Rattle.bindings.specs.declared.types.TextureSampleType.TheVariants as Sample
use Rattle.bindings.specs.declared.types.TextureViewDimension.{TextureViewDimension}
use Rattle.bindings.specs.declared.types.TextureViewDimension.TheVariants as View
use Rattle.bindings.specs.declared.types.StorageTextureAccess.{StorageTextureAccess}
use Rattle.bindings.specs.declared.types.StorageTextureAccess.TheVariants as Acc
use Rattle.bindings.specs.declared.types.BindingType.{BindingType}
use Rattle.bindings.specs.declared.types.BindingType.TheVariants as Bind
use Rattle.bindings.specs.declared.types.BindingError.{BindingError}
use Rattle.bindings.specs.declared.types.BindingError.TheVariants as Error

-- ---- numbers of refusals

-- document 01's number of each
abbrev pub error_number : BindingError → ℕ
error_number Error.WrongType = Number.wrong_type
error_number Error.WrongAddressSpace = Number.wrong_address_space
error_number Error.WrongBufferAddressSpace = Number.wrong_buffer_address_space
error_number Error.WrongBufferSize = Number.wrong_buffer_size
error_number Error.WrongTextureViewDimension = Number.wrong_texture_view_dimension
error_number Error.WrongTextureClass = Number.wrong_texture_class
error_number Error.WrongSamplerComparison = Number.wrong_sampler_comparison
error_number Error.BadStorageFormat = Number.bad_storage_format

-- the number of a use: 0, or that of its refusal
abbrev pub use_number : Result Unit BindingError → ℕ
use_number (Ok served) = 0
use_number (Err e) = error_number e

-- ---- numbers of the enums that are compared (document 01's codes)

abbrev pub sample_kind_code : SampleKind → ℕ
sample_kind_code Kind.Float = 0
sample_kind_code Kind.Sint = 1
sample_kind_code Kind.Uint = 2

abbrev pub view_code : TextureViewDimension → ℕ
view_code View.D1 = 0
view_code View.D2 = 1
view_code View.D2Array = 2
view_code View.Cube = 3
view_code View.CubeArray = 4
view_code View.D3 = 5

-- 'Access is 1 load, 2 store, 4 atomic, summed': an atomic entry is compared with all three
abbrev pub access_of : StorageTextureAccess → ℕ
access_of Acc.ReadOnly = 1
access_of Acc.WriteOnly = 2
access_of Acc.ReadWrite = 3
access_of Acc.Atomic = 7

abbrev pub same_bool : Bool → Bool → Bool
same_bool a b = pick (yes a) b (not b)

-- 'Storable: 0–42 but not 28 and 31'
abbrev pub storable : ℕ → Bool
storable format = nat_lt format 43 && (not (format == 28) && not (format == 31))

-- ---- buffers

-- the address space that a buffer entry stands for: read-only storage is load, other storage load with store
abbrev pub space_of : BufferBindingType → AddressSpace
space_of Buf.Uniform = Space.Uniform
space_of (Buf.Storage read_only) = Space.Storage (pick (yes read_only) 1 3)

unfoldable pub same_space : AddressSpace → AddressSpace → Bool
same_space Space.Uniform Space.Uniform = true
same_space Space.Uniform (Space.Storage b) = false
same_space Space.Uniform Space.Other = false
same_space (Space.Storage a) Space.Uniform = false
same_space (Space.Storage a) (Space.Storage b) = a == b
same_space (Space.Storage a) Space.Other = false
same_space Space.Other Space.Uniform = false
same_space Space.Other (Space.Storage b) = false
same_space Space.Other Space.Other = true

-- a least size that is set and smaller than the shader's is 25
abbrev pub size_use : ℕ → ℕ → Result Unit BindingError
size_use size least = pick (least == 0) (Ok tt) (pick (nat_lt least size) (Err Error.WrongBufferSize) (Ok tt))

unfoldable pub buffer_use : ℕ → AddressSpace → BindingType → Result Unit BindingError
buffer_use size space (Bind.Buffer ty dynamic least) = pick (same_space space (space_of ty)) (size_use size least) (Err Error.WrongAddressSpace)
buffer_use size space (Bind.Sampler ty) = Err Error.WrongType
buffer_use size space (Bind.Texture sample view multi) = Err Error.WrongType
buffer_use size space (Bind.StorageTexture access format view) = Err Error.WrongType
buffer_use size space Bind.ExternalTexture = Err Error.WrongType
buffer_use size space (Bind.AccelerationStructure returns) = Err Error.WrongType

-- ---- samplers

abbrev pub comparing : SamplerBindingType → Bool
comparing Samp.Filtering = false
comparing Samp.NonFiltering = false
comparing Samp.Comparison = true

unfoldable pub sampler_use : Bool → BindingType → Result Unit BindingError
sampler_use comparison (Bind.Sampler ty) = pick (same_bool comparison (comparing ty)) (Ok tt) (Err Error.WrongSamplerComparison)
sampler_use comparison (Bind.Buffer ty dynamic least) = Err Error.WrongType
sampler_use comparison (Bind.Texture sample view multi) = Err Error.WrongType
sampler_use comparison (Bind.StorageTexture access format view) = Err Error.WrongType
sampler_use comparison Bind.ExternalTexture = Err Error.WrongType
sampler_use comparison (Bind.AccelerationStructure returns) = Err Error.WrongType

-- ---- textures

abbrev pub same_view : TextureViewDimension → TextureViewDimension → Bool
same_view a b = view_code a == view_code b

-- an arrayed texture is 2D or cube; 1D and 3D have no arrayed view
unfoldable pub view_fits : ImageDimension → Bool → TextureViewDimension → Bool
view_fits Dim.D1 arrayed view = pick (yes arrayed) false (same_view view View.D1)
view_fits Dim.D2 arrayed view = pick (yes arrayed) (same_view view View.D2Array) (same_view view View.D2)
view_fits Dim.D3 arrayed view = pick (yes arrayed) false (same_view view View.D3)
view_fits Dim.Cube arrayed view = pick (yes arrayed) (same_view view View.CubeArray) (same_view view View.Cube)

-- the class that a sampled entry stands for
abbrev pub class_of : TextureSampleType → Bool → ImageClass
class_of (Sample.Float filterable) multi = Class.Sampled Kind.Float multi
class_of Sample.Depth multi = Class.Depth multi
class_of Sample.Sint multi = Class.Sampled Kind.Sint multi
class_of Sample.Uint multi = Class.Sampled Kind.Uint multi

-- whether a shader's class is that of a sampled entry
unfoldable pub sampled_fits : ImageClass → ImageClass → Bool
sampled_fits (Class.Sampled kind multi) (Class.Sampled k m) = sample_kind_code kind == sample_kind_code k && same_bool multi m
sampled_fits (Class.Sampled kind multi) (Class.Depth m) = false
sampled_fits (Class.Sampled kind multi) (Class.Storage f a) = false
sampled_fits (Class.Sampled kind multi) Class.External = false
sampled_fits (Class.Depth multi) (Class.Sampled k m) = false
sampled_fits (Class.Depth multi) (Class.Depth m) = same_bool multi m
sampled_fits (Class.Depth multi) (Class.Storage f a) = false
sampled_fits (Class.Depth multi) Class.External = false
sampled_fits (Class.Storage format access) class = false
sampled_fits Class.External class = false

-- formats are equal, and accesses too, or a store-only shader stands on an entry of load and store
unfoldable pub storage_fits : ImageClass → ℕ → ℕ → Bool
storage_fits (Class.Storage format access) f a = format == f && (access == a || (access == 2 && a == 3))
storage_fits (Class.Sampled kind multi) f a = false
storage_fits (Class.Depth multi) f a = false
storage_fits Class.External f a = false

abbrev pub is_external : ImageClass → Bool
is_external (Class.Sampled kind multi) = false
is_external (Class.Depth multi) = false
is_external (Class.Storage format access) = false
is_external Class.External = true

abbrev pub class_use : Bool → Result Unit BindingError
class_use fits = pick fits (Ok tt) (Err Error.WrongTextureClass)

-- a texture on an entry that is none is 26, as is a view of another dimension; a format that can't be stored is 30; else the classes
unfoldable pub texture_use : ImageDimension → Bool → ImageClass → BindingType → Result Unit BindingError
texture_use dim arrayed class (Bind.Texture sample view multi) =
    pick (view_fits dim arrayed view) (class_use (sampled_fits class (class_of sample multi))) (Err Error.WrongTextureViewDimension)
texture_use dim arrayed class (Bind.StorageTexture access format view) =
    pick (view_fits dim arrayed view) (pick (storable format) (class_use (storage_fits class format (access_of access))) (Err Error.BadStorageFormat))
    (Err Error.WrongTextureViewDimension)
texture_use dim arrayed class Bind.ExternalTexture =
    pick (view_fits dim arrayed View.D2) (class_use (is_external class)) (Err Error.WrongTextureViewDimension)
texture_use dim arrayed class (Bind.Buffer ty dynamic least) = Err Error.WrongTextureViewDimension
texture_use dim arrayed class (Bind.Sampler ty) = Err Error.WrongTextureViewDimension
texture_use dim arrayed class (Bind.AccelerationStructure returns) = Err Error.WrongTextureViewDimension

-- ---- any resource

unfoldable pub acceleration_use : Bool → BindingType → Result Unit BindingError
acceleration_use returns (Bind.AccelerationStructure r) = pick (same_bool returns r) (Ok tt) (Err Error.WrongType)
acceleration_use returns (Bind.Buffer ty dynamic least) = Err Error.WrongType
acceleration_use returns (Bind.Sampler ty) = Err Error.WrongType
acceleration_use returns (Bind.Texture sample view multi) = Err Error.WrongType
acceleration_use returns (Bind.StorageTexture access format view) = Err Error.WrongType
acceleration_use returns Bind.ExternalTexture = Err Error.WrongType

-- whether a layout entry serves a resource
unfoldable pub check_binding_use : ResourceType → BindingType → Result Unit BindingError
check_binding_use (Res.Buffer size space) entry = buffer_use size space entry
check_binding_use (Res.Sampler comparison) entry = sampler_use comparison entry
check_binding_use (Res.Texture dim arrayed class) entry = texture_use dim arrayed class entry
check_binding_use (Res.AccelerationStructure returns) entry = acceleration_use returns entry

-- ---- when two entries are of one type: the same case, and the same in each part

abbrev pub same_buffer : BufferBindingType → BufferBindingType → Bool
same_buffer Buf.Uniform Buf.Uniform = true
same_buffer Buf.Uniform (Buf.Storage b) = false
same_buffer (Buf.Storage a) Buf.Uniform = false
same_buffer (Buf.Storage a) (Buf.Storage b) = same_bool a b

abbrev pub same_sampler : SamplerBindingType → SamplerBindingType → Bool
same_sampler Samp.Filtering Samp.Filtering = true
same_sampler Samp.Filtering Samp.NonFiltering = false
same_sampler Samp.Filtering Samp.Comparison = false
same_sampler Samp.NonFiltering Samp.Filtering = false
same_sampler Samp.NonFiltering Samp.NonFiltering = true
same_sampler Samp.NonFiltering Samp.Comparison = false
same_sampler Samp.Comparison Samp.Filtering = false
same_sampler Samp.Comparison Samp.NonFiltering = false
same_sampler Samp.Comparison Samp.Comparison = true

abbrev pub same_sample : TextureSampleType → TextureSampleType → Bool
same_sample (Sample.Float a) (Sample.Float b) = same_bool a b
same_sample (Sample.Float a) Sample.Depth = false
same_sample (Sample.Float a) Sample.Sint = false
same_sample (Sample.Float a) Sample.Uint = false
same_sample Sample.Depth (Sample.Float b) = false
same_sample Sample.Depth Sample.Depth = true
same_sample Sample.Depth Sample.Sint = false
same_sample Sample.Depth Sample.Uint = false
same_sample Sample.Sint (Sample.Float b) = false
same_sample Sample.Sint Sample.Depth = false
same_sample Sample.Sint Sample.Sint = true
same_sample Sample.Sint Sample.Uint = false
same_sample Sample.Uint (Sample.Float b) = false
same_sample Sample.Uint Sample.Depth = false
same_sample Sample.Uint Sample.Sint = false
same_sample Sample.Uint Sample.Uint = true

abbrev pub same_access : StorageTextureAccess → StorageTextureAccess → Bool
same_access a b = access_of a == access_of b

-- a buffer entry is another: what kind of buffer, whether its offset is dynamic, 'least size included'
abbrev pub same_as_buffer : BufferBindingType → Bool → ℕ → BindingType → Bool
same_as_buffer ty dynamic least (Bind.Buffer t d l) = same_buffer ty t && (same_bool dynamic d && least == l)
same_as_buffer ty dynamic least (Bind.Sampler t) = false
same_as_buffer ty dynamic least (Bind.Texture sample view multi) = false
same_as_buffer ty dynamic least (Bind.StorageTexture access format view) = false
same_as_buffer ty dynamic least Bind.ExternalTexture = false
same_as_buffer ty dynamic least (Bind.AccelerationStructure returns) = false

abbrev pub same_as_sampler : SamplerBindingType → BindingType → Bool
same_as_sampler ty (Bind.Sampler t) = same_sampler ty t
same_as_sampler ty (Bind.Buffer t dynamic least) = false
same_as_sampler ty (Bind.Texture sample view multi) = false
same_as_sampler ty (Bind.StorageTexture access format view) = false
same_as_sampler ty Bind.ExternalTexture = false
same_as_sampler ty (Bind.AccelerationStructure returns) = false

abbrev pub same_as_texture : TextureSampleType → TextureViewDimension → Bool → BindingType → Bool
same_as_texture sample view multi (Bind.Texture s v m) = same_sample sample s && (same_view view v && same_bool multi m)
same_as_texture sample view multi (Bind.Buffer ty dynamic least) = false
same_as_texture sample view multi (Bind.Sampler ty) = false
same_as_texture sample view multi (Bind.StorageTexture access format v) = false
same_as_texture sample view multi Bind.ExternalTexture = false
same_as_texture sample view multi (Bind.AccelerationStructure returns) = false

abbrev pub same_as_storage_texture : StorageTextureAccess → ℕ → TextureViewDimension → BindingType → Bool
same_as_storage_texture access format view (Bind.StorageTexture a f v) = same_access access a && (format == f && same_view view v)
same_as_storage_texture access format view (Bind.Buffer ty dynamic least) = false
same_as_storage_texture access format view (Bind.Sampler ty) = false
same_as_storage_texture access format view (Bind.Texture sample v multi) = false
same_as_storage_texture access format view Bind.ExternalTexture = false
same_as_storage_texture access format view (Bind.AccelerationStructure returns) = false

abbrev pub same_as_external : BindingType → Bool
same_as_external Bind.ExternalTexture = true
same_as_external (Bind.Buffer ty dynamic least) = false
same_as_external (Bind.Sampler ty) = false
same_as_external (Bind.Texture sample view multi) = false
same_as_external (Bind.StorageTexture access format view) = false
same_as_external (Bind.AccelerationStructure returns) = false

abbrev pub same_as_acceleration : Bool → BindingType → Bool
same_as_acceleration returns (Bind.AccelerationStructure r) = same_bool returns r
same_as_acceleration returns (Bind.Buffer ty dynamic least) = false
same_as_acceleration returns (Bind.Sampler ty) = false
same_as_acceleration returns (Bind.Texture sample view multi) = false
same_as_acceleration returns (Bind.StorageTexture access format view) = false
same_as_acceleration returns Bind.ExternalTexture = false

-- what 29 compares: types, whatever words carry them
unfoldable pub same_binding : BindingType → BindingType → Bool
same_binding (Bind.Buffer ty dynamic least) b = same_as_buffer ty dynamic least b
same_binding (Bind.Sampler ty) b = same_as_sampler ty b
same_binding (Bind.Texture sample view multi) b = same_as_texture sample view multi b
same_binding (Bind.StorageTexture access format view) b = same_as_storage_texture access format view b
same_binding Bind.ExternalTexture b = same_as_external b
same_binding (Bind.AccelerationStructure returns) b = same_as_acceleration returns b

-- ---- deriving an entry's type

abbrev pub derived_view : ImageDimension → Bool → TextureViewDimension
derived_view Dim.D1 arrayed = View.D1
derived_view Dim.D2 arrayed = pick (yes arrayed) View.D2Array View.D2
derived_view Dim.D3 arrayed = View.D3
derived_view Dim.Cube arrayed = pick (yes arrayed) View.CubeArray View.Cube

-- a float texture is filterable where a pair of the entry point names it
abbrev pub derived_sample : SampleKind → Bool → TextureSampleType
derived_sample Kind.Float named = Sample.Float named
derived_sample Kind.Sint named = Sample.Sint
derived_sample Kind.Uint named = Sample.Uint

-- load, store, both; any other access has atomic in it
abbrev pub derived_access : ℕ → StorageTextureAccess
derived_access access = pick (access == 1) Acc.ReadOnly (pick (access == 2) Acc.WriteOnly (pick (access == 3) Acc.ReadWrite Acc.Atomic))

unfoldable pub derived_texture : ImageClass → TextureViewDimension → Bool → BindingType
derived_texture (Class.Sampled kind multi) view named = Bind.Texture (derived_sample kind named) view multi
derived_texture (Class.Depth multi) view named = Bind.Texture Sample.Depth view multi
derived_texture (Class.Storage format access) view named = Bind.StorageTexture (derived_access access) format view
derived_texture Class.External view named = Bind.ExternalTexture

-- storage of load alone is read-only; a space that is neither uniform nor storage is 24
abbrev pub derived_buffer : ℕ → AddressSpace → Result BindingType BindingError
derived_buffer size Space.Uniform = Ok (Bind.Buffer Buf.Uniform false size)
derived_buffer size (Space.Storage access) = Ok (Bind.Buffer (Buf.Storage (access == 1)) false size)
derived_buffer size Space.Other = Err Error.WrongBufferAddressSpace

unfoldable pub derive_binding_type : ResourceType → Bool → Result BindingType BindingError
derive_binding_type (Res.Buffer size space) named = derived_buffer size space
derive_binding_type (Res.Sampler comparison) named = Ok (Bind.Sampler (pick (yes comparison) Samp.Comparison Samp.Filtering))
derive_binding_type (Res.Texture dim arrayed class) named = Ok (derived_texture class (derived_view dim arrayed) named)
derive_binding_type (Res.AccelerationStructure returns) named = Ok (Bind.AccelerationStructure returns)
