-- The numbers that answers carry (document 01, 'Numbers'), each written here and in no other definition; src/refusal.rt and include/bokwingi.h have the same names.
use Rattle.std.specs.Prelude.{ℕ}
use Rattle.word.specs.declared.refusal.Number.{Number}

-- ---- the pack and the call

-- under 16 or over 4,096 words, total unlike the length, or sum
abbrev pub damaged_pack : ℕ
damaged_pack = 1

-- a word, code, index or rule of a whole pack
abbrev pub malformed_pack : ℕ
malformed_pack = 2

-- a lent list, or the call's stage, topology, mode or flag
abbrev pub bad_call : ℕ
bad_call = 3

-- the list out is too short
abbrev pub short_out : ℕ
short_out = 4

-- no free words for a new record
abbrev pub full_list : ℕ
full_list = 5

-- ---- the choice of an entry point

-- none has the stage and the name
abbrev pub entry_absent : ℕ
entry_absent = 10

-- no name given, and none has the stage
abbrev pub entry_none : ℕ
entry_none = 11

-- no name given, and several have the stage
abbrev pub entry_several : ℕ
entry_several = 12

-- ---- resources against the layout

-- no entry at the place, or, where the layout is derived, no such group
abbrev pub missing : ℕ
missing = 20

-- the stage does not see the entry
abbrev pub invisible : ℕ
invisible = 21

-- an entry of another sort
abbrev pub wrong_type : ℕ
wrong_type = 22

-- a buffer's space or access is not the entry's
abbrev pub wrong_address_space : ℕ
wrong_address_space = 23

-- no entry can be derived for the space
abbrev pub wrong_buffer_address_space : ℕ
wrong_buffer_address_space = 24

-- the entry promises fewer bytes
abbrev pub wrong_buffer_size : ℕ
wrong_buffer_size = 25

-- dimension or arrayed differ, or the entry is no texture
abbrev pub wrong_texture_view_dimension : ℕ
wrong_texture_view_dimension = 26

-- sort, samples, format or access differ
abbrev pub wrong_texture_class : ℕ
wrong_texture_class = 27

-- one is a comparison sampler, the other is not
abbrev pub wrong_sampler_comparison : ℕ
wrong_sampler_comparison = 28

-- a stage before derived another type here
abbrev pub inconsistently_derived_type : ℕ
inconsistently_derived_type = 29

-- the entry's format cannot be stored
abbrev pub bad_storage_format : ℕ
bad_storage_format = 30

-- ---- textures with samplers

-- a filtering sampler, and a float texture that is not filterable
abbrev pub filtering_float : ℕ
filtering_float = 32

-- a filtering sampler, and an integer texture
abbrev pub filtering_integer : ℕ
filtering_integer = 33

-- the entry for the texture is no texture
abbrev pub pair_no_texture : ℕ
pair_no_texture = 34

-- ---- workgroup size

-- a dimension or the product is above its limit
abbrev pub workgroup_too_large : ℕ
workgroup_too_large = 40

-- a dimension is 0
abbrev pub workgroup_zero : ℕ
workgroup_zero = 41

-- ---- inputs

-- nothing is provided at the location
abbrev pub input_missing : ℕ
input_missing = 50

-- what is provided is of another type
abbrev pub input_type : ℕ
input_type = 51

-- another interpolation
abbrev pub input_interpolation : ℕ
input_interpolation = 52

-- another sampling
abbrev pub input_sampling : ℕ
input_sampling = 53

-- one is per primitive, the other is not
abbrev pub input_per_primitive : ℕ
input_per_primitive = 54

-- ---- slots between stages, and attachments

-- a vertex output past the highest location
abbrev pub vertex_location : ℕ
vertex_location = 60

-- more vertex outputs than slots
abbrev pub vertex_count : ℕ
vertex_count = 61

-- a fragment input at or past the limit
abbrev pub fragment_location : ℕ
fragment_location = 62

-- more fragment inputs than slots
abbrev pub fragment_count : ℕ
fragment_count = 63

-- a fragment output at or past the number of attachments
abbrev pub colour_location : ℕ
colour_location = 64

-- what is taken off the limit is more than the limit
abbrev pub slots_used_up : ℕ
slots_used_up = 65

-- dual source asked for and not supported
abbrev pub dual_source : ℕ
dual_source = 66

-- depth written and none attached
abbrev pub depth_attachment : ℕ
depth_attachment = 67

-- ---- mesh and task stages, primitives

-- more vertices than the limit
abbrev pub mesh_vertices : ℕ
mesh_vertices = 70

-- more primitives than the limit
abbrev pub mesh_primitives : ℕ
mesh_primitives = 71

-- not the pipeline's topology
abbrev pub mesh_topology : ℕ
mesh_topology = 72

-- a payload above the limit
abbrev pub payload_large : ℕ
payload_large = 73

-- not the payload of the stage before
abbrev pub payload_mismatch : ℕ
payload_mismatch = 74

-- the primitive index is read and not written
abbrev pub invalid_primitive_index : ℕ
invalid_primitive_index = 75

-- the primitive index is written and not read
abbrev pub missing_primitive_index : ℕ
missing_primitive_index = 76

-- a mesh stage behind a task stage reads the draw index
abbrev pub draw_index : ℕ
draw_index = 77

-- a per-vertex input, and no triangles
abbrev pub per_vertex_not_triangles : ℕ
per_vertex_not_triangles = 78

-- ---- formats and lone types

-- a format without a colour type
abbrev pub no_colour_type : ℕ
no_colour_type = 80

-- the type does not fit the format's
abbrev pub format_mismatch : ℕ
format_mismatch = 81

-- no such format code or type word
abbrev pub unknown_code : ℕ
unknown_code = 82

-- ---- declared types

-- a type list or a binding is malformed, no such type, or clip distances where they cannot stand
abbrev pub bad_types : ℕ
bad_types = 90

-- structs nest more than 8 deep
abbrev pub nested_too_deep : ℕ
nested_too_deep = 91

-- a type gives a sixty-fourth varying
abbrev pub too_many_varyings : ℕ
too_many_varyings = 92

-- the number of each case of the code's enum
abbrev pub number_of : Number → ℕ
number_of Number.DamagedPack = damaged_pack
number_of Number.MalformedPack = malformed_pack
number_of Number.BadCall = bad_call
number_of Number.ShortOut = short_out
number_of Number.FullList = full_list
number_of Number.EntryAbsent = entry_absent
number_of Number.EntryNone = entry_none
number_of Number.EntrySeveral = entry_several
number_of Number.Missing = missing
number_of Number.Invisible = invisible
number_of Number.WrongType = wrong_type
number_of Number.WrongAddressSpace = wrong_address_space
number_of Number.WrongBufferAddressSpace = wrong_buffer_address_space
number_of Number.WrongBufferSize = wrong_buffer_size
number_of Number.WrongTextureViewDimension = wrong_texture_view_dimension
number_of Number.WrongTextureClass = wrong_texture_class
number_of Number.WrongSamplerComparison = wrong_sampler_comparison
number_of Number.InconsistentlyDerivedType = inconsistently_derived_type
number_of Number.BadStorageFormat = bad_storage_format
number_of Number.FilteringFloat = filtering_float
number_of Number.FilteringInteger = filtering_integer
number_of Number.PairNoTexture = pair_no_texture
number_of Number.WorkgroupTooLarge = workgroup_too_large
number_of Number.WorkgroupZero = workgroup_zero
number_of Number.InputMissing = input_missing
number_of Number.InputType = input_type
number_of Number.InputInterpolation = input_interpolation
number_of Number.InputSampling = input_sampling
number_of Number.InputPerPrimitive = input_per_primitive
number_of Number.VertexLocation = vertex_location
number_of Number.VertexCount = vertex_count
number_of Number.FragmentLocation = fragment_location
number_of Number.FragmentCount = fragment_count
number_of Number.ColourLocation = colour_location
number_of Number.SlotsUsedUp = slots_used_up
number_of Number.DualSource = dual_source
number_of Number.DepthAttachment = depth_attachment
number_of Number.MeshVertices = mesh_vertices
number_of Number.MeshPrimitives = mesh_primitives
number_of Number.MeshTopology = mesh_topology
number_of Number.PayloadLarge = payload_large
number_of Number.PayloadMismatch = payload_mismatch
number_of Number.InvalidPrimitiveIndex = invalid_primitive_index
number_of Number.MissingPrimitiveIndex = missing_primitive_index
number_of Number.DrawIndex = draw_index
number_of Number.PerVertexNotTriangles = per_vertex_not_triangles
number_of Number.NoColourType = no_colour_type
number_of Number.FormatMismatch = format_mismatch
number_of Number.UnknownCode = unknown_code
number_of Number.BadTypes = bad_types
number_of Number.NestedTooDeep = nested_too_deep
number_of Number.TooManyVaryings = too_many_varyings
