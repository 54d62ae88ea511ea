-- The numbers that document 01 hands out ('Numbers'), by the function that answers with them.
use Rattle.std.specs.Prelude.{ℕ, Bool, true, ◌&&◌, List, [], ◌∷◌, ◌++◌, eqb, drop}
use Rattle.word.specs.Choice.{pick}
use Rattle.word.specs.Lists.{every, among}
use Rattle.word.specs.Numbers as Number
use Rattle.word.specs.declared.answer.Answer.{Answer}

-- ---- a stage check

-- 'Refusals 1–4 and 10–12 change no lent buffer'
abbrev pub early : List ℕ
early =
    Number.damaged_pack ∷ Number.malformed_pack ∷ Number.bad_call ∷ Number.short_out
    ∷ Number.entry_absent ∷ Number.entry_none ∷ Number.entry_several ∷ []

-- 'A stage: 1, 2, 3, 10, 4; then' its steps
abbrev pub call_numbers : List ℕ
call_numbers = Number.damaged_pack ∷ Number.malformed_pack ∷ Number.bad_call ∷ Number.entry_absent ∷ Number.short_out ∷ []

-- '5 and 20–30': a resource is refused
abbrev pub resource_numbers : List ℕ
resource_numbers =
    Number.full_list ∷ Number.missing ∷ Number.invisible ∷ Number.wrong_type ∷ Number.wrong_address_space ∷ Number.wrong_buffer_address_space
    ∷ Number.wrong_buffer_size ∷ Number.wrong_texture_view_dimension ∷ Number.wrong_texture_class ∷ Number.wrong_sampler_comparison
    ∷ Number.inconsistently_derived_type ∷ Number.bad_storage_format ∷ []

-- refusals of the steps behind the resources, which alter no list
abbrev pub judgement_numbers : List ℕ
judgement_numbers =
    Number.filtering_float ∷ Number.filtering_integer ∷ Number.pair_no_texture ∷ Number.workgroup_too_large ∷ Number.workgroup_zero
    ∷ Number.input_missing ∷ Number.input_type ∷ Number.input_interpolation ∷ Number.input_sampling ∷ Number.input_per_primitive
    ∷ Number.vertex_location ∷ Number.vertex_count ∷ Number.fragment_location ∷ Number.fragment_count ∷ Number.colour_location
    ∷ Number.slots_used_up ∷ Number.dual_source ∷ Number.depth_attachment ∷ Number.mesh_vertices ∷ Number.mesh_primitives
    ∷ Number.mesh_topology ∷ Number.payload_large ∷ Number.payload_mismatch ∷ Number.invalid_primitive_index ∷ Number.missing_primitive_index
    ∷ Number.draw_index ∷ Number.per_vertex_not_triangles ∷ []

-- what a stage check answers
abbrev pub stage_numbers : List ℕ
stage_numbers = 0 ∷ (call_numbers ++ (resource_numbers ++ judgement_numbers))

-- ---- the other functions that answer

-- the check of a pack alone
abbrev pub pack_numbers : List ℕ
pack_numbers = 0 ∷ Number.damaged_pack ∷ Number.malformed_pack ∷ []

-- 'Choosing a name where none is given: 1, 2, 3, 11, 12'
abbrev pub name_numbers : List ℕ
name_numbers = 0 ∷ Number.damaged_pack ∷ Number.malformed_pack ∷ Number.bad_call ∷ Number.entry_none ∷ Number.entry_several ∷ []

-- the type of a vertex format, and of a texture format
abbrev pub vertex_format_numbers : List ℕ
vertex_format_numbers = 0 ∷ Number.unknown_code ∷ []

abbrev pub texture_format_numbers : List ℕ
texture_format_numbers = 0 ∷ Number.no_colour_type ∷ Number.unknown_code ∷ []

-- a texture format against a type
abbrev pub format_use_numbers : List ℕ
format_use_numbers = 0 ∷ Number.no_colour_type ∷ Number.format_mismatch ∷ Number.unknown_code ∷ []

-- the words of a resource against those of an entry
abbrev pub words_use_numbers : List ℕ
words_use_numbers =
    0 ∷ Number.malformed_pack ∷ Number.bad_call ∷ Number.wrong_type ∷ Number.wrong_address_space ∷ Number.wrong_buffer_size
    ∷ Number.wrong_texture_view_dimension ∷ Number.wrong_texture_class ∷ Number.wrong_sampler_comparison ∷ Number.bad_storage_format ∷ []

-- the derivation of an entry's type from the words of a resource
abbrev pub derivation_numbers : List ℕ
derivation_numbers = 0 ∷ Number.malformed_pack ∷ Number.wrong_buffer_address_space ∷ []

-- whether a lone type is below another: no and yes, which are no numbers of the table, or 82
abbrev pub subtype_numbers : List ℕ
subtype_numbers = 0 ∷ 1 ∷ Number.unknown_code ∷ []

-- the varyings of a declared type: '90, … 91 … and … 92, in that order …; then … 4'
abbrev pub populate_numbers : List ℕ
populate_numbers = 0 ∷ Number.bad_types ∷ Number.nested_too_deep ∷ Number.too_many_varyings ∷ Number.short_out ∷ []

-- ---- all of them

abbrev pub table : List ℕ
table =
    early ++ (0 ∷ (resource_numbers ++ (judgement_numbers
    ++ (Number.no_colour_type ∷ Number.format_mismatch ∷ Number.unknown_code ∷ Number.bad_types ∷ Number.nested_too_deep ∷ Number.too_many_varyings ∷ []))))

-- 'An answer is the number and three details, 0 unless named': acceptance names as many details as a function says
abbrev pub plain_from : ℕ → Answer → Bool
plain_from named a = pick (eqb a.number 0) (every (λ d. eqb d 0) (drop named (a.first ∷ a.second ∷ a.third ∷ []))) true

-- an answer has one of a function's numbers, and on acceptance no details but those named
unfoldable pub answered : List ℕ → ℕ → Answer → Bool
answered numbers named a = among numbers a.number && plain_from named a
