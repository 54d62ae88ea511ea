-- The resources of an entry point against a layout, provided or derived, and its pairs of textures and samplers
-- (document 01, 'Each resource in list order' and 'Provided only: each pair in pack order'; WebGPU, 'validating GPUProgrammableStage').
use Rattle.std.specs.Prelude.{ℕ, zero, suc, ◌^◌, Bool, true, false, List, [], ◌∷◌, eqb, ltb, Option, Some, None, Result, Ok, Err}
use Rattle.word.specs.Choice.{pick, yes}
use Rattle.word.specs.Numbers as Number
use Rattle.word.specs.Answers.{answer, accepted, both}
use Rattle.word.specs.declared.answer.Answer.{Answer}
use Rattle.bindings.specs.Rules.{check_binding_use, use_number, error_number, same_binding, derive_binding_type}
use Rattle.bindings.specs.Format.{place_word}
use Rattle.bindings.specs.Answers.{binding_answer}
use Rattle.bindings.specs.declared.types.ResourceBinding.{ResourceBinding}
use Rattle.bindings.specs.declared.types.Resource.{Resource}
use Rattle.bindings.specs.declared.types.ResourceType.{ResourceType}
use Rattle.bindings.specs.declared.types.ResourceType.TheVariants as Res
use Rattle.bindings.specs.declared.types.BindingType.{BindingType}
use Rattle.bindings.specs.declared.types.BindingType.TheVariants as Bind
use Rattle.bindings.specs.declared.types.SamplerBindingType.TheVariants as Samp
use Rattle.bindings.specs.declared.types.TextureSampleType.{TextureSampleType}
use Rattle.bindings.specs.declared.types.TextureSampleType.TheVariants as Sample
use Rattle.bindings.specs.declared.types.BindGroupLayoutEntry.{BindGroupLayoutEntry}
use Rattle.bindings.specs.declared.types.BindingError.{BindingError}
use Rattle.layouts.specs.Meaning.{Layout, find_entry, entry_nth, sees_bit, pushed, joined, room_for_entry}
use Rattle.sizes.specs.Meaning.{Sizes, size_fits, recorded}
use Rattle.interface.specs.Format.{stage_code}
use Rattle.interface.specs.declared.types.ShaderStage.{ShaderStage}
use Rattle.interface.specs.declared.types.SamplingPair.{SamplingPair}
use Rattle.resource_steps.specs.Meaning.{State, state}

-- the resource of an index; past the end an acceleration structure at the first place
abbrev pub no_resource : Resource
no_resource = record { bind = record { group = 0; binding = 0 }; ty = Res.AccelerationStructure false }

unfoldable pub resource_nth : List Resource → ℕ → Resource
resource_nth [] i = no_resource
resource_nth (r ∷ rs) zero = r
resource_nth (r ∷ rs) (suc i) = resource_nth rs i

-- ---- provided

-- a step against a provided layout: its answer, and the sizes after it
pub record SizesAfter : Type 0 where
  pub answer : Answer
  pub sizes : Sizes

abbrev pub sizes_after : Answer → Sizes → SizesAfter
sizes_after a S = record { answer = a; sizes = S }

-- 'record a buffer's larger size (5)'; other resources record nothing
unfoldable pub record_size : ResourceBinding → ResourceType → Sizes → SizesAfter
record_size bind (Res.Buffer size space) S = pick (size_fits bind S) (sizes_after accepted (recorded bind size S)) (sizes_after (binding_answer Number.full_list bind) S)
record_size bind (Res.Sampler comparison) S = sizes_after accepted S
record_size bind (Res.Texture dim arrayed class) S = sizes_after accepted S
record_size bind (Res.AccelerationStructure returns) S = sizes_after accepted S

-- 'visibility (kind 19, bit s for stage s)'
abbrev pub entry_use : ShaderStage → ResourceType → BindGroupLayoutEntry → ℕ
entry_use stage ty e = pick (sees_bit (stage_code stage) e.visibility) (use_number (check_binding_use ty e.ty)) Number.invisible

-- no entry at the place is 20
abbrev pub found_use : ShaderStage → ResourceType → Layout → Option ℕ → ℕ
found_use stage ty L (Some i) = entry_use stage ty (entry_nth L.entries i)
found_use stage ty L None = Number.missing

-- 'then 20, 21, check_binding_use'
unfoldable pub provided_use : ShaderStage → Layout → Resource → Answer
provided_use stage L r = binding_answer (found_use stage r.ty L (find_entry r.bind L)) r.bind

-- an answer behind a step that was accepted
abbrev pub answer_after : SizesAfter → Answer → SizesAfter
answer_after x a = pick (eqb x.answer.number 0) (sizes_after a x.sizes) x

-- the size, 'then' the use
unfoldable pub provide_step : ShaderStage → Layout → Resource → Sizes → SizesAfter
provide_step stage L r S = answer_after (record_size r.bind r.ty S) (provided_use stage L r)

-- ---- derived

-- a step that derives: its answer, and the layout after it
pub record LayoutAfter : Type 0 where
  pub answer : Answer
  pub layout : Layout

abbrev pub layout_after : Answer → Layout → LayoutAfter
layout_after a L = record { answer = a; layout = L }

-- 'then a present entry of other type (least size included) is 29, of equal type gains the stage's bit'
unfoldable pub occupied : ShaderStage → ResourceBinding → BindingType → ℕ → Layout → LayoutAfter
occupied stage bind ty i L =
    pick (same_binding ty (entry_nth L.entries i).ty) (layout_after accepted (joined (stage_code stage) L i)) (layout_after (binding_answer Number.inconsistently_derived_type bind) L)

-- an entry that one stage sees
abbrev pub new_entry : ShaderStage → ResourceBinding → BindingType → BindGroupLayoutEntry
new_entry stage bind ty = record { bind = bind; ty = ty; visibility = 2 ^ stage_code stage }

-- 'else 5 or a new entry'
unfoldable pub vacant : ShaderStage → ResourceBinding → BindingType → Layout → LayoutAfter
vacant stage bind ty L =
    pick (room_for_entry L) (layout_after accepted (pushed L (new_entry stage bind ty))) (layout_after (binding_answer Number.full_list bind) L)

-- a derived type at its place
abbrev pub place_step : ShaderStage → ResourceBinding → BindingType → Option ℕ → Layout → LayoutAfter
place_step stage bind ty (Some i) L = occupied stage bind ty i L
place_step stage bind ty None L = vacant stage bind ty L

-- what was derived, at its place
abbrev pub derived_step : ShaderStage → ResourceBinding → Result BindingType BindingError → Layout → LayoutAfter
derived_step stage bind (Ok ty) L = place_step stage bind ty (find_entry bind L) L
derived_step stage bind (Err e) L = layout_after (binding_answer (error_number e) bind) L

-- 'Derived: 20, deriving (24)'; a group that the layout has not is 20
unfoldable pub derive_step : ShaderStage → Bool → Resource → Layout → LayoutAfter
derive_step stage named r L =
    pick (ltb r.bind.group L.groups) (derived_step stage r.bind (derive_binding_type r.ty named) L) (layout_after (binding_answer Number.missing r.bind) L)

-- ---- each resource in list order

-- resources in list order against a provided layout: the answer, how many passed, and the sizes recorded
pub record ProvideResult : Type 0 where
  pub answer : Answer
  pub passed : ℕ
  pub sizes : Sizes

abbrev pub provide_result : Answer → ℕ → Sizes → ProvideResult
provide_result a n S = record { answer = a; passed = n; sizes = S }

-- 'first failure ending it': a step, and where it was accepted the others, with one more that passed
abbrev pub provide_on : SizesAfter → (Sizes → ProvideResult) → ProvideResult
provide_on x k =
    let rest = k x.sizes in
    pick (eqb x.answer.number 0) (provide_result rest.answer (suc rest.passed) rest.sizes) (provide_result x.answer 0 x.sizes)

-- 'Each resource in list order', provided
unfoldable pub provide_steps : ShaderStage → Layout → List Resource → List ℕ → Sizes → ProvideResult
provide_steps stage L resources [] S = provide_result accepted 0 S
provide_steps stage L resources (i ∷ is) S = provide_on (provide_step stage L (resource_nth resources i) S) λ S. provide_steps stage L resources is S

-- the same where the layout is derived
pub record DeriveResult : Type 0 where
  pub answer : Answer
  pub passed : ℕ
  pub layout : Layout

abbrev pub derive_result : Answer → ℕ → Layout → DeriveResult
derive_result a n L = record { answer = a; passed = n; layout = L }

-- a step that derives, and the others in the same way
abbrev pub derive_on : LayoutAfter → (Layout → DeriveResult) → DeriveResult
derive_on x k =
    let rest = k x.layout in
    pick (eqb x.answer.number 0) (derive_result rest.answer (suc rest.passed) rest.layout) (derive_result x.answer 0 x.layout)

-- whether some pair names the index as its texture
unfoldable pub named_texture : ℕ → List SamplingPair → Bool
named_texture i [] = false
named_texture i (p ∷ ps) = let rest = named_texture i ps in pick (eqb p.texture i) true rest

-- 'Each resource in list order', derived
unfoldable pub derive_steps : ShaderStage → List Resource → List SamplingPair → List ℕ → Layout → DeriveResult
derive_steps stage resources pairs [] L = derive_result accepted 0 L
derive_steps stage resources pairs (i ∷ is) L =
    derive_on (derive_step stage (named_texture i pairs) (resource_nth resources i) L) λ L. derive_steps stage resources pairs is L

-- provided mode leaves the layout as it is
abbrev pub provided_over : Layout → ProvideResult → State
provided_over L x = state x.answer L x.sizes

-- derived mode leaves the sizes as they are
abbrev pub derived_beside : Sizes → DeriveResult → State
derived_beside S x = state x.answer x.layout S

-- each resource in the mode of the call
unfoldable pub resource_steps : ShaderStage → Bool → List Resource → List SamplingPair → List ℕ → Layout → Sizes → State
resource_steps stage derived resources pairs is L S =
    pick (yes derived) (derived_beside S (derive_steps stage resources pairs is L)) (provided_over L (provide_steps stage L resources is S))

-- ---- each pair in pack order

abbrev pub filtering : BindingType → Bool
filtering (Bind.Sampler Samp.Filtering) = true
filtering (Bind.Sampler Samp.NonFiltering) = false
filtering (Bind.Sampler Samp.Comparison) = false
filtering (Bind.Buffer ty dynamic least) = false
filtering (Bind.Texture sample view multi) = false
filtering (Bind.StorageTexture access format view) = false
filtering Bind.ExternalTexture = false
filtering (Bind.AccelerationStructure returns) = false

-- a filtering sampler wants a filterable texture: 32 where it is another float, 33 where it is an integer
abbrev pub sample_number : TextureSampleType → ℕ
sample_number (Sample.Float filterable) = pick (yes filterable) 0 Number.filtering_float
sample_number Sample.Depth = 0
sample_number Sample.Sint = Number.filtering_integer
sample_number Sample.Uint = Number.filtering_integer

-- 34 where the texture's slot is no texture; an external texture is filterable
unfoldable pub pair_number : BindingType → BindingType → ℕ
pair_number (Bind.Texture sample view multi) sampler = pick (filtering sampler) (sample_number sample) 0
pair_number Bind.ExternalTexture sampler = 0
pair_number (Bind.Buffer ty dynamic least) sampler = Number.pair_no_texture
pair_number (Bind.Sampler ty) sampler = Number.pair_no_texture
pair_number (Bind.StorageTexture access format view) sampler = Number.pair_no_texture
pair_number (Bind.AccelerationStructure returns) sampler = Number.pair_no_texture

-- the type of the entry at a place; where there is none, one that is no texture and no sampler
abbrev pub type_found : Layout → Option ℕ → BindingType
type_found L (Some i) = (entry_nth L.entries i).ty
type_found L None = Bind.AccelerationStructure false

abbrev pub type_at : Layout → ResourceBinding → BindingType
type_at L bind = type_found L (find_entry bind L)

-- '32–34 texture place, sampler place': these details are the format's, the words of the two places
abbrev pub pair_answer : ℕ → ResourceBinding → ResourceBinding → Answer
pair_answer number texture sampler = pick (eqb number 0) accepted (answer number (place_word texture) (place_word sampler) 0)

unfoldable pub pair_use : Layout → List Resource → SamplingPair → Answer
pair_use L resources p =
    pair_answer
    (pair_number (type_at L (resource_nth resources p.texture).bind) (type_at L (resource_nth resources p.sampler).bind))
    (resource_nth resources p.texture).bind
    (resource_nth resources p.sampler).bind

unfoldable pub pair_uses : Layout → List Resource → List SamplingPair → Answer
pair_uses L resources [] = accepted
pair_uses L resources (p ∷ ps) = let rest = pair_uses L resources ps in both (pair_use L resources p) rest
