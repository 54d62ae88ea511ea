-- What resources leave in the lists that a call lends, said apart from the steps that write it
-- (document 01, demand 1: a refusal 'keeps exactly the layout and size records made by the steps before it').
use Rattle.std.specs.Prelude.{ℕ, Bool, List, [], ◌∷◌, Option, Some, None, Result, Ok, Err}
use Rattle.bindings.specs.Rules.{derive_binding_type}
use Rattle.bindings.specs.declared.types.ResourceBinding.{ResourceBinding}
use Rattle.bindings.specs.declared.types.Resource.{Resource}
use Rattle.bindings.specs.declared.types.ResourceType.{ResourceType}
use Rattle.bindings.specs.declared.types.ResourceType.TheVariants as Res
use Rattle.bindings.specs.declared.types.BindingType.{BindingType}
use Rattle.bindings.specs.declared.types.BindingError.{BindingError}
use Rattle.layouts.specs.Meaning.{Layout, find_entry, pushed, joined}
use Rattle.sizes.specs.Meaning.{Sizes, recorded}
use Rattle.interface.specs.Format.{stage_code}
use Rattle.interface.specs.declared.types.ShaderStage.{ShaderStage}
use Rattle.interface.specs.declared.types.SamplingPair.{SamplingPair}
use Rattle.resource_steps.specs.Resources.{resource_nth, new_entry, named_texture}

-- ---- the layout, where it is derived

-- an entry at the place gains the stage's bit; where there is none, a new one goes last
abbrev pub entered_at : ShaderStage → ResourceBinding → BindingType → Option ℕ → Layout → Layout
entered_at stage bind ty (Some i) L = joined (stage_code stage) L i
entered_at stage bind ty None L = pushed L (new_entry stage bind ty)

-- a resource that derives no type enters nothing
abbrev pub entered_as : ShaderStage → ResourceBinding → Result BindingType BindingError → Layout → Layout
entered_as stage bind (Ok ty) L = entered_at stage bind ty (find_entry bind L) L
entered_as stage bind (Err e) L = L

-- one resource, named as a texture by a pair or not
abbrev pub entered : ShaderStage → Bool → Resource → Layout → Layout
entered stage named r L = entered_as stage r.bind (derive_binding_type r.ty named) L

-- resources one after the other, by their indexes
unfoldable pub entered_all : ShaderStage → List Resource → List SamplingPair → List ℕ → Layout → Layout
entered_all stage resources pairs [] L = L
entered_all stage resources pairs (i ∷ is) L =
    let first = entered stage (named_texture i pairs) (resource_nth resources i) L in entered_all stage resources pairs is first

-- ---- the sizes, where the layout is provided

-- a buffer's size at its place, which leaves a list without room as it is; other resources record nothing
abbrev pub size_entered : ResourceBinding → ResourceType → Sizes → Sizes
size_entered bind (Res.Buffer size space) S = recorded bind size S
size_entered bind (Res.Sampler comparison) S = S
size_entered bind (Res.Texture dim arrayed class) S = S
size_entered bind (Res.AccelerationStructure returns) S = S

-- resources one after the other, by their indexes
unfoldable pub sizes_entered : List Resource → List ℕ → Sizes → Sizes
sizes_entered resources [] S = S
sizes_entered resources (i ∷ is) S =
    let first = size_entered (resource_nth resources i).bind (resource_nth resources i).ty S in sizes_entered resources is first
