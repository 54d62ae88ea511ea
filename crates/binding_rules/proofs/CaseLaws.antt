-- The rules at one case of a resource, or of an entry.
use Rattle.std.proofs.Common.{◌≡◌, ℕ, Bool, Result, Ok}
use Rattle.std.specs.Prelude.{⊤}
use Rattle.bindings.specs.Rules.{derived_view, derived_texture, derived_buffer, derive_binding_type, class_of, sampled_fits, class_use}
use Rattle.bindings.specs.declared.types.AddressSpace.{AddressSpace}
use Rattle.bindings.specs.declared.types.ImageDimension.{ImageDimension}
use Rattle.bindings.specs.declared.types.ImageClass.{ImageClass}
use Rattle.bindings.specs.declared.types.ResourceType.{ResourceType}
use Rattle.bindings.specs.declared.types.ResourceType.TheVariants as Res
use Rattle.bindings.specs.declared.types.TextureSampleType.{TextureSampleType}
use Rattle.bindings.specs.declared.types.TextureViewDimension.{TextureViewDimension}
use Rattle.bindings.specs.declared.types.BindingType.{BindingType}
use Rattle.bindings.specs.declared.types.BindingError.{BindingError}

pub class_use_lem : (x : Result ⊤ BindingError) (class other : ImageClass) (sample : TextureSampleType) (multi fits : Bool) → other ≡ class_of sample multi
    → fits ≡ sampled_fits class other → x ≡ class_use fits → x ≡ class_use (sampled_fits class (class_of sample multi))
class_use_lem x class other sample multi fits p q h = rw (← p, ← q) h

module _ (r : ResourceType) (named : Bool) where
  pub derived_buffer_lem : (x : Result BindingType BindingError) (size : ℕ) (space : AddressSpace) → r ≡ Res.Buffer size space → x ≡ derived_buffer size space
      → x ≡ derive_binding_type r named
  unfolding derive_binding_type
  derived_buffer_lem x size space e h = rw e h

  pub derived_texture_lem : (dim : ImageDimension) (arrayed : Bool) (class : ImageClass) (view : TextureViewDimension) (ty : BindingType)
      → r ≡ Res.Texture dim arrayed class → view ≡ derived_view dim arrayed → ty ≡ derived_texture class view named
      → Ok ty ≡ derive_binding_type r named
  unfolding derive_binding_type
  derived_texture_lem dim arrayed class view ty e p q = rw (e, q, p)
