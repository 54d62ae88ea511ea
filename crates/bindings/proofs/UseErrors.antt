-- What an entry refuses a resource for: never that none can be derived for its address space. A derivation is refused for that alone.
use Rattle.std.proofs.Common.{◌≡◌, Bool, true, false, refl, Result, Ok, Err, eqb, ltb}
use Rattle.word.specs.Choice.{pick}
use Rattle.bindings.specs.Rules.{same_bool, storable, space_of, same_space, buffer_use, comparing, sampler_use, class_of, view_fits, sampled_fits, storage_fits, access_of, is_external, class_use, texture_use, acceleration_use, check_binding_use, derive_binding_type}
use Rattle.bindings.specs.declared.types.AddressSpace.TheVariants as Space
use Rattle.bindings.specs.declared.types.ResourceType.{ResourceType}
use Rattle.bindings.specs.declared.types.ResourceType.TheVariants as Res
use Rattle.bindings.specs.declared.types.TextureViewDimension.TheVariants as View
use Rattle.bindings.specs.declared.types.BindingType.{BindingType}
use Rattle.bindings.specs.declared.types.BindingType.TheVariants as Bind
use Rattle.bindings.specs.declared.types.BindingError.{BindingError}
use Rattle.bindings.specs.declared.types.BindingError.TheVariants as Error

-- an error that an entry gives
abbrev pub gives : Result Unit BindingError → Bool
gives (Ok served) = true
gives (Err Error.WrongType) = true
gives (Err Error.WrongAddressSpace) = true
gives (Err Error.WrongBufferAddressSpace) = false
gives (Err Error.WrongBufferSize) = true
gives (Err Error.WrongTextureViewDimension) = true
gives (Err Error.WrongTextureClass) = true
gives (Err Error.WrongSamplerComparison) = true
gives (Err Error.BadStorageFormat) = true

either : (b : Bool) (x y : Result Unit BindingError) → gives x ≡ true → gives y ≡ true → gives (pick b x y) ≡ true
either true x y p q = p
either false x y p q = q

class_gives : (fits : Bool) → gives (class_use fits) ≡ true
class_gives true = refl
class_gives false = refl

pub use_gives : (r : ResourceType) (entry : BindingType) → gives (check_binding_use r entry) ≡ true
unfolding check_binding_use buffer_use sampler_use texture_use acceleration_use
use_gives (Res.Buffer size space) (Bind.Buffer ty dynamic least) =
    either (same_space space (space_of ty)) _ _ (either (eqb least 0) _ _ refl (either (ltb least size) _ _ refl refl)) refl
use_gives (Res.Buffer size space) (Bind.Sampler ty) = refl
use_gives (Res.Buffer size space) (Bind.Texture sample view multi) = refl
use_gives (Res.Buffer size space) (Bind.StorageTexture access format view) = refl
use_gives (Res.Buffer size space) Bind.ExternalTexture = refl
use_gives (Res.Buffer size space) (Bind.AccelerationStructure returns) = refl
use_gives (Res.Sampler comparison) (Bind.Buffer ty dynamic least) = refl
use_gives (Res.Sampler comparison) (Bind.Sampler ty) = either (same_bool comparison (comparing ty)) _ _ refl refl
use_gives (Res.Sampler comparison) (Bind.Texture sample view multi) = refl
use_gives (Res.Sampler comparison) (Bind.StorageTexture access format view) = refl
use_gives (Res.Sampler comparison) Bind.ExternalTexture = refl
use_gives (Res.Sampler comparison) (Bind.AccelerationStructure returns) = refl
use_gives (Res.Texture dim arrayed class) (Bind.Buffer ty dynamic least) = refl
use_gives (Res.Texture dim arrayed class) (Bind.Sampler ty) = refl
use_gives (Res.Texture dim arrayed class) (Bind.Texture sample view multi) =
    either (view_fits dim arrayed view) _ _ (class_gives (sampled_fits class (class_of sample multi))) refl
use_gives (Res.Texture dim arrayed class) (Bind.StorageTexture access format view) =
    either (view_fits dim arrayed view) _ _ (either (storable format) _ _ (class_gives (storage_fits class format (access_of access))) refl) refl
use_gives (Res.Texture dim arrayed class) Bind.ExternalTexture = either (view_fits dim arrayed View.D2) _ _ (class_gives (is_external class)) refl
use_gives (Res.Texture dim arrayed class) (Bind.AccelerationStructure returns) = refl
use_gives (Res.AccelerationStructure returns) (Bind.Buffer ty dynamic least) = refl
use_gives (Res.AccelerationStructure returns) (Bind.Sampler ty) = refl
use_gives (Res.AccelerationStructure returns) (Bind.Texture sample view multi) = refl
use_gives (Res.AccelerationStructure returns) (Bind.StorageTexture access format view) = refl
use_gives (Res.AccelerationStructure returns) Bind.ExternalTexture = refl
use_gives (Res.AccelerationStructure returns) (Bind.AccelerationStructure r) = either (same_bool returns r) _ _ refl refl

-- an error that a derivation gives
abbrev pub derives : Result BindingType BindingError → Bool
derives (Ok ty) = true
derives (Err Error.WrongType) = false
derives (Err Error.WrongAddressSpace) = false
derives (Err Error.WrongBufferAddressSpace) = true
derives (Err Error.WrongBufferSize) = false
derives (Err Error.WrongTextureViewDimension) = false
derives (Err Error.WrongTextureClass) = false
derives (Err Error.WrongSamplerComparison) = false
derives (Err Error.BadStorageFormat) = false

pub derivation_gives : (r : ResourceType) (named : Bool) → derives (derive_binding_type r named) ≡ true
unfolding derive_binding_type
derivation_gives (Res.Buffer size Space.Uniform) named = refl
derivation_gives (Res.Buffer size (Space.Storage access)) named = refl
derivation_gives (Res.Buffer size Space.Other) named = refl
derivation_gives (Res.Sampler comparison) named = refl
derivation_gives (Res.Texture dim arrayed class) named = refl
derivation_gives (Res.AccelerationStructure returns) named = refl
