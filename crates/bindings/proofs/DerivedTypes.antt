-- The binding type that a resource derives: words can hold it, and where there is none it is for the address space.
use Rattle.std.proofs.Common.{◌≡◌, ℕ, ◌<◌, Bool, true, false, not, ◌&&◌, eqb, ltb, refl, arith, ltb-true, lt-ltb, Result, Ok, Err, zero, suc}
use Rattle.word.specs.Choice.{yes}
use Rattle.bindings.specs.Rules.{storable, same_bool}
use Rattle.bindings.specs.Rules.{error_number, derived_texture, derive_binding_type}
use Rattle.bindings.specs.Format.{type_encodable, format_encodable, size_limit}
use Rattle.bindings.specs.declared.types.AddressSpace.TheVariants as Space
use Rattle.bindings.specs.declared.types.ImageClass.TheVariants as Class
use Rattle.bindings.specs.declared.types.ResourceType.{ResourceType}
use Rattle.bindings.specs.declared.types.ResourceType.TheVariants as Res
use Rattle.bindings.specs.declared.types.BindingType.{BindingType}
use Rattle.bindings.specs.declared.types.BindingError.{BindingError}
use Rattle.bindings.specs.declared.types.BindingError.TheVariants as Error
use Rattle.word.proofs.Truth.{first, second}

-- ---- ranges

storable_encodable : (format : ℕ) → storable format ≡ true → ltb format 77 ≡ true
storable_encodable format h = let l : format < 43 = search (ltb-true, first) in lt-ltb format 77 (omega arith)

abbrev encodable_type : Result BindingType BindingError → Bool
encodable_type (Ok ty) = format_encodable ty
encodable_type (Err e) = true

encodable_type_lem : (r : ResourceType) (named : Bool) → type_encodable r ≡ true → encodable_type (derive_binding_type r named) ≡ true
unfolding type_encodable derive_binding_type derived_texture
encodable_type_lem (Res.Buffer size Space.Uniform) named h = first (ltb size size_limit) (not (eqb size 0)) h
encodable_type_lem (Res.Buffer size (Space.Storage access)) named h =
    first (ltb size size_limit) (not (eqb size 0)) (second (ltb access 8) (ltb size size_limit && not (eqb size 0)) h)
encodable_type_lem (Res.Buffer size Space.Other) named h = refl
encodable_type_lem (Res.Sampler comparison) named h = refl
encodable_type_lem (Res.Texture dim arrayed (Class.Sampled kind multi)) named h = refl
encodable_type_lem (Res.Texture dim arrayed (Class.Depth multi)) named h = refl
encodable_type_lem (Res.Texture dim arrayed (Class.Storage format access)) named h =
    storable_encodable format (first (storable format) (ltb access 8 && not (eqb access 0)) h)
encodable_type_lem (Res.Texture dim arrayed Class.External) named h = refl
encodable_type_lem (Res.AccelerationStructure returns) named h = refl

-- a derived type of an encodable resource type can be encoded
pub derived_encodable : (r : ResourceType) (named : Bool) (ty : BindingType) → type_encodable r ≡ true → derive_binding_type r named ≡ Ok ty → format_encodable ty ≡ true
derived_encodable r named ty h d = rw d at (encodable_type_lem r named h)

-- a truth value is the same as itself
pub same_bool_lem : (b : Bool) → same_bool b b ≡ true
unfolding yes
same_bool_lem true = refl
same_bool_lem false = refl

-- ---- refusals

-- no refusal has the number of acceptance
pub error_some : (e : BindingError) → error_number e ≡ 0 → ⊥
error_some Error.WrongType z = omega arith
error_some Error.WrongAddressSpace z = omega arith
error_some Error.WrongBufferAddressSpace z = omega arith
error_some Error.WrongBufferSize z = omega arith
error_some Error.WrongTextureViewDimension z = omega arith
error_some Error.WrongTextureClass z = omega arith
error_some Error.WrongSamplerComparison z = omega arith
error_some Error.BadStorageFormat z = omega arith

-- what deriving can be refused for
abbrev space_refused : Result BindingType BindingError → Type 0
space_refused (Ok ty) = Unit {0}
space_refused (Err e) = e ≡ Error.WrongBufferAddressSpace

space_refused_lem : (r : ResourceType) (named : Bool) → space_refused (derive_binding_type r named)
unfolding derive_binding_type
space_refused_lem (Res.Buffer size Space.Uniform) named = tt
space_refused_lem (Res.Buffer size (Space.Storage access)) named = tt
space_refused_lem (Res.Buffer size Space.Other) named = refl
space_refused_lem (Res.Sampler comparison) named = tt
space_refused_lem (Res.Texture dim arrayed class) named = tt
space_refused_lem (Res.AccelerationStructure returns) named = tt

-- deriving is refused for the address space alone
pub derived_refused : (r : ResourceType) (named : Bool) (e : BindingError) → derive_binding_type r named ≡ Err e → e ≡ Error.WrongBufferAddressSpace
derived_refused r named e d = rw d at (space_refused_lem r named)

-- ---- flags by their bits

pub bits_same : (x y : ℕ) → x < 2 → y < 2 → same_bool (eqb x 1) (eqb y 1) ≡ eqb x y
unfolding yes
bits_same zero zero h k = refl
bits_same zero (suc zero) h k = refl
bits_same (suc zero) zero h k = refl
bits_same (suc zero) (suc zero) h k = refl
bits_same (suc (suc x)) y h k = absurd (omega arith)
bits_same zero (suc (suc y)) h k = absurd (omega arith)
bits_same (suc zero) (suc (suc y)) h k = absurd (omega arith)
