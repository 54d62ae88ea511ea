-- Binding types that are the same are equal, and words that can hold them tell them apart by code and least size.
use Rattle.std.proofs.Common.{◌≡◌, ℕ, Bool, true, false, ◌&&◌, eqb, refl, eq-eqb, eqb-true}
use mathlib.Core.Bool.{false≢true}
use Rattle.word.specs.Choice.{yes}
use Rattle.bindings.specs.Rules.{access_of, same_bool, view_code, same_view, same_buffer, same_sampler, same_sample, same_access, same_as_buffer, same_as_sampler, same_as_texture, same_as_storage_texture, same_as_external, same_as_acceleration, same_binding}
use Rattle.bindings.specs.Format.{binding_code, least_size_of, format_encodable}
use Rattle.bindings.specs.declared.types.BufferBindingType.{BufferBindingType}
use Rattle.bindings.specs.declared.types.BufferBindingType.TheVariants as Buf
use Rattle.bindings.specs.declared.types.SamplerBindingType.{SamplerBindingType}
use Rattle.bindings.specs.declared.types.SamplerBindingType.TheVariants as Samp
use Rattle.bindings.specs.declared.types.TextureSampleType.{TextureSampleType}
use Rattle.bindings.specs.declared.types.TextureSampleType.TheVariants as Sample
use Rattle.bindings.specs.declared.types.TextureViewDimension.{TextureViewDimension}
use Rattle.bindings.specs.declared.types.StorageTextureAccess.{StorageTextureAccess}
use Rattle.bindings.specs.declared.types.StorageTextureAccess.TheVariants as Acc
use Rattle.bindings.specs.declared.types.BindingType.{BindingType}
use Rattle.bindings.specs.declared.types.BindingType.TheVariants as Bind
use Rattle.word.proofs.Truth.{first, second, by_test}
use Rattle.bindings.proofs.EntryFormat.{view_read, type_read}
use Rattle.bindings.proofs.DerivedTypes.{same_bool_lem}

-- ---- parts that pass their tests are equal

bool_eq : (a b : Bool) → same_bool a b ≡ true → a ≡ b
unfolding yes
bool_eq true true h = refl
bool_eq true false h = absurd (false≢true h)
bool_eq false true h = absurd (false≢true h)
bool_eq false false h = refl

view_eq : (a b : TextureViewDimension) → same_view a b ≡ true → a ≡ b
view_eq a b h = let c : view_code a ≡ view_code b = eqb-true (view_code a) (view_code b) h in cc (view_read a, view_read b)

buffer_eq : (a b : BufferBindingType) → same_buffer a b ≡ true → a ≡ b
buffer_eq Buf.Uniform Buf.Uniform h = refl
buffer_eq Buf.Uniform (Buf.Storage b) h = absurd (false≢true h)
buffer_eq (Buf.Storage a) Buf.Uniform h = absurd (false≢true h)
buffer_eq (Buf.Storage a) (Buf.Storage b) h = rw (bool_eq a b h)

sampler_eq : (a b : SamplerBindingType) → same_sampler a b ≡ true → a ≡ b
sampler_eq Samp.Filtering Samp.Filtering h = refl
sampler_eq Samp.Filtering Samp.NonFiltering h = absurd (false≢true h)
sampler_eq Samp.Filtering Samp.Comparison h = absurd (false≢true h)
sampler_eq Samp.NonFiltering Samp.Filtering h = absurd (false≢true h)
sampler_eq Samp.NonFiltering Samp.NonFiltering h = refl
sampler_eq Samp.NonFiltering Samp.Comparison h = absurd (false≢true h)
sampler_eq Samp.Comparison Samp.Filtering h = absurd (false≢true h)
sampler_eq Samp.Comparison Samp.NonFiltering h = absurd (false≢true h)
sampler_eq Samp.Comparison Samp.Comparison h = refl

sample_eq : (a b : TextureSampleType) → same_sample a b ≡ true → a ≡ b
sample_eq (Sample.Float a) (Sample.Float b) h = rw (bool_eq a b h)
sample_eq (Sample.Float a) Sample.Depth h = absurd (false≢true h)
sample_eq (Sample.Float a) Sample.Sint h = absurd (false≢true h)
sample_eq (Sample.Float a) Sample.Uint h = absurd (false≢true h)
sample_eq Sample.Depth (Sample.Float b) h = absurd (false≢true h)
sample_eq Sample.Depth Sample.Depth h = refl
sample_eq Sample.Depth Sample.Sint h = absurd (false≢true h)
sample_eq Sample.Depth Sample.Uint h = absurd (false≢true h)
sample_eq Sample.Sint (Sample.Float b) h = absurd (false≢true h)
sample_eq Sample.Sint Sample.Depth h = absurd (false≢true h)
sample_eq Sample.Sint Sample.Sint h = refl
sample_eq Sample.Sint Sample.Uint h = absurd (false≢true h)
sample_eq Sample.Uint (Sample.Float b) h = absurd (false≢true h)
sample_eq Sample.Uint Sample.Depth h = absurd (false≢true h)
sample_eq Sample.Uint Sample.Sint h = absurd (false≢true h)
sample_eq Sample.Uint Sample.Uint h = refl

access_eq : (a b : StorageTextureAccess) → same_access a b ≡ true → a ≡ b
access_eq Acc.ReadOnly Acc.ReadOnly h = refl
access_eq Acc.ReadOnly Acc.WriteOnly h = absurd (false≢true h)
access_eq Acc.ReadOnly Acc.ReadWrite h = absurd (false≢true h)
access_eq Acc.ReadOnly Acc.Atomic h = absurd (false≢true h)
access_eq Acc.WriteOnly Acc.ReadOnly h = absurd (false≢true h)
access_eq Acc.WriteOnly Acc.WriteOnly h = refl
access_eq Acc.WriteOnly Acc.ReadWrite h = absurd (false≢true h)
access_eq Acc.WriteOnly Acc.Atomic h = absurd (false≢true h)
access_eq Acc.ReadWrite Acc.ReadOnly h = absurd (false≢true h)
access_eq Acc.ReadWrite Acc.WriteOnly h = absurd (false≢true h)
access_eq Acc.ReadWrite Acc.ReadWrite h = refl
access_eq Acc.ReadWrite Acc.Atomic h = absurd (false≢true h)
access_eq Acc.Atomic Acc.ReadOnly h = absurd (false≢true h)
access_eq Acc.Atomic Acc.WriteOnly h = absurd (false≢true h)
access_eq Acc.Atomic Acc.ReadWrite h = absurd (false≢true h)
access_eq Acc.Atomic Acc.Atomic h = refl

-- ---- types that are the same are equal

as_buffer : (ty : BufferBindingType) (dynamic : Bool) (least : ℕ) (b : BindingType) → same_as_buffer ty dynamic least b ≡ true → Bind.Buffer ty dynamic least ≡ b
as_buffer ty dynamic least (Bind.Buffer t d l) h =
    let p = buffer_eq ty t (first (same_buffer ty t) (same_bool dynamic d && eqb least l) h) in
    let q = second (same_buffer ty t) (same_bool dynamic d && eqb least l) h in
    rw (p, bool_eq dynamic d (first (same_bool dynamic d) (eqb least l) q), eqb-true least l (second (same_bool dynamic d) (eqb least l) q))
as_buffer ty dynamic least (Bind.Sampler t) h = absurd (false≢true h)
as_buffer ty dynamic least (Bind.Texture s v m) h = absurd (false≢true h)
as_buffer ty dynamic least (Bind.StorageTexture a f v) h = absurd (false≢true h)
as_buffer ty dynamic least Bind.ExternalTexture h = absurd (false≢true h)
as_buffer ty dynamic least (Bind.AccelerationStructure r) h = absurd (false≢true h)

as_sampler : (ty : SamplerBindingType) (b : BindingType) → same_as_sampler ty b ≡ true → Bind.Sampler ty ≡ b
as_sampler ty (Bind.Buffer t d l) h = absurd (false≢true h)
as_sampler ty (Bind.Sampler t) h =
    rw (sampler_eq ty t h)
as_sampler ty (Bind.Texture s v m) h = absurd (false≢true h)
as_sampler ty (Bind.StorageTexture a f v) h = absurd (false≢true h)
as_sampler ty Bind.ExternalTexture h = absurd (false≢true h)
as_sampler ty (Bind.AccelerationStructure r) h = absurd (false≢true h)

as_texture : (sample : TextureSampleType) (view : TextureViewDimension) (multi : Bool) (b : BindingType) → same_as_texture sample view multi b ≡ true → Bind.Texture sample view multi ≡ b
as_texture sample view multi (Bind.Buffer t d l) h = absurd (false≢true h)
as_texture sample view multi (Bind.Sampler t) h = absurd (false≢true h)
as_texture sample view multi (Bind.Texture s v m) h =
    let p = sample_eq sample s (first (same_sample sample s) (same_view view v && same_bool multi m) h) in
    let q = second (same_sample sample s) (same_view view v && same_bool multi m) h in
    rw (p, view_eq view v (first (same_view view v) (same_bool multi m) q), bool_eq multi m (second (same_view view v) (same_bool multi m) q))
as_texture sample view multi (Bind.StorageTexture a f v) h = absurd (false≢true h)
as_texture sample view multi Bind.ExternalTexture h = absurd (false≢true h)
as_texture sample view multi (Bind.AccelerationStructure r) h = absurd (false≢true h)

as_storage : (access : StorageTextureAccess) (format : ℕ) (view : TextureViewDimension) (b : BindingType) → same_as_storage_texture access format view b ≡ true → Bind.StorageTexture access format view ≡ b
as_storage access format view (Bind.Buffer t d l) h = absurd (false≢true h)
as_storage access format view (Bind.Sampler t) h = absurd (false≢true h)
as_storage access format view (Bind.Texture s v m) h = absurd (false≢true h)
as_storage access format view (Bind.StorageTexture a f v) h =
    let p = access_eq access a (first (same_access access a) (eqb format f && same_view view v) h) in
    let q = second (same_access access a) (eqb format f && same_view view v) h in
    rw (p, eqb-true format f (first (eqb format f) (same_view view v) q), view_eq view v (second (eqb format f) (same_view view v) q))
as_storage access format view Bind.ExternalTexture h = absurd (false≢true h)
as_storage access format view (Bind.AccelerationStructure r) h = absurd (false≢true h)

as_external : (b : BindingType) → same_as_external b ≡ true → Bind.ExternalTexture ≡ b
as_external (Bind.Buffer t d l) h = absurd (false≢true h)
as_external (Bind.Sampler t) h = absurd (false≢true h)
as_external (Bind.Texture s v m) h = absurd (false≢true h)
as_external (Bind.StorageTexture a f v) h = absurd (false≢true h)
as_external Bind.ExternalTexture h =
    refl
as_external (Bind.AccelerationStructure r) h = absurd (false≢true h)

as_acceleration : (returns : Bool) (b : BindingType) → same_as_acceleration returns b ≡ true → Bind.AccelerationStructure returns ≡ b
as_acceleration returns (Bind.Buffer t d l) h = absurd (false≢true h)
as_acceleration returns (Bind.Sampler t) h = absurd (false≢true h)
as_acceleration returns (Bind.Texture s v m) h = absurd (false≢true h)
as_acceleration returns (Bind.StorageTexture a f v) h = absurd (false≢true h)
as_acceleration returns Bind.ExternalTexture h = absurd (false≢true h)
as_acceleration returns (Bind.AccelerationStructure r) h =
    rw (bool_eq returns r h)

pub same_binding_eq : (a b : BindingType) → same_binding a b ≡ true → a ≡ b
unfolding same_binding
same_binding_eq (Bind.Buffer ty dynamic least) b h = as_buffer ty dynamic least b h
same_binding_eq (Bind.Sampler ty) b h = as_sampler ty b h
same_binding_eq (Bind.Texture sample view multi) b h = as_texture sample view multi b h
same_binding_eq (Bind.StorageTexture access format view) b h = as_storage access format view b h
same_binding_eq Bind.ExternalTexture b h = as_external b h
same_binding_eq (Bind.AccelerationStructure returns) b h = as_acceleration returns b h

-- ---- a type is the same as itself

buffer_same : (a : BufferBindingType) → same_buffer a a ≡ true
buffer_same Buf.Uniform = refl
buffer_same (Buf.Storage a) = same_bool_lem a

sampler_same : (a : SamplerBindingType) → same_sampler a a ≡ true
sampler_same Samp.Filtering = refl
sampler_same Samp.NonFiltering = refl
sampler_same Samp.Comparison = refl

sample_same : (a : TextureSampleType) → same_sample a a ≡ true
sample_same (Sample.Float a) = same_bool_lem a
sample_same Sample.Depth = refl
sample_same Sample.Sint = refl
sample_same Sample.Uint = refl

pub same_binding_refl : (a : BindingType) → same_binding a a ≡ true
unfolding same_binding
same_binding_refl (Bind.Buffer ty dynamic least) = rw (buffer_same ty, same_bool_lem dynamic, eq-eqb least least refl)
same_binding_refl (Bind.Sampler ty) = sampler_same ty
same_binding_refl (Bind.Texture sample view multi) = rw (sample_same sample, eq-eqb (view_code view) (view_code view) refl, same_bool_lem multi)
same_binding_refl (Bind.StorageTexture access format view) =
    rw (eq-eqb (access_of access) (access_of access) refl, eq-eqb format format refl, eq-eqb (view_code view) (view_code view) refl)
same_binding_refl Bind.ExternalTexture = refl
same_binding_refl (Bind.AccelerationStructure returns) = same_bool_lem returns

-- ---- words tell them apart: types that a layout list can hold are the same where codes and least sizes are

pub same_by_codes : (a b : BindingType) → format_encodable a ≡ true → format_encodable b ≡ true → binding_code a ≡ binding_code b → least_size_of a ≡ least_size_of b
    → same_binding a b ≡ true
same_by_codes a b p q c l = let e : a ≡ b = cc (type_read a p, type_read b q) in rw (← e) (same_binding_refl a)

pub other_by_code : (a b : BindingType) → (binding_code a ≡ binding_code b → ⊥) → same_binding a b ≡ false
other_by_code a b n = by_test (same_binding a b) (λ t. absurd (n (rw (same_binding_eq a b t)))) (λ f. f)

pub other_by_least : (a b : BindingType) → (least_size_of a ≡ least_size_of b → ⊥) → same_binding a b ≡ false
other_by_least a b n = by_test (same_binding a b) (λ t. absurd (n (rw (same_binding_eq a b t)))) (λ f. f)
