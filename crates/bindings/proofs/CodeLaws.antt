-- The code's ways to the numbers of binding types, and their ranges.
use Rattle.std.proofs.Common.{◌≡◌, ℕ, ◌^◌, ◌<◌, ◌≤◌, Bool, true, false, refl, arith, ltb-true, ◌+◌, ◌*◌}
use mir.Val.{bool_byte}
use Rattle.word.specs.Choice.{pick, yes}
use Rattle.bindings.specs.Rules.{view_code}
use Rattle.bindings.specs.Format.{flag, buffer_code, sampler_code, sample_code, access_code, binding_code, least_size_of, format_encodable, size_limit}
use Rattle.bindings.specs.declared.types.BufferBindingType.{BufferBindingType}
use Rattle.bindings.specs.declared.types.BufferBindingType.TheVariants as Buf
use Rattle.bindings.specs.declared.types.SamplerBindingType.{SamplerBindingType}
use Rattle.bindings.specs.declared.types.SamplerBindingType.TheVariants as Samp
use Rattle.bindings.specs.declared.types.TextureSampleType.{TextureSampleType}
use Rattle.bindings.specs.declared.types.TextureSampleType.TheVariants as Sample
use Rattle.bindings.specs.declared.types.TextureViewDimension.{TextureViewDimension}
use Rattle.bindings.specs.declared.types.TextureViewDimension.TheVariants as View
use Rattle.bindings.specs.declared.types.StorageTextureAccess.{StorageTextureAccess}
use Rattle.bindings.specs.declared.types.StorageTextureAccess.TheVariants as Acc
use Rattle.bindings.specs.declared.types.BindingType.{BindingType}
use Rattle.bindings.specs.declared.types.BindingType.TheVariants as Bind

-- ---- the code's ways

-- what `u64::from` makes of a truth value
pub flag_byte : (b : Bool) → bool_byte b ≡ flag b
unfolding yes
flag_byte true = refl
flag_byte false = refl

-- whether a float is filterable
pub float_code : (sample : TextureSampleType) (b : Bool) (x : ℕ) → sample ≡ Sample.Float b → x ≡ pick (yes b) 0 1 → x ≡ sample_code sample
float_code sample b x e h = rw e h

-- a storage buffer's number, by its flag
pub buffer_code_lem : (x : ℕ) (ty : BufferBindingType) (ro : Bool) → ty ≡ Buf.Storage ro → x ≡ flag ro → 1 + 2 * x ≡ buffer_code ty
buffer_code_lem x ty ro e h = rw (e, h)

-- ---- ranges

pub flag_most : (b : Bool) → flag b ≤ 1
unfolding yes
flag_most true = omega arith
flag_most false = omega arith

pub buffer_most : (ty : BufferBindingType) → buffer_code ty ≤ 3
buffer_most Buf.Uniform = omega arith
buffer_most (Buf.Storage ro) = omega (arith, flag_most ro)

pub sampler_most : (ty : SamplerBindingType) → sampler_code ty ≤ 2
sampler_most Samp.Filtering = omega arith
sampler_most Samp.NonFiltering = omega arith
sampler_most Samp.Comparison = omega arith

pub sample_most : (sample : TextureSampleType) → sample_code sample ≤ 4
unfolding yes
sample_most (Sample.Float true) = omega arith
sample_most (Sample.Float false) = omega arith
sample_most Sample.Depth = omega arith
sample_most Sample.Sint = omega arith
sample_most Sample.Uint = omega arith

pub view_most : (view : TextureViewDimension) → view_code view ≤ 5
view_most View.D1 = omega arith
view_most View.D2 = omega arith
view_most View.D2Array = omega arith
view_most View.Cube = omega arith
view_most View.CubeArray = omega arith
view_most View.D3 = omega arith

pub access_most : (access : StorageTextureAccess) → access_code access ≤ 3
access_most Acc.ReadOnly = omega arith
access_most Acc.WriteOnly = omega arith
access_most Acc.ReadWrite = omega arith
access_most Acc.Atomic = omega arith

pub code_fits : (ty : BindingType) → format_encodable ty ≡ true → binding_code ty < 2 ^ 27
unfolding binding_code
code_fits (Bind.Buffer b dynamic least) h = omega (arith, buffer_most b, flag_most dynamic)
code_fits (Bind.Sampler s) h = omega (arith, sampler_most s)
code_fits (Bind.Texture sample view multi) h = omega (arith, sample_most sample, view_most view, flag_most multi)
code_fits (Bind.StorageTexture access format view) h = omega (arith, access_most access, ltb-true format 77 h, view_most view)
code_fits Bind.ExternalTexture h = omega arith
code_fits (Bind.AccelerationStructure returns) h = omega (arith, flag_most returns)

pub least_fits : (ty : BindingType) → format_encodable ty ≡ true → least_size_of ty < size_limit
least_fits (Bind.Buffer b dynamic least) h = ltb-true least size_limit h
least_fits (Bind.Sampler s) h = omega arith
least_fits (Bind.Texture sample view multi) h = omega arith
least_fits (Bind.StorageTexture access format view) h = omega arith
least_fits Bind.ExternalTexture h = omega arith
least_fits (Bind.AccelerationStructure returns) h = omega arith
