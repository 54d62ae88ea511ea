-- Under demand 3's conditions the binding type that a resource derives serves it.
use Rattle.std.proofs.Common.{Result, Ok, Err}
use Prim.Native.Nat.{ℕ, ◌<◌}
use native.Mathlib.Omega.{arith}
use mathlib.Core.Path.{◌≡◌, refl}
use mathlib.Core.Bool.{Bool, true, false, not, ◌&&◌, ◌||◌}
use mathlib.Core.List.{List, [], ◌∷◌}
use lib.Dec.{eqb, ltb}
use borrow.Author.Tests.{ltb-true, le-ltb, eqb-false, eq-eqb, not-true}
use Rattle.word.specs.Choice.{pick, yes}
use Rattle.bindings.specs.Rules.{storable, space_of, same_space, size_use, buffer_use, sampler_use, view_fits, class_of, sampled_fits, storage_fits, access_of}
use Rattle.bindings.specs.Rules.{texture_use, acceleration_use, check_binding_use, use_number, derived_view, derived_sample, derived_access, derived_texture, derive_binding_type}
use Rattle.derived_layouts.specs.Reusable.{array_reusable, plain_2d, resource_reusable}
use Rattle.bindings.proofs.DerivedTypes.{same_bool_lem}
use Rattle.bindings.specs.Format.{type_encodable}
use Rattle.bindings.specs.declared.types.AddressSpace.TheVariants as Space
use Rattle.bindings.specs.declared.types.ImageDimension.{ImageDimension}
use Rattle.bindings.specs.declared.types.ImageDimension.TheVariants as Dim
use Rattle.bindings.specs.declared.types.SampleKind.{SampleKind}
use Rattle.bindings.specs.declared.types.SampleKind.TheVariants as Kind
use Rattle.bindings.specs.declared.types.ImageClass.TheVariants as Class
use Rattle.bindings.specs.declared.types.ResourceType.{ResourceType}
use Rattle.bindings.specs.declared.types.ResourceType.TheVariants as Res
use Rattle.bindings.specs.declared.types.BufferBindingType.TheVariants as Buf
use Rattle.bindings.specs.declared.types.SamplerBindingType.TheVariants as Samp
use Rattle.bindings.specs.declared.types.TextureViewDimension.TheVariants as View
use Rattle.bindings.specs.declared.types.BindingType.{BindingType}
use Rattle.bindings.specs.declared.types.BindingType.TheVariants as Bind
use Rattle.bindings.specs.declared.types.BindingError.{BindingError}
use Rattle.word.proofs.Truth.{first, second, by_test, never}

size_serves : (size : ℕ) → size_use size size ≡ Ok tt
size_serves size = by_test (eqb size 0) (λ t. rw t) (λ n. rw (n, le-ltb size size (omega arith)))

space_serves : (access : ℕ) → eqb access 1 || eqb access 3 ≡ true → same_space (Space.Storage access) (space_of (Buf.Storage (eqb access 1))) ≡ true
unfolding same_space yes
space_serves access h = by_test (eqb access 1) (λ t. rw (t, t)) (λ n. rw n (rw n at h))

sampler_serves : (comparison : Bool) → sampler_use comparison (Bind.Sampler (pick (yes comparison) Samp.Comparison Samp.Filtering)) ≡ Ok tt
unfolding sampler_use yes
sampler_serves true = refl
sampler_serves false = refl

view_serves : (dim : ImageDimension) (arrayed : Bool) → array_reusable dim arrayed ≡ true → view_fits dim arrayed (derived_view dim arrayed) ≡ true
unfolding view_fits yes
view_serves Dim.D1 true h = h
view_serves Dim.D1 false h = refl
view_serves Dim.D2 true h = refl
view_serves Dim.D2 false h = refl
view_serves Dim.D3 true h = h
view_serves Dim.D3 false h = refl
view_serves Dim.Cube true h = refl
view_serves Dim.Cube false h = refl

flat_serves : (dim : ImageDimension) (arrayed : Bool) → plain_2d dim arrayed ≡ true → view_fits dim arrayed View.D2 ≡ true
unfolding view_fits yes
flat_serves Dim.D1 arrayed h = never false h refl
flat_serves Dim.D2 true h = never false h refl
flat_serves Dim.D2 false h = refl
flat_serves Dim.D3 arrayed h = never false h refl
flat_serves Dim.Cube arrayed h = never false h refl

sample_serves : (kind : SampleKind) (multi named : Bool) → sampled_fits (Class.Sampled kind multi) (class_of (derived_sample kind named) multi) ≡ true
unfolding sampled_fits
sample_serves Kind.Float multi named = same_bool_lem multi
sample_serves Kind.Sint multi named = same_bool_lem multi
sample_serves Kind.Uint multi named = same_bool_lem multi

depth_serves : (multi : Bool) → sampled_fits (Class.Depth multi) (Class.Depth multi) ≡ true
unfolding sampled_fits
depth_serves multi = same_bool_lem multi

-- an access that has atomic has load and store too
access_serves : (access : ℕ) → not (eqb access 0) ≡ true → ltb access 4 || eqb access 7 ≡ true → eqb access (access_of (derived_access access)) ≡ true
access_serves access h k =
    by_test (eqb access 1) (λ t. rw (t, t)) λ n1.
    by_test (eqb access 2) (λ t. rw (n1, t, t)) λ n2.
    by_test (eqb access 3) (λ t. rw (n1, n2, t, t)) λ n3.
    by_test (ltb access 4)
    (λ t. let l : access < 4 = ltb-true access 4 t in
    let z : access ≡ 0 → ⊥ = eqb-false access 0 (not-true (eqb access 0) h) in
    absurd (omega (arith, eqb-false access 1 n1, eqb-false access 2 n2, eqb-false access 3 n3)))
    (λ f. rw (n1, n2, n3) (rw f at k))

storage_serves : (format access : ℕ) → ltb access 8 && not (eqb access 0) ≡ true → ltb access 4 || eqb access 7 ≡ true
    → storage_fits (Class.Storage format access) format (access_of (derived_access access)) ≡ true
unfolding storage_fits
storage_serves format access h k = rw (eq-eqb format format refl, access_serves access (second (ltb access 8) (not (eqb access 0)) h) k)

abbrev used_type : ResourceType → Result BindingType BindingError → Result Unit BindingError
used_type r (Ok ty) = check_binding_use r ty
used_type r (Err e) = Ok tt

used_type_lem : (r : ResourceType) (named : Bool) → type_encodable r ≡ true → resource_reusable r ≡ true → used_type r (derive_binding_type r named) ≡ Ok tt
unfolding type_encodable resource_reusable derive_binding_type derived_texture check_binding_use buffer_use sampler_use texture_use acceleration_use same_space
used_type_lem (Res.Buffer size Space.Uniform) named h k = size_serves size
used_type_lem (Res.Buffer size (Space.Storage access)) named h k = rw (space_serves access k) (size_serves size)
used_type_lem (Res.Buffer size Space.Other) named h k = refl
used_type_lem (Res.Sampler comparison) named h k = sampler_serves comparison
used_type_lem (Res.Texture dim arrayed (Class.Sampled kind multi)) named h k =
    rw (view_serves dim arrayed (first (array_reusable dim arrayed) true k), sample_serves kind multi named)
used_type_lem (Res.Texture dim arrayed (Class.Depth multi)) named h k =
    rw (view_serves dim arrayed (first (array_reusable dim arrayed) true k), depth_serves multi)
used_type_lem (Res.Texture dim arrayed (Class.Storage format access)) named h k =
    let v : array_reusable dim arrayed ≡ true = search first in
    let a : ltb access 4 || eqb access 7 ≡ true = search second in
    let f : storable format ≡ true = first (storable format) (ltb access 8 && not (eqb access 0)) h in
    rw (view_serves dim arrayed v, f, storage_serves format access (second (storable format) (ltb access 8 && not (eqb access 0)) h) a)
used_type_lem (Res.Texture dim arrayed Class.External) named h k = rw (flat_serves dim arrayed (second (array_reusable dim arrayed) (plain_2d dim arrayed) k))
used_type_lem (Res.AccelerationStructure returns) named h k = rw (same_bool_lem returns)

-- a resource that meets demand 3's conditions is served by the type that it derives
pub derived_accepted : (r : ResourceType) (named : Bool) (ty : BindingType) → type_encodable r ≡ true → resource_reusable r ≡ true
    → derive_binding_type r named ≡ Ok ty → check_binding_use r ty ≡ Ok tt
derived_accepted r named ty h k d = rw d at (used_type_lem r named h k)

-- and without any of the conditions this fails: an encodable resource type that breaks one, and the number given on what it derives
pub record Broken : Type 0 where
  pub type : ResourceType
  pub number : ℕ

pub broken : List Broken
broken =
    -- a storage buffer that stores and does not load, and one without any access
    record { type = Res.Buffer 64 (Space.Storage 2); number = 23 } ∷
    record { type = Res.Buffer 64 (Space.Storage 0); number = 23 } ∷
    -- arrayed 1D and 3D textures
    record { type = Res.Texture Dim.D1 true (Class.Depth false); number = 26 } ∷
    record { type = Res.Texture Dim.D3 true (Class.Sampled Kind.Float false); number = 26 } ∷
    -- external textures that are not 2D, or arrayed
    record { type = Res.Texture Dim.Cube false Class.External; number = 26 } ∷
    record { type = Res.Texture Dim.D2 true Class.External; number = 26 } ∷
    -- atomic storage textures without load and store
    record { type = Res.Texture Dim.D2 false (Class.Storage 0 4); number = 27 } ∷
    record { type = Res.Texture Dim.D2 false (Class.Storage 0 5); number = 27 } ∷
    record { type = Res.Texture Dim.D2 false (Class.Storage 0 6); number = 27 } ∷
    []

pub all_broken : List Broken → Bool
all_broken [] = true
all_broken (b ∷ bs) =
    let rest = all_broken bs in
    type_encodable b.type && (not (resource_reusable b.type) && (eqb (use_number (used_type b.type (derive_binding_type b.type false))) b.number && rest))

pub broken_refused : all_broken broken ≡ true
unfolding all_broken broken type_encodable resource_reusable derive_binding_type derived_texture check_binding_use buffer_use texture_use same_space view_fits sampled_fits storage_fits yes
broken_refused = refl
