-- Which numbers a resource is refused with: 5 and 20 to 30, with its place.
use Rattle.std.proofs.Common.{Option, Some, None, Result, Ok, Err}
use Prim.Native.Nat.{ℕ}
use mathlib.Core.Path.{◌≡◌, refl}
use mathlib.Core.Bool.{Bool, true}
use lib.Dec.{eqb, ltb}
use borrow.Author.Tests.{eqb-false, eq-eqb}
use Rattle.word.proofs.Truth.{by_test}
use Rattle.word.specs.Numbers as Number
use Rattle.word.specs.Answers.{accepted}
use Rattle.word.specs.declared.answer.Answer.{Answer}
use Rattle.word.specs.Lists.{among}
use Rattle.bindings.specs.Rules.{check_binding_use, error_number, use_number, same_binding, derive_binding_type}
use Rattle.bindings.specs.Answers.{binding_answer}
use Rattle.bindings.specs.declared.types.ResourceBinding.{ResourceBinding}
use Rattle.bindings.specs.declared.types.Resource.{Resource}
use Rattle.bindings.specs.declared.types.ResourceType.{ResourceType}
use Rattle.bindings.specs.declared.types.ResourceType.TheVariants as Res
use Rattle.bindings.specs.declared.types.BindingType.{BindingType}
use Rattle.bindings.specs.declared.types.BindingError.{BindingError}
use Rattle.bindings.specs.declared.types.BindingError.TheVariants as Error
use Rattle.layouts.specs.Meaning.{Layout, find_entry, entry_nth, sees_bit, room_for_entry}
use Rattle.sizes.specs.Meaning.{Sizes, size_fits}
use Rattle.interface.specs.Format.{stage_code}
use Rattle.interface.specs.declared.types.ShaderStage.{ShaderStage}
use Rattle.resource_steps.specs.Resources.{SizesAfter, sizes_after, record_size, found_use, provided_use, provide_step}
use Rattle.resource_steps.specs.Resources.{LayoutAfter, occupied, vacant, place_step, derived_step, derive_step}
use Rattle.refusals.specs.Table.{resource_numbers}
use Rattle.refusals.specs.Kept.{refuses_at}
use Rattle.refusals.proofs.Known.{NumberOf, none, one, either, not_none}

-- a number on a resource
abbrev Known : ℕ → Type 0
Known n = NumberOf resource_numbers n

-- an answer on a place: acceptance, or a refusal that names it
pub data Placed (bind : ResourceBinding) (a : Answer) : Type 0 where
  passes : a ≡ accepted → Placed bind a
  fails : refuses_at bind a ≡ true → Placed bind a

place_known : (n : ℕ) (bind : ResourceBinding) → Known n → Placed bind (binding_answer n bind)
place_known n bind k =
    by_test (eqb n 0) (λ t. rw t (passes refl))
    (λ f.
    rw f
    (fails (rw (not_none resource_numbers n k (eqb-false n 0 f), eq-eqb bind.group bind.group refl, eq-eqb bind.binding bind.binding refl))))

-- ---- against a provided layout

error_known : (e : BindingError) → Known (error_number e)
unfolding among
error_known Error.WrongType = one refl
error_known Error.WrongAddressSpace = one refl
error_known Error.WrongBufferAddressSpace = one refl
error_known Error.WrongBufferSize = one refl
error_known Error.WrongTextureViewDimension = one refl
error_known Error.WrongTextureClass = one refl
error_known Error.WrongSamplerComparison = one refl
error_known Error.BadStorageFormat = one refl

use_known : (u : Result Unit BindingError) → Known (use_number u)
unfolding among
use_known (Ok served) = none refl
use_known (Err e) = error_known e

found_known : (stage : ShaderStage) (ty : ResourceType) (L : Layout) (f : Option ℕ) → Known (found_use stage ty L f)
unfolding among
found_known stage ty L (Some i) =
    either Known (sees_bit (stage_code stage) (entry_nth L.entries i).visibility) (use_number (check_binding_use ty (entry_nth L.entries i).ty)) Number.invisible
    (use_known (check_binding_use ty (entry_nth L.entries i).ty)) (one refl)
found_known stage ty L None = one refl

recorded_known : (bind : ResourceBinding) (ty : ResourceType) (S : Sizes) → Placed bind (record_size bind ty S).answer
unfolding record_size among
recorded_known bind (Res.Buffer size space) S =
    either (λ (x : SizesAfter). Placed bind x.answer) (size_fits bind S) _ _ (passes refl) (place_known Number.full_list bind (one refl))
recorded_known bind (Res.Sampler c) S = passes refl
recorded_known bind (Res.Texture d a c) S = passes refl
recorded_known bind (Res.AccelerationStructure r) S = passes refl

pub provide_known : (stage : ShaderStage) (L : Layout) (r : Resource) (S : Sizes) → Placed r.bind (provide_step stage L r S).answer
unfolding provide_step provided_use
provide_known stage L r S =
    let x = record_size r.bind r.ty S in
    either (λ (x : SizesAfter). Placed r.bind x.answer) (eqb x.answer.number 0) (sizes_after (provided_use stage L r) x.sizes) x
    (place_known (found_use stage r.ty L (find_entry r.bind L)) r.bind (found_known stage r.ty L (find_entry r.bind L)))
    (recorded_known r.bind r.ty S)

-- ---- where the layout is derived

abbrev Derives : ResourceBinding → LayoutAfter → Type 0
Derives bind x = Placed bind x.answer

at_place_known : (stage : ShaderStage) (bind : ResourceBinding) (ty : BindingType) (f : Option ℕ) (L : Layout) → Derives bind (place_step stage bind ty f L)
unfolding occupied vacant among
at_place_known stage bind ty (Some i) L =
    either (Derives bind) (same_binding ty (entry_nth L.entries i).ty) _ _ (passes refl) (place_known Number.inconsistently_derived_type bind (one refl))
at_place_known stage bind ty None L = either (Derives bind) (room_for_entry L) _ _ (passes refl) (place_known Number.full_list bind (one refl))

derived_known : (stage : ShaderStage) (bind : ResourceBinding) (d : Result BindingType BindingError) (L : Layout) → Derives bind (derived_step stage bind d L)
unfolding among
derived_known stage bind (Ok ty) L = at_place_known stage bind ty (find_entry bind L) L
derived_known stage bind (Err e) L = place_known (error_number e) bind (error_known e)

pub derive_known : (stage : ShaderStage) (named : Bool) (r : Resource) (L : Layout) → Derives r.bind (derive_step stage named r L)
unfolding derive_step among
derive_known stage named r L =
    either (Derives r.bind) (ltb r.bind.group L.groups) _ _ (derived_known stage r.bind (derive_binding_type r.ty named) L)
    (place_known Number.missing r.bind (one refl))
