-- The least size of a derived type.
use Prim.{Unit, tt}
use Prim.Native.Nat.{ℕ}
use native.Mathlib.Omega.{arith}
use mathlib.Core.Path.{◌≡◌, refl}
use mathlib.Core.Bool.{Bool}
use lib.Dec.{eqb}
use borrow.Author.Tests.{ne_eqb}
use Rattle.word.specs.Choice.{pick}
use Rattle.word.specs.Words.{bits}
use Rattle.bindings.specs.Rules.{derived_texture, derived_buffer, derive_binding_type}
use Rattle.bindings.specs.Format.{is_buffer_word, type_code, space_at, resource_type_of}
use Rattle.bindings.specs.Format.{least_size_of}
use Rattle.bindings.specs.declared.types.BindingType.{BindingType}
use Rattle.bindings.specs.declared.types.BindingError.{BindingError}
use Rattle.std.proofs.Common.{Result, Ok, Err}
use Rattle.word.proofs.Truth.{by_test}
use Rattle.bindings.proofs.ReadLaws.{by_resource}

abbrev Least : Result BindingType BindingError → ℕ → Type 0
Least (Ok ty) size = least_size_of ty ≡ size
Least (Err e) size = Unit {0}

buffer_least : (size w : ℕ) → Least (derived_buffer size (space_at (bits 4 3 w) (bits 2 0 w))) size
buffer_least size w =
    by_test (eqb (bits 4 3 w) 0) (λ t. rw t refl) λ n0.
    by_test (eqb (bits 4 3 w) 1) (λ t. rw (n0, t) refl) (λ n1. rw (n0, n1) tt)

least_derived : (w size : ℕ) (named : Bool) → Least (derive_binding_type (resource_type_of w size) named) (pick (is_buffer_word w) size 0)
unfolding derive_binding_type derived_texture
least_derived w size named =
    by_resource (λ r. Least (derive_binding_type r named) (pick (is_buffer_word w) size 0)) w size
    (λ e. rw e (buffer_least size w)) (λ e. rw e refl) (λ e. rw e refl) (λ e. rw e refl) (λ e. rw e refl) (λ e. rw e refl)
    (λ l. rw (ne_eqb (type_code w) 0 (λ e. omega arith)) refl)

-- only a buffer derives a least size, and that is its own
pub derived_least : (w size : ℕ) (named : Bool) (ty : BindingType) → derive_binding_type (resource_type_of w size) named ≡ Ok ty
    → least_size_of ty ≡ pick (is_buffer_word w) size 0
derived_least w size named ty d = rw d at (least_derived w size named)
