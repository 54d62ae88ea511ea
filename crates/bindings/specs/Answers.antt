-- The answers of the functions over words.
use Rattle.std.specs.Prelude.{ℕ, Bool, List, [], ◌∷◌, ◌==◌, Result, Ok, Err}
use Rattle.word.specs.Choice.{pick}
use Rattle.word.specs.Numbers as Number
use Rattle.word.specs.Words.{of_kind}
use Rattle.word.specs.Parse.{Parsed, fault, got}
use Rattle.word.specs.Answers.{answer, accepted, refused}
use Rattle.word.specs.declared.answer.Answer.{Answer}
use Rattle.bindings.specs.Rules.{check_binding_use, use_number, error_number, derive_binding_type}
use Rattle.bindings.specs.Format.{read_resource, entry_well_formed, entry_of, binding_code, least_size_of, size_word}
use Rattle.bindings.specs.declared.types.ResourceBinding.{ResourceBinding}
use Rattle.bindings.specs.declared.types.Resource.{Resource}
use Rattle.bindings.specs.declared.types.BindGroupLayoutEntry.{BindGroupLayoutEntry}
use Rattle.bindings.specs.declared.types.BindingType.{BindingType}
use Rattle.bindings.specs.declared.types.BindingError.{BindingError}

-- '5 and 20–30 group, binding'
abbrev pub binding_answer : ℕ → ResourceBinding → Answer
binding_answer number bind = pick (number == 0) accepted (answer number bind.group bind.binding 0)

-- goes on with a resource that is all there is, else 2
abbrev pub only_resource : Parsed Resource → (Resource → Answer) → Answer
only_resource fault k = refused Number.malformed_pack
only_resource (got r []) k = k r
only_resource (got r (w ∷ ws)) k = refused Number.malformed_pack

-- goes on with an entry that is all there is, else 3
abbrev pub only_entry : List ℕ → (BindGroupLayoutEntry → Answer) → Answer
only_entry [] k = refused Number.bad_call
only_entry (place ∷ []) k = refused Number.bad_call
only_entry (place ∷ type ∷ []) k = refused Number.bad_call
only_entry (place ∷ type ∷ least ∷ []) k = refused Number.bad_call
only_entry (place ∷ type ∷ least ∷ visibility ∷ []) k =
    pick (entry_well_formed place type least visibility) (k (entry_of place type least visibility)) (refused Number.bad_call)
only_entry (place ∷ type ∷ least ∷ visibility ∷ w ∷ ws) k = refused Number.bad_call

-- a resource's words against an entry's words
unfoldable pub check_words : List ℕ → List ℕ → Answer
check_words resource entry =
    only_resource (read_resource resource) λ r.
    only_entry entry λ e.
    binding_answer (use_number (check_binding_use r.ty e.ty)) r.bind

-- the type word of a derivation
abbrev pub derived_word : Result BindingType BindingError → Result ℕ BindingError
derived_word (Ok ty) = Ok (of_kind 18 (binding_code ty))
derived_word (Err e) = Err e

-- the type word and the least-size word that a resource derives, as the first two details, or 24
abbrev pub derived_answer : Result BindingType BindingError → ResourceBinding → Answer
derived_answer (Ok ty) bind = answer 0 (of_kind 18 (binding_code ty)) (size_word (least_size_of ty)) 0
derived_answer (Err e) bind = binding_answer (error_number e) bind

unfoldable pub derive_words : List ℕ → Bool → Answer
derive_words resource named = only_resource (read_resource resource) λ r. derived_answer (derive_binding_type r.ty named) r.bind
