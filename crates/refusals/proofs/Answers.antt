-- Demand 1 for the other functions that answer: each gives one of its numbers, and acceptance names no details but those said.
use Rattle.std.proofs.Common.{Result, Ok, Err}
use Prim.Native.Nat.{ℕ}
use mathlib.Core.Path.{◌≡◌, refl}
use mathlib.Core.Bool.{Bool, true, false}
use mathlib.Core.List.{List, [], ◌∷◌}
use lib.Dec.{ltb}
use Rattle.word.specs.Lists.{among, every}
use Rattle.word.specs.Numbers as Number
use Rattle.word.specs.Parse.{Parsed, fault, got}
use Rattle.word.specs.Answers.{refused}
use Rattle.word.specs.declared.answer.Answer.{Answer}
use Rattle.word.proofs.Truth.{by_test, never}
use Rattle.std.specs.Prelude.{⊤, Option, Some, None, Result, Ok, Err}
use Rattle.numeric.specs.Types.{fits}
use Rattle.numeric.specs.TypeWords.{subtype_number}
use Rattle.numeric.specs.declared.types.Misfit.{Misfit}
use Rattle.numeric.specs.declared.types.NumericType.{NumericType}
use Rattle.formats.specs.Formats.{FormatType, below, float_vertex_format, vertex_format, texture_format, format_answer, check_type, check_texture_format}
use Rattle.formats.specs.declared.formats.FormatError.TheVariants.{NoColour, Unknown}
use Rattle.bindings.specs.Rules.{check_binding_use, use_number, derive_binding_type}
use Rattle.bindings.specs.Format.{read_resource, entry_well_formed, entry_of}
use Rattle.bindings.specs.Answers.{binding_answer, only_resource, only_entry, check_words, derived_answer, derive_words}
use Rattle.bindings.specs.declared.types.ResourceBinding.{ResourceBinding}
use Rattle.bindings.specs.declared.types.Resource.{Resource}
use Rattle.bindings.specs.declared.types.BindGroupLayoutEntry.{BindGroupLayoutEntry}
use Rattle.bindings.specs.declared.types.BindingError.{BindingError}
use Rattle.bindings.specs.declared.types.BindingError.TheVariants as Error
use Rattle.bindings.specs.declared.types.BindingType.{BindingType}
use Rattle.bindings.proofs.DerivedTypes.{derived_refused}
use Rattle.bindings.proofs.UseErrors.{gives, use_gives}
use Rattle.interface.specs.Format.{Decoded, Damaged, Malformed, Pack, decoded_number, stage_at}
use Rattle.entry_points.specs.Rules.{only_entry_point, only_answer, finalize_name}
use Rattle.std.specs.Prelude.{Result, Ok, Err}
use Rattle.entry_points.specs.declared.choose.ChoiceError.{ChoiceError}
use Rattle.entry_points.specs.declared.choose.ChoiceError.TheVariants.{Absent, Several}
use Rattle.refusals.specs.Table.{early, stage_numbers, pack_numbers, subtype_numbers, name_numbers, vertex_format_numbers, texture_format_numbers, format_use_numbers, words_use_numbers, derivation_numbers, populate_numbers, table, answered}
use Rattle.refusals.proofs.Known.{either}

-- ---- every function's numbers are in the table

pub numbers_listed : every (every (among table)) (early ∷ stage_numbers ∷ pack_numbers ∷ name_numbers ∷ vertex_format_numbers ∷ texture_format_numbers ∷ format_use_numbers ∷ words_use_numbers ∷ derivation_numbers ∷ populate_numbers ∷ []) ≡ true
unfolding every among
numbers_listed = refl

-- ---- a pack alone

pub pack_answered : (d : Decoded) → among pack_numbers (decoded_number d) ≡ true
unfolding among
pack_answered Damaged = refl
pack_answered Malformed = refl
pack_answered (Pack i) = refl

-- ---- the choice of a name: acceptance names the position

chosen_answered : (x : Result ℕ ChoiceError) → answered name_numbers 1 (only_answer x) ≡ true
unfolding answered every among
chosen_answered (Ok i) = refl
chosen_answered (Err Absent) = refl
chosen_answered (Err Several) = refl

pub name_answered : (d : Decoded) (stage : ℕ) → answered name_numbers 1 (finalize_name d stage) ≡ true
unfolding answered every among finalize_name
name_answered Damaged stage = refl
name_answered Malformed stage = refl
name_answered (Pack i) stage =
    either (λ a. answered name_numbers 1 a ≡ true) (ltb stage 5) (only_answer (only_entry_point (stage_at stage) i.entries)) (refused Number.bad_call)
    (chosen_answered (only_entry_point (stage_at stage) i.entries)) refl

-- ---- formats: acceptance names the type word

texture_answered : (f : FormatType) → answered texture_format_numbers 1 (format_answer f) ≡ true
unfolding answered every among
texture_answered (Ok t) = refl
texture_answered (Err NoColour) = refl
texture_answered (Err Unknown) = refl

pub texture_format_answered : (code : ℕ) → answered texture_format_numbers 1 (format_answer (texture_format code)) ≡ true
texture_format_answered code = texture_answered (texture_format code)

-- a vertex format has a type or does not exist
data Vertex (f : FormatType) : Type 0 where
  type : answered vertex_format_numbers 1 (format_answer f) ≡ true → Vertex f

row : (end : ℕ) (f : FormatType) (rest : ℕ → FormatType) → Vertex f → ((code : ℕ) → Vertex (rest code)) → (code : ℕ) → Vertex (below end f rest code)
row end f rest p q code = either Vertex (ltb code end) f (rest code) p (q code)

has_type : (t : NumericType) → Vertex (Ok t)
unfolding answered every among
has_type t = type refl

no_type : Vertex (Err Unknown)
unfolding answered every among
no_type = type refl

float_vertex : (code : ℕ) → Vertex (float_vertex_format code)
unfolding float_vertex_format
float_vertex =
    row 26 _ _ (has_type _)
    (row 32 _ _ (has_type _)
    (row 33 _ _ (has_type _)
    (row 41 _ _ (has_type _)
    (row 42 _ _ (has_type _)
    (row 43 _ _ (has_type _)
    (row 44 _ _ (has_type _)
    (row 45 _ _ (has_type _)
    (λ code. no_type))))))))

vertex : (code : ℕ) → Vertex (vertex_format code)
unfolding vertex_format
vertex =
    row 3 _ _ (has_type _)
    (row 6 _ _ (has_type _)
    (row 7 _ _ (has_type _)
    (row 10 _ _ (has_type _)
    (row 13 _ _ (has_type _)
    (row 16 _ _ (has_type _)
    (row 17 _ _ (has_type _)
    (row 20 _ _ (has_type _)
    float_vertex)))))))

pub vertex_format_answered : (code : ℕ) → answered vertex_format_numbers 1 (format_answer (vertex_format code)) ≡ true
vertex_format_answered code = answer_of (vertex code)
  where
    answer_of : {f : FormatType} → Vertex f → answered vertex_format_numbers 1 (format_answer f) ≡ true
    answer_of (type h) = h

-- ---- a texture format against a type: acceptance names nothing

type_answered : (t output : NumericType) → answered format_use_numbers 0 (check_type t output) ≡ true
unfolding answered every among
type_answered t output = by_test (fits t output) (λ y. rw y) (λ n. rw n)

pub format_use_answered : (f : FormatType) (output : Option NumericType) → answered format_use_numbers 0 (check_texture_format f output) ≡ true
unfolding answered every among check_texture_format
format_use_answered (Err Unknown) output = refl
format_use_answered (Err NoColour) None = refl
format_use_answered (Ok t) None = refl
format_use_answered (Err NoColour) (Some output) = refl
format_use_answered (Ok t) (Some output) = type_answered t output

-- ---- whether a type is below another

pub subtype_answered : (c : Option (Result ⊤ Misfit)) → among subtype_numbers (subtype_number c) ≡ true
unfolding among
subtype_answered (Some (Ok u)) = refl
subtype_answered (Some (Err reason)) = refl
subtype_answered None = refl

-- ---- words of a resource against those of an entry: acceptance names nothing

use_answered : (u : Result Unit BindingError) (bind : ResourceBinding) → gives u ≡ true → answered words_use_numbers 0 (binding_answer (use_number u) bind) ≡ true
unfolding answered every among
use_answered (Ok served) bind h = refl
use_answered (Err Error.WrongType) bind h = refl
use_answered (Err Error.WrongAddressSpace) bind h = refl
use_answered (Err Error.WrongBufferAddressSpace) bind h = never false h refl
use_answered (Err Error.WrongBufferSize) bind h = refl
use_answered (Err Error.WrongTextureViewDimension) bind h = refl
use_answered (Err Error.WrongTextureClass) bind h = refl
use_answered (Err Error.WrongSamplerComparison) bind h = refl
use_answered (Err Error.BadStorageFormat) bind h = refl

entry_answered : (entry : List ℕ) (k : BindGroupLayoutEntry → Answer) → ((e : BindGroupLayoutEntry) → answered words_use_numbers 0 (k e) ≡ true)
    → answered words_use_numbers 0 (only_entry entry k) ≡ true
unfolding answered every among
entry_answered [] k h = refl
entry_answered (a ∷ []) k h = refl
entry_answered (a ∷ b ∷ []) k h = refl
entry_answered (a ∷ b ∷ c ∷ []) k h = refl
entry_answered (a ∷ b ∷ c ∷ d ∷ []) k h =
    either (λ x. answered words_use_numbers 0 x ≡ true) (entry_well_formed a b c d) (k (entry_of a b c d)) (refused Number.bad_call) (h (entry_of a b c d)) refl
entry_answered (a ∷ b ∷ c ∷ d ∷ w ∷ ws) k h = refl

-- 2 is a number of every function that reads a resource
resource_answered : (numbers : List ℕ) (named : ℕ) (p : Parsed Resource) (k : Resource → Answer) → answered numbers named (refused Number.malformed_pack) ≡ true
    → ((r : Resource) → answered numbers named (k r) ≡ true) → answered numbers named (only_resource p k) ≡ true
resource_answered numbers named fault k z h = z
resource_answered numbers named (got r []) k z h = h r
resource_answered numbers named (got r (w ∷ ws)) k z h = z

pub words_answered : (resource entry : List ℕ) → answered words_use_numbers 0 (check_words resource entry) ≡ true
unfolding answered every among check_words
words_answered resource entry =
    resource_answered words_use_numbers 0 (read_resource resource)
    (λ r. only_entry entry λ e. binding_answer (use_number (check_binding_use r.ty e.ty)) r.bind) refl
    (λ r.
    entry_answered entry (λ e. binding_answer (use_number (check_binding_use r.ty e.ty)) r.bind)
    (λ e. use_answered (check_binding_use r.ty e.ty) r.bind (use_gives r.ty e.ty)))

-- ---- the derivation of an entry's type: acceptance names the type word and the least-size word

derived_answered : (d : Result BindingType BindingError) (bind : ResourceBinding) → ((e : BindingError) → d ≡ Err e → e ≡ Error.WrongBufferAddressSpace)
    → answered derivation_numbers 2 (derived_answer d bind) ≡ true
unfolding answered every among
derived_answered (Ok ty) bind h = refl
derived_answered (Err e) bind h = rw (h e refl) refl

pub derivation_answered : (resource : List ℕ) (named : Bool) → answered derivation_numbers 2 (derive_words resource named) ≡ true
unfolding answered every among derive_words
derivation_answered resource named =
    resource_answered derivation_numbers 2 (read_resource resource) (λ r. derived_answer (derive_binding_type r.ty named) r.bind) refl
    (λ r. derived_answered (derive_binding_type r.ty named) r.bind (derived_refused r.ty named))
