-- What the resources of an entry point leave: those that passed entered what they ask for, and one that was refused entered nothing but its size.
use Rattle.std.proofs.Common.{Option, Some, None}
use Prim.Native.Nat.{ℕ}
use mathlib.Core.Path.{◌≡◌, refl, sym, ◌∙◌}
use mathlib.Core.Bool.{Bool, false, false≢true}
use mathlib.Core.List.{List, [], ◌∷◌, ◌++◌}
use lib.Dec.{eqb, ltb}
use lib.ListN.{length}
use native.Mathlib.Omega.{arith}
use borrow.Author.Tests.{eqb-false, ne_eqb}
use Rattle.std.proofs.Common.{Result, Ok, Err}
use Rattle.word.specs.Numbers as Number
use Rattle.word.specs.Answers.{accepted}
use Rattle.word.specs.declared.answer.Answer.{Answer}
use Rattle.word.proofs.Truth.{by_test}
use Rattle.bindings.specs.Rules.{error_number, same_binding, derive_binding_type}
use Rattle.bindings.specs.Answers.{binding_answer}
use Rattle.bindings.specs.declared.types.ResourceBinding.{ResourceBinding}
use Rattle.bindings.specs.declared.types.Resource.{Resource}
use Rattle.bindings.specs.declared.types.ResourceType.{ResourceType}
use Rattle.bindings.specs.declared.types.ResourceType.TheVariants as Res
use Rattle.bindings.specs.declared.types.BindingType.{BindingType}
use Rattle.bindings.specs.declared.types.BindingError.{BindingError}
use Rattle.bindings.proofs.DerivedTypes.{error_some}
use Rattle.layouts.specs.Meaning.{Layout, find_entry, entry_nth, pushed, joined, room_for_entry}
use Rattle.sizes.specs.Meaning.{Sizes, size_has, size_fits, recorded, size_record_width}
use Rattle.places.specs.Records.{room_for}
use Rattle.interface.specs.Format.{stage_code}
use Rattle.interface.specs.declared.types.ShaderStage.{ShaderStage}
use Rattle.interface.specs.declared.types.SamplingPair.{SamplingPair}
use Rattle.resource_steps.specs.Kept.{entered_at, entered_as, entered, entered_all, size_entered, sizes_entered}
use Rattle.resource_steps.specs.Resources.{resource_nth, new_entry, named_texture, record_size, SizesAfter, found_use, provided_use, provide_step, ProvideResult, provide_result, provide_steps}
use Rattle.resource_steps.specs.Resources.{LayoutAfter, layout_after, occupied, vacant, place_step, derived_step, derive_step, DeriveResult, derive_result, derive_steps}

-- ---- one resource

-- a resource that derives passes and enters what it asks for, or is refused and enters nothing
pub data DerivesOne (M L : Layout) (x : LayoutAfter) : Type 0 where
  passes : x ≡ layout_after accepted M → DerivesOne M L x
  refused : (x.answer.number ≡ 0 → ⊥) → x.layout ≡ L → DerivesOne M L x

-- a place of a refusal
place_refused : (n : ℕ) (bind : ResourceBinding) (M L : Layout) → (n ≡ 0 → ⊥) → DerivesOne M L (layout_after (binding_answer n bind) L)
place_refused n bind M L z = rw (ne_eqb n 0 z) (refused z refl)

module _ (stage : ShaderStage) (bind : ResourceBinding) where
  at_place : (ty : BindingType) (f : Option ℕ) (L : Layout) → DerivesOne (entered_at stage bind ty f L) L (place_step stage bind ty f L)
  unfolding occupied vacant
  at_place ty (Some i) L =
      by_test (same_binding ty (entry_nth L.entries i).ty) (λ t. rw t (passes refl)) (λ n. rw n (place_refused Number.inconsistently_derived_type bind (joined (stage_code stage) L i) L (λ z. omega arith)))
  at_place ty None L =
      by_test (room_for_entry L) (λ t. rw t (passes refl)) (λ n. rw n (place_refused Number.full_list bind (pushed L (new_entry stage bind ty)) L (λ z. omega arith)))

  derived_at : (d : Result BindingType BindingError) (L : Layout) → DerivesOne (entered_as stage bind d L) L (derived_step stage bind d L)
  derived_at (Ok ty) L = at_place ty (find_entry bind L) L
  derived_at (Err e) L = place_refused (error_number e) bind L L (error_some e)

pub derive_one : (stage : ShaderStage) (named : Bool) (r : Resource) (L : Layout) → DerivesOne (entered stage named r L) L (derive_step stage named r L)
unfolding derive_step
derive_one stage named r L =
    by_test (ltb r.bind.group L.groups)
    (λ t. rw t (derived_at stage r.bind (derive_binding_type r.ty named) L))
    (λ n. rw n (place_refused Number.missing r.bind (entered stage named r L) L (λ z. omega arith)))

-- a buffer that finds no room leaves the sizes as they are
no_room_lem : (bind : ResourceBinding) (size : ℕ) (S : Sizes) → size_fits bind S ≡ false → recorded bind size S ≡ S
unfolding recorded
no_room_lem bind size S e =
    by_test (size_has bind S.records)
    (λ t. absurd (false≢true (sym (rw t at e))))
    (λ f.
    by_test (room_for size_record_width S.room) (λ t. absurd (false≢true (sym (rw (f, t) at e)))) (λ g. rw (f, g)))

-- whatever the answer, the sizes are those with the resource's own
record_one : (bind : ResourceBinding) (ty : ResourceType) (S : Sizes) → (record_size bind ty S).sizes ≡ size_entered bind ty S
unfolding record_size
record_one bind (Res.Buffer size space) S =
    by_test (size_fits bind S) (λ t. rw t) (λ n. rw (n, no_room_lem bind size S n))
record_one bind (Res.Sampler c) S = refl
record_one bind (Res.Texture d a c) S = refl
record_one bind (Res.AccelerationStructure r) S = refl

pub provide_one : (stage : ShaderStage) (L : Layout) (r : Resource) (S : Sizes) → (provide_step stage L r S).sizes ≡ size_entered r.bind r.ty S
unfolding provide_step
provide_one stage L r S =
    by_test (eqb (record_size r.bind r.ty S).answer.number 0)
    (λ t. rw t (record_one r.bind r.ty S))
    (λ n. rw n (record_one r.bind r.ty S))

-- an answer that names a resource's place is acceptance, or a refusal
pub data Names (a : Answer) : Type 0 where
  passes : a ≡ accepted → Names a
  refused : (a.number ≡ 0 → ⊥) → Names a

names : (n : ℕ) (bind : ResourceBinding) → Names (binding_answer n bind)
names n bind = by_test (eqb n 0) (λ t. rw t (passes refl)) (λ f. rw f (refused (eqb-false n 0 f)))

record_names : (bind : ResourceBinding) (ty : ResourceType) (S : Sizes) → Names (record_size bind ty S).answer
unfolding record_size
record_names bind (Res.Buffer size space) S = by_test (size_fits bind S) (λ t. rw t (passes refl)) (λ n. rw n (names Number.full_list bind))
record_names bind (Res.Sampler c) S = passes refl
record_names bind (Res.Texture d a c) S = passes refl
record_names bind (Res.AccelerationStructure r) S = passes refl

provide_names : (stage : ShaderStage) (L : Layout) (r : Resource) (S : Sizes) → Names (provide_step stage L r S).answer
unfolding provide_step provided_use
provide_names stage L r S =
    by_test (eqb (record_size r.bind r.ty S).answer.number 0)
    (λ t. rw t (names (found_use stage r.ty L (find_entry r.bind L)) r.bind))
    (λ n. rw n (record_names r.bind r.ty S))

-- ---- resources in list order: every one passed, or one behind some that passed was refused

module _ (stage : ShaderStage) (rs : List Resource) (ps : List SamplingPair) where
  abbrev derived_one : ℕ → Layout → LayoutAfter
  derived_one i L = derive_step stage (named_texture i ps) (resource_nth rs i) L

  abbrev entered_one : ℕ → Layout → Layout
  entered_one i L = entered stage (named_texture i ps) (resource_nth rs i) L

  pub data DerivesAll (is : List ℕ) (L : Layout) (x : DeriveResult) : Type 0 where
    all : x ≡ derive_result accepted (length is) (entered_all stage rs ps is L) → DerivesAll is L x
    some : (done : List ℕ) (i : ℕ) (rest : List ℕ) → is ≡ done ++ (i ∷ rest)
        → derive_steps stage rs ps done L ≡ derive_result accepted (length done) (entered_all stage rs ps done L)
        → x ≡ derive_result (derived_one i (entered_all stage rs ps done L)).answer (length done) (entered_all stage rs ps done L)
        → (x.answer.number ≡ 0 → ⊥) → DerivesAll is L x

  derived_first : (i : ℕ) (is : List ℕ) (L : Layout) → derived_one i L ≡ layout_after accepted (entered_one i L)
      → DerivesAll is (entered_one i L) (derive_steps stage rs ps is (entered_one i L)) → DerivesAll (i ∷ is) L (derive_steps stage rs ps (i ∷ is) L)
  unfolding derive_steps entered_all
  derived_first i is L e (all h) = all (rw (e, h))
  derived_first i is L e (some done j rest split before at n) = some (i ∷ done) j rest (rw split) (rw (e, before)) (rw (e, at)) (rw e n)

  derived_next : (i : ℕ) (is : List ℕ) (L : Layout) → DerivesAll is (entered_one i L) (derive_steps stage rs ps is (entered_one i L))
      → (x : LayoutAfter) → derived_one i L ≡ x → DerivesOne (entered_one i L) L x → DerivesAll (i ∷ is) L (derive_steps stage rs ps (i ∷ is) L)
  unfolding derive_steps entered_all
  derived_next i is L others x e (passes h) = derived_first i is L (e ∙ h) others
  derived_next i is L others x e (refused n h) = some [] i is refl refl (rw (e, ne_eqb x.answer.number 0 n, h)) (rw (e, ne_eqb x.answer.number 0 n) n)

  pub derive_all : (is : List ℕ) (L : Layout) → DerivesAll is L (derive_steps stage rs ps is L)
  unfolding derive_steps entered_all
  derive_all [] L = all refl
  derive_all (i ∷ is) L =
      derived_next i is L (derive_all is (entered_one i L)) (derived_one i L) refl (derive_one stage (named_texture i ps) (resource_nth rs i) L)

module _ (stage : ShaderStage) (L : Layout) (rs : List Resource) where
  abbrev provided_one : ℕ → Sizes → SizesAfter
  provided_one i S = provide_step stage L (resource_nth rs i) S

  abbrev size_one : ℕ → Sizes → Sizes
  size_one i S = size_entered (resource_nth rs i).bind (resource_nth rs i).ty S

  pub data ProvidesAll (is : List ℕ) (S : Sizes) (x : ProvideResult) : Type 0 where
    all : x ≡ provide_result accepted (length is) (sizes_entered rs is S) → ProvidesAll is S x
    some : (done : List ℕ) (i : ℕ) (rest : List ℕ) → is ≡ done ++ (i ∷ rest)
        → provide_steps stage L rs done S ≡ provide_result accepted (length done) (sizes_entered rs done S)
        → x ≡ provide_result (provided_one i (sizes_entered rs done S)).answer (length done) (sizes_entered rs (done ++ (i ∷ [])) S)
        → (x.answer.number ≡ 0 → ⊥) → ProvidesAll is S x

  provided_first : (i : ℕ) (is : List ℕ) (S : Sizes) → (provided_one i S).answer ≡ accepted → (provided_one i S).sizes ≡ size_one i S
      → ProvidesAll is (size_one i S) (provide_steps stage L rs is (size_one i S)) → ProvidesAll (i ∷ is) S (provide_steps stage L rs (i ∷ is) S)
  unfolding provide_steps sizes_entered
  provided_first i is S e s (all h) = all (rw (e, s, h))
  provided_first i is S e s (some done j rest split before at n) = some (i ∷ done) j rest (rw split) (rw (e, s, before)) (rw (e, s, at)) (rw (e, s) n)

  provided_next : (i : ℕ) (is : List ℕ) (S : Sizes) → ProvidesAll is (size_one i S) (provide_steps stage L rs is (size_one i S))
      → (provided_one i S).sizes ≡ size_one i S → Names (provided_one i S).answer → ProvidesAll (i ∷ is) S (provide_steps stage L rs (i ∷ is) S)
  unfolding provide_steps sizes_entered
  provided_next i is S others s (passes h) = provided_first i is S h s others
  provided_next i is S others s (refused n) =
      some [] i is refl refl (rw (ne_eqb (provided_one i S).answer.number 0 n, s)) (rw (ne_eqb (provided_one i S).answer.number 0 n) n)

  pub provide_all : (is : List ℕ) (S : Sizes) → ProvidesAll is S (provide_steps stage L rs is S)
  unfolding provide_steps sizes_entered
  provide_all [] S = all refl
  provide_all (i ∷ is) S =
      provided_next i is S (provide_all is (size_one i S)) (provide_one stage L (resource_nth rs i) S) (provide_names stage L (resource_nth rs i) S)
