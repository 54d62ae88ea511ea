-- The ways of resources through a layout that is being derived.
use Rattle.std.proofs.Common.{None, Result, Ok, Err}
use Prim.Native.Nat.{ℕ, ◌+◌, ◌^◌, ◌<◌, ◌≤◌}
use native.Mathlib.Omega.{arith}
use mathlib.Core.Path.{◌≡◌, refl, sym, ap, ◌∙◌}
use mathlib.Core.Bool.{Bool, true, false, not, ◌&&◌}
use mathlib.Core.List.{List}
use lib.Dec.{eqb}
use lib.ListN.{length, drop}
use borrow.Author.Tests.{eq-eqb, ne_eqb, lt-ltb, eqb-true, eqb-false, not-false}
use Rattle.word.specs.Choice.{pick}
use Rattle.word.specs.Words.{word_at, content_of, bits, of_kind}
use Rattle.word.specs.Answers.{accepted}
use Rattle.word.specs.declared.answer.Answer.{Answer}
use Rattle.bindings.specs.Rules.{same_binding, derived_texture, derive_binding_type}
use Rattle.bindings.specs.Format.{place_of, place_word, type_code, is_buffer_word, resource_type_of, resource, type_encodable}
use Rattle.bindings.specs.Format.{binding_type_of, binding_code, least_size_of, format_encodable, parts_well_formed, entry_of_parts, entry_encodable, size_limit}
use Rattle.bindings.specs.Answers.{derived_word, binding_answer}
use Rattle.bindings.specs.declared.types.ResourceBinding.{ResourceBinding}
use Rattle.bindings.specs.declared.types.Resource.{Resource}
use Rattle.bindings.specs.declared.types.BindingType.{BindingType}
use Rattle.bindings.specs.declared.types.BindGroupLayoutEntry.{BindGroupLayoutEntry}
use Rattle.bindings.specs.declared.types.BindingError.{BindingError}
use Rattle.word.proofs.Truth.{by_test}
use Rattle.bindings.proofs.CodeLaws.{least_fits}
use Rattle.bindings.proofs.ReadLaws.{place_encodable_lem}
use Rattle.bindings.proofs.EntryFormat.{type_read, entry_well_formed_lem, entry_read}
use Rattle.bindings.proofs.DerivedTypes.{derived_encodable}
use Rattle.bindings.proofs.SameBinding.{same_binding_refl, other_by_code, other_by_least}
use Rattle.word_rules.proofs.DeriveLaws.{derived_least}
use Rattle.layouts.specs.Meaning.{Layout, entry_places, find_entry, entry_has, pushed, room_for_entry, entry_nth}
use Rattle.layouts.specs.Format.{entry_fits}
use Rattle.places.proofs.PlaceWays.{place_lacks}
use Rattle.interface.specs.Format.{stage_code, contents, pairs_of}
use Rattle.interface.specs.declared.types.ShaderStage.{ShaderStage}
use Rattle.interface.specs.declared.types.SamplingPair.{SamplingPair}
use Rattle.word.specs.Refusals.{answer_of, refusal_answer}
use Rattle.word.specs.declared.refusal.Refusal.{Refusal}
use Rattle.word.proofs.Both.{number_nonzero}
use Rattle.resource_steps.specs.declared.types.EntryType.{EntryType}
use Rattle.resource_steps.specs.Resources.{resource_nth, layout_after, vacant, place_step, derive_step, named_texture, DeriveResult, derive_result, derive_steps, occupied}
use Rattle.resource_steps.proofs.ResourceParts.{contents_cons, contents_none, pairs_cons, pairs_none}
use Rattle.resource_steps.proofs.ResourceWalk.{one_more}

-- the type word and the least size of a binding type that a layout list can hold
pub record TypeWords (type least : ℕ) (ty : BindingType) : Type 0 where
  pub encodable : format_encodable ty ≡ true
  pub type_word : type ≡ of_kind 18 (binding_code ty)
  pub least_size : least ≡ least_size_of ty

pub type_words : (t : EntryType) → TypeWords t.word t.least (binding_type_of t.word t.least)
type_words t = record { encodable = t.encodable; type_word = t.type_word; least_size = t.least_size }

-- ---- an entry of another type at the place

pub occupied_other : (stage : ShaderStage) (place i : ℕ) (b : BindingType) (L : Layout) (a : Answer) (k : Bool) → k ≡ same_binding b (entry_nth L.entries i).ty
    → k ≡ false → a ≡ binding_answer 29 (place_of place) → layout_after a L ≡ occupied stage (place_of place) b i L
unfolding occupied
occupied_other stage place i b L a k q t h = rw (← q, t, h)

-- ---- a type at its place

-- a type by its word and its least size, and that of an entry
module _ (ty least : ℕ) (b e : BindingType) (q : b ≡ binding_type_of ty least) (t : TypeWords ty least b) (x : ℕ) (ex : x ≡ of_kind 18 (binding_code e)) (back : binding_type_of x (least_size_of e) ≡ e) where
  pub type_differs : (x ≡ ty → ⊥) → eqb x ty ≡ same_binding b e
  type_differs n = ne_eqb x ty n ∙ sym (other_by_code b e (λ q. n (omega (arith, t.type_word))))

  -- where the words are the same, the least sizes decide
  pub type_by_least : (y : ℕ) → x ≡ ty → y ≡ least_size_of e → eqb y least ≡ same_binding b e
  type_by_least y z ey =
      by_test (eqb y least)
      (λ h. let l : least ≡ least_size_of e = sym (eqb-true y least h) ∙ ey in let same : b ≡ e = cc in rw (h, same) (sym (same_binding_refl e)))
      (λ h. rw h (sym (other_by_least b e (λ l. eqb-false y least h (omega (arith, t.least_size))))))

-- a place at which no entry was found has none
none_there : (place : ResourceBinding) (L : Layout) → find_entry place L ≡ None → entry_has place L.entries ≡ false
none_there place L h = sym (place_lacks place (entry_places L.entries) (find_entry place L) refl h)

-- the least size of a type that a layout list can hold
pub new_small : (ty least : ℕ) (b : BindingType) → TypeWords ty least b → least < size_limit
new_small ty least b t = rw t.least_size (least_fits b t.encodable)

-- the parts of a new entry
module _ (place ty least p v : ℕ) (b : BindingType) (t : TypeWords ty least b) (ep : p ≡ content_of place) (hv : v ≤ 16) where
  abbrev new : BindGroupLayoutEntry
  new = record { bind = place_of place; ty = b; visibility = v }

  abbrev parts : BindGroupLayoutEntry
  parts = entry_of_parts (0x20000000 + p) ty least (0x98000000 + v)

  new_encodable : entry_encodable new ≡ true
  new_encodable = rw (place_encodable_lem place, t.encodable, lt-ltb v 32 (omega arith))

  place_again : 0x20000000 + p ≡ place_word (place_of place)
  place_again = omega arith

  pub new_well_formed : parts_well_formed (0x20000000 + p) ty least (0x98000000 + v) ≡ true
  new_well_formed = rw (place_again, t.type_word, t.least_size) (entry_well_formed_lem new new_encodable)

  new_mean : parts ≡ new
  new_mean = rw (place_again, t.type_word, t.least_size) (entry_read new new_encodable)

  pub new_fits : (L : Layout) → (place_of place).group < L.groups → entry_fits L.groups parts ≡ true
  new_fits L g = rw (new_mean, new_encodable, lt-ltb (place_of place).group L.groups g)

  pub new_lacks : (L : Layout) → find_entry (place_of place) L ≡ None → entry_has parts.bind L.entries ≡ false
  new_lacks L n = rw new_mean (none_there (place_of place) L n)

  module _ (stage : ShaderStage) (ev : v ≡ 2 ^ stage_code stage) (L M : Layout) (a : Answer) (k : Bool) (q : k ≡ room_for_entry L)
      (m : M ≡ pick k (pushed L parts) L) where
    pub vacant_pushed : not k ≡ false → a ≡ accepted → layout_after a M ≡ vacant stage (place_of place) b L
    unfolding vacant
    vacant_pushed y h = rw (← q, ← ev, m, not-false k y, new_mean, h)

-- ---- one resource

-- a derivation by its word
some_derived : {P : Type 0} (d : Result BindingType BindingError) (x : ℕ) → derived_word d ≡ Ok x → ((b : BindingType) → d ≡ Ok b → x ≡ of_kind 18 (binding_code b) → P) → P
some_derived (Ok b) x e k = let z : of_kind 18 (binding_code b) ≡ x = cc in k b refl (sym z)
some_derived (Err f) x e k = absurd (cc)

pub within_groups : (L : Layout) (place g : ℕ) → g ≡ L.groups → bits 26 23 place < g → (place_of place).group < L.groups
within_groups L place g q n = rw q at n

module _ (named : Bool) (w size ty least : ℕ) (h : type_encodable (resource_type_of w size) ≡ true)
    (e : (n : ℕ) → derived_word (derive_binding_type (resource_type_of w n) named) ≡ Ok ty) (s : least ≡ pick (is_buffer_word w) size 0) where
  abbrev d : Result BindingType BindingError
  d = derive_binding_type (resource_type_of w size) named

  typed : {P : Type 0} → ((b : BindingType) → d ≡ Ok b → TypeWords ty least b → binding_type_of ty least ≡ b → P) → P
  typed k =
      some_derived d ty (e size) λ b q x.
      let f : format_encodable b ≡ true = derived_encodable (resource_type_of w size) named b h q in
      let y : least ≡ least_size_of b = rw (derived_least w size named b q) s in
      k b q (record { encodable = f; type_word = x; least_size = y }) (rw (y, x) (type_read b f))

  pub derived_words : TypeWords ty least (binding_type_of ty least)
  derived_words = typed (λ b q t m. rw m t)

  pub derive_placed : (stage : ShaderStage) (place g : ℕ) (L M : Layout) (a : Answer) → g ≡ L.groups → bits 26 23 place < g
      → layout_after a M ≡ place_step stage (place_of place) (binding_type_of ty least) (find_entry (place_of place) L) L
      → layout_after a M ≡ derive_step stage named (resource place w size) L
  unfolding derive_step
  derive_placed stage place g L M a q n k =
      typed (λ b x t m. rw (lt-ltb (place_of place).group L.groups (within_groups L place g q n), x, ← m) k)

-- ---- the texture that a pair names

module _ (ws : List ℕ) (k i : ℕ) (goal : Bool) (inv : goal ≡ named_texture i (pairs_of (drop k ws))) where
  module _ (h : k < length ws) where
    pub named_here : bits 15 8 (word_at ws k) ≡ i → true ≡ goal
    unfolding named_texture
    named_here t = sym (inv ∙ rw (pairs_cons ws k h, eq-eqb (bits 15 8 (word_at ws k)) i t))

    pub named_onward : (bits 15 8 (word_at ws k) ≡ i → ⊥) → goal ≡ named_texture i (pairs_of (drop (k + 1) ws))
    unfolding named_texture
    named_onward t = inv ∙ rw (pairs_cons ws k h, ne_eqb (bits 15 8 (word_at ws k)) i t)

  pub named_ended : length ws ≤ k → false ≡ goal
  unfolding named_texture
  named_ended h = sym (inv ∙ rw (pairs_none ws k h))

-- only a sampled texture derives by its name
sampled_alone : (w size : ℕ) (b : Bool) → derive_binding_type (resource_type_of w size) (eqb (type_code w) 2 && b) ≡ derive_binding_type (resource_type_of w size) b
unfolding resource_type_of derive_binding_type derived_texture
sampled_alone w size b =
    by_test (eqb (type_code w) 0) (λ t. rw t refl) λ n0.
    by_test (eqb (type_code w) 1) (λ t. rw (n0, t) refl) λ n1.
    by_test (eqb (type_code w) 2) (λ t. rw (n0, n1, t) refl) λ n2.
    by_test (eqb (type_code w) 3) (λ t. rw (n0, n1, n2, t) refl) λ n3.
    by_test (eqb (type_code w) 4) (λ t. rw (n0, n1, n2, n3, t) refl) λ n4.
    by_test (eqb (type_code w) 5) (λ t. rw (n0, n1, n2, n3, n4, t) refl) (λ n5. rw (n0, n1, n2, n3, n4, n5) refl)

step_sampled : (stage : ShaderStage) (place w size : ℕ) (b : Bool) (L : Layout)
    → derive_step stage (eqb (type_code w) 2 && b) (resource place w size) L ≡ derive_step stage b (resource place w size) L
unfolding derive_step
step_sampled stage place w size b L = rw (sampled_alone w size b)

-- ---- one resource, by its index

pub derive_nth : (rs : List Resource) (stage : ShaderStage) (pairs : List SamplingPair) (i p w size : ℕ) (L M : Layout) (a : Answer) (n : Bool)
    → resource p w size ≡ resource_nth rs i → n ≡ (eqb (type_code w) 2 && named_texture i pairs) → layout_after a M ≡ derive_step stage n (resource p w size) L
    → layout_after a M ≡ derive_step stage (named_texture i pairs) (resource_nth rs i) L
derive_nth rs stage pairs i p w size L M a n k q h =
    rw (← k) (h ∙ (ap (λ b. derive_step stage b (resource p w size) L) q ∙ step_sampled stage p w size (named_texture i pairs) L))

-- ---- one after the other

-- a result behind as many resources that passed
abbrev pub derive_behind : ℕ → DeriveResult → DeriveResult
derive_behind k x = derive_result x.answer (k + x.passed) x.layout

module _ (ws : List ℕ) (stage : ShaderStage) (rs : List Resource) (pairs : List SamplingPair) (k : ℕ) (L : Layout) (goal : DeriveResult)
    (inv : goal ≡ derive_behind k (derive_steps stage rs pairs (contents (drop k ws)) L)) where
  module _ (i : ℕ) (M : Layout) (o : Result Unit Refusal) (h : k < length ws) (q : i ≡ content_of (word_at ws k))
      (e : layout_after (answer_of o) M ≡ derive_step stage (named_texture i pairs) (resource_nth rs i) L) where
    pub derive_refused : (r : Refusal) → o ≡ Err r → derive_result (refusal_answer r) k M ≡ goal
    unfolding derive_steps
    derive_refused r z = let s : k + 0 ≡ k = omega arith in sym (inv ∙ rw (contents_cons ws k h, ← q, ← e, z, number_nonzero r.number, s))

    pub derive_onward : (v : Unit) → o ≡ Ok v → goal ≡ derive_behind (k + 1) (derive_steps stage rs pairs (contents (drop (k + 1) ws)) M)
    unfolding derive_steps
    derive_onward v z = inv ∙ rw (contents_cons ws k h, ← q, ← e, z, one_more k (derive_steps stage rs pairs (contents (drop (k + 1) ws)) M).passed)

  pub derive_done : length ws ≤ k → k ≤ length ws → derive_result accepted (length ws) L ≡ goal
  unfolding derive_steps
  derive_done h l = let s : k + 0 ≡ length ws = omega arith in sym (inv ∙ rw (contents_none ws k h, s))
