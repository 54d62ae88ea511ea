-- The resources of an entry point in derived mode: whatever the answer, the layout stays good and loses nothing; where they are accepted, every
-- resource's place has an entry of the type that it derives, and the stage sees it.
use Rattle.std.proofs.Common.{Option, Some, None, Result, Ok, Err}
use Prim.Native.Nat.{ℕ, ◌^◌, ◌<◌}
use native.Mathlib.Omega.{arith}
use mathlib.Core.Path.{◌≡◌, refl, sym, ◌∙◌}
use mathlib.Core.Bool.{Bool, true, false}
use mathlib.Core.List.{List, [], ◌∷◌}
use lib.Dec.{eqb, ltb}
use lib.ListN.{length, length-append}
use borrow.Author.Tests.{eqb-true, leb-true, lt-ltb, ne_eqb}
use Rattle.word.specs.Answers.{accepted}
use Rattle.word.specs.declared.answer.Answer.{Answer}
use Rattle.word.specs.Lists.{among}
use Rattle.bindings.specs.Rules.{error_number, same_binding, derive_binding_type}
use Rattle.bindings.specs.Format.{place_encodable, type_encodable, resource_encodable, entry_width}
use Rattle.bindings.specs.Answers.{binding_answer}
use Rattle.bindings.specs.declared.types.Resource.{Resource}
use Rattle.bindings.specs.declared.types.BindingType.{BindingType}
use Rattle.bindings.specs.declared.types.BindingError.{BindingError}
use Rattle.bindings.proofs.DerivedTypes.{error_some}
use Rattle.bindings.proofs.SameBinding.{same_binding_eq}
use Rattle.bindings.proofs.DerivedTypes.{derived_encodable}
use Rattle.word.proofs.Truth.{first, second, by_test, never}
use Rattle.layouts.specs.Meaning.{Layout, find_entry, entry_places, entry_has, entry_nth, pushed, sees_bit, joined, room_for_entry}
use Rattle.places.specs.Places.{same_place}
use Rattle.layouts.specs.Format.{entry_fits, layout_good}
use Rattle.places.proofs.PlaceLaws.{same_place_refl}
use Rattle.places.proofs.PlaceWays.{place_lacks}
use Rattle.layouts.proofs.LayoutLaws.{nth_last, length_join, nth_joined, good_pushed, good_joined}
use Rattle.interface.specs.Format.{stage_code}
use Rattle.interface.specs.declared.types.ShaderStage.{ShaderStage}
use Rattle.interface.specs.declared.types.ShaderStage.TheVariants as Stage
use Rattle.interface.specs.declared.types.SamplingPair.{SamplingPair}
use Rattle.interface.proofs.EncodeEntry.{stage_below}
use Rattle.resource_steps.specs.Resources.{resource_nth, LayoutAfter, layout_after, occupied, vacant, new_entry, place_step, derived_step, derive_step, named_texture}
use Rattle.resource_steps.specs.Resources.{DeriveResult, derive_result, derive_on, derive_steps}
use Rattle.derived_layouts.proofs.Entries.{find_sound}
use Rattle.derived_layouts.proofs.Growth.{join_sets, good_nth, Grows, grows_refl, grows_trans, grows_pushed, grows_joined}

-- ---- a stage's bit

bit_short : (s : ShaderStage) → 2 ^ stage_code s < 32
bit_short Stage.Vertex = omega arith
bit_short Stage.Fragment = omega arith
bit_short Stage.Compute = omega arith
bit_short Stage.Task = omega arith
bit_short Stage.Mesh = omega arith

bit_seen : (s : ShaderStage) → sees_bit (stage_code s) (2 ^ stage_code s) ≡ true
bit_seen Stage.Vertex = refl
bit_seen Stage.Fragment = refl
bit_seen Stage.Compute = refl
bit_seen Stage.Task = refl
bit_seen Stage.Mesh = refl

-- ---- a resource that a layout serves

pub record HasEntry (stage : ShaderStage) (named : Bool) (r : Resource) (M : Layout) : Type 0 where
  pub type : BindingType
  pub derived : derive_binding_type r.ty named ≡ Ok type
  pub at : ℕ
  pub there : at < length M.entries
  pub place : same_place (entry_nth M.entries at).bind r.bind ≡ true
  pub holds : (entry_nth M.entries at).ty ≡ type
  pub seen : sees_bit (stage_code stage) (entry_nth M.entries at).visibility ≡ true

pub has_entry_grows : (stage : ShaderStage) (named : Bool) (r : Resource) (L M : Layout) → Grows L M → HasEntry stage named r L → HasEntry stage named r M
has_entry_grows stage named r L M g p =
    let s = g p.at p.there in
    record {
      type = p.type;
      derived = p.derived;
      at = p.at;
      there = s.there;
      place = rw s.place p.place;
      holds = s.type ∙ p.holds;
      seen = s.seen (stage_code stage) (stage_below stage) p.seen;
    }

-- ---- one resource

-- what a step over a layout comes to
pub record Stepped (stage : ShaderStage) (named : Bool) (r : Resource) (L : Layout) (x : LayoutAfter) : Type 0 where
  pub good : layout_good x.layout ≡ true
  pub grows : Grows L x.layout
  pub placed : eqb x.answer.number 0 ≡ true → HasEntry stage named r x.layout

module _ (stage : ShaderStage) (named : Bool) (r : Resource) (L : Layout) (g : layout_good L ≡ true) where
  refuses : (a : Answer) → eqb a.number 0 ≡ false → Stepped stage named r L (layout_after a L)
  refuses a f = record { good = g; grows = grows_refl L; placed = λ t. never (eqb a.number 0) t f }

  module _ (ty : BindingType) (e : derive_binding_type r.ty named ≡ Ok ty) (h : resource_encodable r ≡ true) where
    below : (i : ℕ) → find_entry r.bind L ≡ Some i → i < length L.entries
    below i q = let f = find_sound r.bind L.entries 0 i q in omega (arith, f.sum, f.there)

    lacks : find_entry r.bind L ≡ None → entry_has r.bind L.entries ≡ false
    lacks q = sym (place_lacks r.bind (entry_places L.entries) (find_entry r.bind L) refl q)

    joins : (i : ℕ) → find_entry r.bind L ≡ Some i → same_binding ty (entry_nth L.entries i).ty ≡ true → HasEntry stage named r (joined (stage_code stage) L i)
    unfolding joined
    joins i q t =
        let f = find_sound r.bind L.entries 0 i q in
        let at : i ≡ f.at = omega (arith, f.sum) in
        let there = below i q in
        let fit = good_nth L i g there in
        let same = nth_joined (stage_code stage) L.entries i there in
        let encodable = derived_encodable r.ty named ty (second (place_encodable r.bind) (type_encodable r.ty) h) e in
        record {
          type = ty;
          derived = e;
          at = i;
          there = omega (arith, length_join (stage_code stage) L.entries i);
          place = rw (same, at) f.same;
          holds = rw same (sym (same_binding_eq ty (entry_nth L.entries i).ty t));
          seen = rw same (join_sets (stage_code stage) (entry_nth L.entries i).visibility (stage_below stage) fit.visibility);
        }

    pushes : HasEntry stage named r (pushed L (new_entry stage r.bind ty))
    unfolding pushed
    pushes =
        let last = nth_last L.entries (new_entry stage r.bind ty) in
        record {
          type = ty;
          derived = e;
          at = length L.entries;
          there = omega (arith, length-append L.entries (new_entry stage r.bind ty ∷ []));
          place = rw last (same_place_refl r.bind);
          holds = rw last;
          seen = rw last (bit_seen stage);
        }

    new_fits : ltb r.bind.group L.groups ≡ true → entry_fits L.groups (new_entry stage r.bind ty) ≡ true
    new_fits t =
        let p : place_encodable r.bind ≡ true = search first in
        rw (p, derived_encodable r.ty named ty (second (place_encodable r.bind) (type_encodable r.ty) h) e, lt-ltb (2 ^ stage_code stage) 32 (bit_short stage), t)

    place_step_lem : ltb r.bind.group L.groups ≡ true → (f : Option ℕ) → find_entry r.bind L ≡ f → Stepped stage named r L (place_step stage r.bind ty f L)
    unfolding occupied vacant
    place_step_lem l (Some i) q =
        by_test (same_binding ty (entry_nth L.entries i).ty)
        (λ t.
        rw t
        (record {
          good = good_joined L g (stage_code stage) i (omega (arith, stage_below stage)) (below i q);
          grows = grows_joined L (stage_code stage) i g (stage_below stage);
          placed = λ z. joins i q t;
        }))
        (λ n. rw n (refuses (binding_answer 29 r.bind) refl))
    place_step_lem l None q =
        by_test (room_for_entry L)
        (λ t.
        rw t
        (record {
          good = good_pushed L g (new_entry stage r.bind ty) (new_fits l) (lacks q) (leb-true entry_width (length L.room) t);
          grows = grows_pushed L (new_entry stage r.bind ty);
          placed = λ z. pushes;
        }))
        (λ n. rw n (refuses (binding_answer 5 r.bind) refl))

  derived_step_lem : resource_encodable r ≡ true → ltb r.bind.group L.groups ≡ true → (d : Result BindingType BindingError) → derive_binding_type r.ty named ≡ d
      → Stepped stage named r L (derived_step stage r.bind d L)
  derived_step_lem h l (Ok ty) e = place_step_lem ty e h l (find_entry r.bind L) refl
  derived_step_lem h l (Err error) e =
      let n : eqb (error_number error) 0 ≡ false = ne_eqb (error_number error) 0 (error_some error) in
      refuses (binding_answer (error_number error) r.bind) (rw n n)

  pub derive_step_lem : resource_encodable r ≡ true → Stepped stage named r L (derive_step stage named r L)
  unfolding derive_step
  derive_step_lem h =
      by_test (ltb r.bind.group L.groups)
      (λ t. rw t (derived_step_lem h t (derive_binding_type r.ty named) refl))
      (λ n. rw n (refuses (binding_answer 20 r.bind) refl))

-- ---- each resource in list order

-- what the steps over a list of resources come to
pub record Folded (stage : ShaderStage) (resources : List Resource) (pairs : List SamplingPair) (is : List ℕ) (L : Layout) (x : DeriveResult) : Type 0 where
  pub good : layout_good x.layout ≡ true
  pub grows : Grows L x.layout
  pub placed : eqb x.answer.number 0 ≡ true → (i : ℕ) → among is i ≡ true → HasEntry stage (named_texture i pairs) (resource_nth resources i) x.layout

module _ (stage : ShaderStage) (resources : List Resource) (pairs : List SamplingPair) where
  fold_none : (L : Layout) (a : Answer) → layout_good L ≡ true → Folded stage resources pairs [] L (derive_result a 0 L)
  unfolding among
  fold_none L a g = record { good = g; grows = grows_refl L; placed = λ z i m. never false m refl }

  -- a step, and the others where it was accepted
  fold_cons : (i : ℕ) (is : List ℕ) (L : Layout) (x : LayoutAfter) (k : Layout → DeriveResult) → Stepped stage (named_texture i pairs) (resource_nth resources i) L x
      → Folded stage resources pairs is x.layout (k x.layout) → Folded stage resources pairs (i ∷ is) L (derive_on x k)
  unfolding among
  fold_cons i is L x k s rest =
      let y = k x.layout in
      by_test (eqb x.answer.number 0)
      (λ t.
      rw t
      (record {
        good = rest.good;
        grows = grows_trans L x.layout y.layout s.grows rest.grows;
        placed = λ z j m.
            by_test (eqb j i)
            (λ p.
            rw (eqb-true j i p)
            (has_entry_grows stage (named_texture i pairs) (resource_nth resources i) x.layout y.layout rest.grows (s.placed t)))
            (λ p. rest.placed z j (rw p at m));
      }))
      (λ n. rw n (record { good = s.good; grows = s.grows; placed = λ z. never (eqb x.answer.number 0) z n }))

  pub derive_steps_lem : ((i : ℕ) → resource_encodable (resource_nth resources i) ≡ true) → (is : List ℕ) (L : Layout) → layout_good L ≡ true
      → Folded stage resources pairs is L (derive_steps stage resources pairs is L)
  unfolding derive_steps
  derive_steps_lem encodable [] L g = fold_none L accepted g
  derive_steps_lem encodable (i ∷ is) L g =
      let x = derive_step stage (named_texture i pairs) (resource_nth resources i) L in
      let s = derive_step_lem stage (named_texture i pairs) (resource_nth resources i) L g (encodable i) in
      fold_cons i is L x (λ L. derive_steps stage resources pairs is L) s (derive_steps_lem encodable is x.layout s.good)
