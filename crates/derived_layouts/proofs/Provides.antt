-- The resources of an entry point in provided mode: accepted where a layout serves each and the size list has room.
use Rattle.std.proofs.Common.{Some}
use Prim.Native.Nat.{ℕ, suc, ◌+◌, ◌*◌, ◌≤◌}
use native.Mathlib.Omega.{arith}
use mathlib.Core.Path.{◌≡◌, refl, sym, ◌∙◌, ap}
use mathlib.Core.Bool.{Bool, true, false, not, ◌&&◌}
use mathlib.Core.List.{List, [], ◌∷◌, ◌++◌}
use lib.Dec.{eqb}
use lib.ListN.{length, drop, length-drop}
use borrow.Author.Tests.{eq-eqb, le-leb}
use Rattle.word.specs.Choice.{pick}
use Rattle.word.specs.Answers.{accepted}
use Rattle.word.specs.Lists.{among}
use Rattle.derived_layouts.specs.Reusable.{resource_reusable}
use Rattle.bindings.specs.Format.{type_encodable}
use Rattle.bindings.specs.declared.types.ResourceBinding.{ResourceBinding}
use Rattle.bindings.specs.declared.types.AddressSpace.{AddressSpace}
use Rattle.bindings.specs.declared.types.Resource.{Resource}
use Rattle.bindings.specs.declared.types.ResourceType.{ResourceType}
use Rattle.bindings.specs.declared.types.ResourceType.TheVariants as Res
use Rattle.derived_layouts.proofs.Serves.{derived_accepted}
use Rattle.word.proofs.Truth.{by_test}
use Rattle.layouts.specs.Meaning.{Layout, find_entry, distinct_entries}
use Rattle.sizes.specs.Meaning.{Sizes, size_places, size_has, raise_at, size_record, recorded, size_record_width}
use Rattle.places.specs.Records.{room_for}
use Rattle.sizes.specs.declared.size_record.SizeRecord.{SizeRecord}
use Rattle.sizes.proofs.SizeLaws.{places_raised}
use Rattle.interface.specs.declared.types.ShaderStage.{ShaderStage}
use Rattle.resource_steps.specs.Resources.{resource_nth, SizesAfter, sizes_after, record_size, provided_use, provide_step, provide_steps}
use Rattle.derived_layouts.specs.Theorem.{is_buffer, lacking}
use Rattle.derived_layouts.proofs.Entries.{find_unique}
use Rattle.derived_layouts.proofs.Derives.{HasEntry}

-- ---- one resource against the layout

module _ (stage : ShaderStage) (named : Bool) (r : Resource) (M : Layout) (d : distinct_entries M.entries ≡ true) (p : HasEntry stage named r M) where
  pub placed_found : find_entry r.bind M ≡ Some p.at
  placed_found = let z : 0 + p.at ≡ p.at = omega arith in find_unique r.bind M.entries 0 p.at d p.there p.place ∙ ap Some z

  pub placed_serves : type_encodable r.ty ≡ true → resource_reusable r.ty ≡ true → provided_use stage M r ≡ accepted
  unfolding provided_use
  placed_serves h k = rw (placed_found, p.seen, p.holds, derived_accepted r.ty named p.type h k p.derived)

-- ---- sizes

places_more : (s : SizeRecord) (ss : List SizeRecord) → size_places (ss ++ (s ∷ [])) ≡ size_places ss ++ (s.bind ∷ [])
places_more s [] = refl
places_more s (x ∷ ss) = ap (λ (l : List ResourceBinding). x.bind ∷ l) (places_more s ss)

-- what is lacking depends on the places of the records alone
lacking_places : (resources : List Resource) (is : List ℕ) (a b : List SizeRecord) → size_places a ≡ size_places b → lacking resources is a ≡ lacking resources is b
unfolding lacking
lacking_places resources [] a b e = refl
lacking_places resources (i ∷ is) a b e =
    let s = size_record (resource_nth resources i).bind 1 in
    rw (
      e,
      lacking_places resources is a b e,
      lacking_places resources is (a ++ (s ∷ [])) (b ++ (s ∷ [])) (places_more s a ∙ (ap (λ (l : List ResourceBinding). l ++ (s.bind ∷ [])) e ∙ sym (places_more s b))),
    )

-- a size recorded, with room left for the others
pub record Sized (resources : List Resource) (is : List ℕ) (x : SizesAfter) : Type 0 where
  pub sizes : Sizes
  pub step : x ≡ sizes_after accepted sizes
  pub room : size_record_width * lacking resources is sizes.records ≤ length sizes.room

-- a list with a record raised, and one with a new record
abbrev raised : ResourceBinding → ℕ → Sizes → Sizes
raised bind size S = record { records = raise_at bind size S.records; room = S.room }

abbrev added : ResourceBinding → ℕ → Sizes → Sizes
added bind size S = record { records = S.records ++ (size_record bind size ∷ []); room = drop size_record_width S.room }

module _ (resources : List Resource) (is : List ℕ) (bind : ResourceBinding) (S : Sizes) where
  raises : (size : ℕ) (space : AddressSpace) → size_has bind S.records ≡ true → record_size bind (Res.Buffer size space) S ≡ sizes_after accepted (raised bind size S)
  unfolding record_size recorded
  raises size space t = rw t

  adds : (size : ℕ) (space : AddressSpace) → size_has bind S.records ≡ false → room_for size_record_width S.room ≡ true
      → record_size bind (Res.Buffer size space) S ≡ sizes_after accepted (added bind size S)
  unfolding record_size recorded
  adds size space n f = rw (n, f)

  old_sized : (size : ℕ) (space : AddressSpace) → size_has bind S.records ≡ true → size_record_width * lacking resources is S.records ≤ length S.room
      → Sized resources is (record_size bind (Res.Buffer size space) S)
  old_sized size space t h =
      record {
        sizes = raised bind size S;
        step = raises size space t;
        room = rw (lacking_places resources is (raise_at bind size S.records) S.records (places_raised bind size S.records)) h;
      }

  new_sized : (size : ℕ) (space : AddressSpace) → size_has bind S.records ≡ false
      → size_record_width * suc (lacking resources is (S.records ++ (size_record bind 1 ∷ []))) ≤ length S.room → Sized resources is (record_size bind (Res.Buffer size space) S)
  new_sized size space n h =
      let one = size_record bind 1 in
      let new = size_record bind size in
      let same = lacking_places resources is (S.records ++ (new ∷ [])) (S.records ++ (one ∷ [])) (places_more new S.records ∙ sym (places_more one S.records)) in
      record {
        sizes = added bind size S;
        step = adds size space n (le-leb size_record_width (length S.room) (omega arith));
        room = omega (arith, same, length-drop size_record_width S.room);
      }

  size_step : (ty : ResourceType)
      → size_record_width * pick (is_buffer ty && not (size_has bind S.records)) (suc (lacking resources is (S.records ++ (size_record bind 1 ∷ [])))) (lacking resources is S.records)
      ≤ length S.room
      → Sized resources is (record_size bind ty S)
  unfolding record_size
  size_step (Res.Buffer size space) h =
      by_test (size_has bind S.records) (λ t. old_sized size space t (rw t at h)) (λ n. new_sized size space n (rw n at h))
  size_step (Res.Sampler comparison) h = record { sizes = S; step = refl; room = h }
  size_step (Res.Texture dim arrayed class) h = record { sizes = S; step = refl; room = h }
  size_step (Res.AccelerationStructure returns) h = record { sizes = S; step = refl; room = h }

-- ---- each resource in list order

module _ (stage : ShaderStage) (L : Layout) (resources : List Resource) where
  -- one resource that is served
  provide_step_lem : (r : Resource) (S T : Sizes) → record_size r.bind r.ty S ≡ sizes_after accepted T → provided_use stage L r ≡ accepted
      → provide_step stage L r S ≡ sizes_after accepted T
  unfolding provide_step
  provide_step_lem r S T e u = rw (e, u)

  steps_on : (i : ℕ) (is : List ℕ) (S T : Sizes) → provide_step stage L (resource_nth resources i) S ≡ sizes_after accepted T
      → (provide_steps stage L resources (i ∷ is) S).answer ≡ (provide_steps stage L resources is T).answer
  unfolding provide_steps
  steps_on i is S T e = rw e

  pub provide_steps_lem : (is : List ℕ) (S : Sizes) → ((i : ℕ) → among is i ≡ true → provided_use stage L (resource_nth resources i) ≡ accepted)
      → size_record_width * lacking resources is S.records ≤ length S.room → (provide_steps stage L resources is S).answer ≡ accepted
  unfolding provide_steps lacking among
  provide_steps_lem [] S u h = refl
  provide_steps_lem (i ∷ is) S u h =
      let r = resource_nth resources i in
      let s = size_step resources is r.bind S r.ty h in
      let e = provide_step_lem r S s.sizes s.step (u i (rw (eq-eqb i i refl))) in
      rw (steps_on i is S s.sizes e) (provide_steps_lem is s.sizes (λ j m. u j (by_test (eqb j i) (λ t. rw t) (λ n. rw n m))) s.room)
