-- The pairs of textures and samplers over a layout that serves them with the types that they derive.
use Rattle.std.proofs.Common.{Result, Ok, Err}
use Prim.Native.Nat.{ℕ, zero, suc}
use mathlib.Core.Path.{◌≡◌, refl}
use mathlib.Core.Bool.{Bool, true, false, not, ◌&&◌}
use mathlib.Core.List.{List, [], ◌∷◌}
use lib.Dec.{eqb}
use borrow.Author.Tests.{eq-eqb}
use Rattle.word.specs.Choice.{yes}
use Rattle.word.specs.Answers.{accepted}
use Rattle.word.specs.Lists.{every, among}
use Rattle.bindings.specs.Rules.{derive_binding_type, derived_texture}
use Rattle.bindings.specs.declared.types.SampleKind.TheVariants as Kind
use Rattle.bindings.specs.declared.types.ImageClass.TheVariants as Class
use Rattle.bindings.specs.declared.types.Resource.{Resource}
use Rattle.bindings.specs.declared.types.ResourceType.{ResourceType}
use Rattle.bindings.specs.declared.types.ResourceType.TheVariants as Res
use Rattle.bindings.specs.declared.types.BindingType.{BindingType}
use Rattle.bindings.specs.declared.types.BindingError.{BindingError}
use Rattle.word.proofs.Truth.{first, second, by_test, never}
use Rattle.layouts.specs.Meaning.{Layout, distinct_entries}
use Rattle.word.proofs.Lists.{first_passes, rest_passes}
use Rattle.interface.specs.Format.{is_texture, is_sampler, of_type, pair_good}
use Rattle.interface.specs.declared.types.ShaderStage.{ShaderStage}
use Rattle.interface.specs.declared.types.SamplingPair.{SamplingPair}
use Rattle.resource_steps.specs.Resources.{resource_nth, named_texture, pair_number, type_at, pair_use, pair_uses}
use Rattle.derived_layouts.specs.Theorem.{integer, comparison, pair_reusable, pairs_reusable}
use Rattle.derived_layouts.proofs.Derives.{HasEntry}
use Rattle.derived_layouts.proofs.Provides.{placed_found}

-- ---- one pair

abbrev number_in : Result BindingType BindingError → Result BindingType BindingError → ℕ
number_in (Ok texture) (Ok sampler) = pair_number texture sampler
number_in (Ok texture) (Err e) = 0
number_in (Err e) sampler = 0

number_in_lem : (t s : ResourceType) (n : Bool) → is_texture t ≡ true → is_sampler s ≡ true → not (integer t && not (comparison s)) ≡ true
    → number_in (derive_binding_type t true) (derive_binding_type s n) ≡ 0
unfolding derive_binding_type derived_texture pair_number yes
number_in_lem (Res.Buffer size space) s n h k c = never false h refl
number_in_lem (Res.Sampler comparison) s n h k c = never false h refl
number_in_lem (Res.AccelerationStructure returns) s n h k c = never false h refl
number_in_lem (Res.Texture dim arrayed class) (Res.Buffer size space) n h k c = never false k refl
number_in_lem (Res.Texture dim arrayed class) (Res.Texture d a l) n h k c = never false k refl
number_in_lem (Res.Texture dim arrayed class) (Res.AccelerationStructure returns) n h k c = never false k refl
number_in_lem (Res.Texture dim arrayed (Class.Sampled Kind.Float multi)) (Res.Sampler true) n h k c = refl
number_in_lem (Res.Texture dim arrayed (Class.Sampled Kind.Float multi)) (Res.Sampler false) n h k c = refl
number_in_lem (Res.Texture dim arrayed (Class.Sampled Kind.Sint multi)) (Res.Sampler true) n h k c = refl
number_in_lem (Res.Texture dim arrayed (Class.Sampled Kind.Sint multi)) (Res.Sampler false) n h k c = never false c refl
number_in_lem (Res.Texture dim arrayed (Class.Sampled Kind.Uint multi)) (Res.Sampler true) n h k c = refl
number_in_lem (Res.Texture dim arrayed (Class.Sampled Kind.Uint multi)) (Res.Sampler false) n h k c = never false c refl
number_in_lem (Res.Texture dim arrayed (Class.Depth multi)) (Res.Sampler true) n h k c = refl
number_in_lem (Res.Texture dim arrayed (Class.Depth multi)) (Res.Sampler false) n h k c = refl
number_in_lem (Res.Texture dim arrayed (Class.Storage format access)) (Res.Sampler q) n h k c = never false h refl
number_in_lem (Res.Texture dim arrayed Class.External) (Res.Sampler q) n h k c = refl

of_type_lem : (test : ResourceType → Bool) (resources : List Resource) (i : ℕ) → of_type test resources i ≡ true → test (resource_nth resources i).ty ≡ true
unfolding of_type resource_nth
of_type_lem test [] i h = never false h refl
of_type_lem test (r ∷ rs) zero h = h
of_type_lem test (r ∷ rs) (suc i) h = of_type_lem test rs i h

module _ (stage : ShaderStage) (resources : List Resource) (all : List SamplingPair) (M : Layout) (d : distinct_entries M.entries ≡ true) where
  type_placed : (i : ℕ) (p : HasEntry stage (named_texture i all) (resource_nth resources i) M) → type_at M (resource_nth resources i).bind ≡ p.type
  type_placed i p = rw (placed_found stage (named_texture i all) (resource_nth resources i) M d p) p.holds

  pair_number_lem : (t s : ℕ) (p : HasEntry stage (named_texture t all) (resource_nth resources t) M) (q : HasEntry stage (named_texture s all) (resource_nth resources s) M)
      → named_texture t all ≡ true → of_type is_texture resources t ≡ true → of_type is_sampler resources s ≡ true → pair_reusable resources (record { texture = t; sampler = s }) ≡ true
      → pair_number (type_at M (resource_nth resources t).bind) (type_at M (resource_nth resources s).bind) ≡ 0
  pair_number_lem t s p q n h k c =
      let x = rw n at p.derived in
      rw (type_placed t p, type_placed s q)
      (rw (x, q.derived) at
      (number_in_lem (resource_nth resources t).ty (resource_nth resources s).ty (named_texture s all) (of_type_lem is_texture resources t h) (of_type_lem is_sampler resources s k) c))

  -- ---- each pair in pack order

  module _ (listed : List ℕ) (placed : (i : ℕ) → among listed i ≡ true → HasEntry stage (named_texture i all) (resource_nth resources i) M) where
    pair_use_lem : (p : SamplingPair) → pair_good resources listed p ≡ true → pair_reusable resources p ≡ true → named_texture p.texture all ≡ true
        → pair_use M resources p ≡ accepted
    unfolding pair_use
    pair_use_lem p g k n =
        let mt : among listed p.texture ≡ true = search first in
        let ot : of_type is_texture resources p.texture ≡ true = search (first, second) in
        let ms : among listed p.sampler ≡ true = search (first, second) in
        let os : of_type is_sampler resources p.sampler ≡ true = search (first, second) in
        rw (pair_number_lem p.texture p.sampler (placed p.texture mt) (placed p.sampler ms) n ot os k)

    pair_uses_lem : (ps : List SamplingPair) → every (pair_good resources listed) ps ≡ true → pairs_reusable resources ps ≡ true
        → ((i : ℕ) → named_texture i ps ≡ true → named_texture i all ≡ true) → pair_uses M resources ps ≡ accepted
    unfolding pair_uses every named_texture
    pair_uses_lem [] g k n = refl
    pair_uses_lem (p ∷ ps) g k n =
        let good = pair_good resources listed p in
        let goods = every (pair_good resources listed) ps in
        let kept = pair_reusable resources p in
        let here = n p.texture (rw (eq-eqb p.texture p.texture refl)) in
        rw (pair_use_lem p (first_passes good goods g) (first_passes kept (pairs_reusable resources ps) k) here)
        (pair_uses_lem ps (rest_passes good goods g) (rest_passes kept (pairs_reusable resources ps) k)
        (λ i h. n i (by_test (eqb p.texture i) (λ t. rw t) (λ f. rw f h))))

    pub pairs_accepted : every (pair_good resources listed) all ≡ true → pairs_reusable resources all ≡ true → pair_uses M resources all ≡ accepted
    pairs_accepted g k = pair_uses_lem all g k (λ i h. h)
