-- What demand 3 asks of a pack, at each resource and entry point.
use Prim.Native.Nat.{ℕ, zero, suc}
use mathlib.Core.Path.{◌≡◌, refl}
use mathlib.Core.Bool.{true}
use mathlib.Core.List.{List, [], ◌∷◌}
use Rattle.derived_layouts.specs.Reusable.{resource_reusable}
use Rattle.bindings.specs.declared.types.Resource.{Resource}
use Rattle.word.proofs.Truth.{first, second}
use Rattle.word.proofs.Lists.{first_passes, rest_passes}
use Rattle.interface.specs.Meaning.{EntryPoint, Interface, entry_point_nth}
use Rattle.resource_steps.specs.Resources.{resource_nth}
use Rattle.derived_layouts.specs.Theorem.{pairs_reusable, entry_points_reusable, resources_reusable, pack_reusable}
use Rattle.word.specs.Lists.{every}

nth_reusable : (resources : List Resource) (i : ℕ) → resources_reusable resources ≡ true → resource_reusable (resource_nth resources i).ty ≡ true
unfolding every resource_nth resource_reusable
nth_reusable [] i h = refl
nth_reusable (r ∷ rs) zero h = first_passes (resource_reusable r.ty) (resources_reusable rs) h
nth_reusable (r ∷ rs) (suc i) h = nth_reusable rs i (rest_passes (resource_reusable r.ty) (resources_reusable rs) h)

nth_pairs_reusable : (resources : List Resource) (es : List EntryPoint) (k : ℕ) → entry_points_reusable resources es ≡ true → pairs_reusable resources (entry_point_nth es k).pairs ≡ true
unfolding every entry_point_nth
nth_pairs_reusable resources [] k h = refl
nth_pairs_reusable resources (e ∷ es) zero h = first_passes (pairs_reusable resources e.pairs) (entry_points_reusable resources es) h
nth_pairs_reusable resources (e ∷ es) (suc k) h = nth_pairs_reusable resources es k (rest_passes (pairs_reusable resources e.pairs) (entry_points_reusable resources es) h)

module _ (i : Interface) (h : pack_reusable i ≡ true) where
  pub resource_reusable_lem : (k : ℕ) → resource_reusable (resource_nth i.resources k).ty ≡ true
  resource_reusable_lem k = nth_reusable i.resources k (first (resources_reusable i.resources) (entry_points_reusable i.resources i.entries) h)

  pub pairs_reusable_lem : (k : ℕ) → pairs_reusable i.resources (entry_point_nth i.entries k).pairs ≡ true
  pairs_reusable_lem k = nth_pairs_reusable i.resources i.entries k (second (resources_reusable i.resources) (entry_points_reusable i.resources i.entries) h)
