-- What the steps over resources and pairs are given: the resources by a table of their positions, and indexes that stand in it.
use Rattle.std.specs.Prelude.{ℕ, ◌+◌, ◌<◌, ◌≤◌, ◌≡◌, Bool, ◌&&◌, List, ltb, length, take}
use Rattle.word.specs.Words.{word_at}
use Rattle.word.specs.Lists.{every}
use Rattle.bindings.specs.Format.{resource_encodable, binding_type_of, resource_width}
use Rattle.bindings.specs.declared.types.Resource.{Resource}
use Rattle.bindings.specs.declared.types.BindingType.{BindingType}
use Rattle.interface.specs.Inner.Reads.{resources_at}
use Rattle.interface.specs.Inner.Parts.{resource_count}
use Rattle.interface.specs.declared.types.SamplingPair.{SamplingPair}

-- the resources of a pack, each at its position in a table of as many
unfoldable pub resource_table : List ℕ → List ℕ → List Resource
resource_table ws offsets = resources_at ws (take (resource_count ws) offsets)

-- the words of a resource with a size stand from each position of such a table on
pub record Inside (ws offsets : List ℕ) : Type 0 where
  pub words : (k : ℕ) → k < length (resource_table ws offsets) → word_at offsets k + resource_width ≤ length ws

-- each is one that a pack can hold
abbrev pub each_encodable : List Resource → Bool
each_encodable rs = every resource_encodable rs

-- each index is below the number of resources
abbrev pub each_below : ℕ → List ℕ → Bool
each_below count is = every (λ i. ltb i count) is

-- and so are both indexes of each pair
abbrev pub pair_below : ℕ → SamplingPair → Bool
pair_below count p = ltb p.texture count && ltb p.sampler count

abbrev pub pairs_below : ℕ → List SamplingPair → Bool
pairs_below count ps = every (pair_below count) ps

-- a type is the one that a word means, with whatever least size
abbrev pub WordMeans : ℕ → BindingType → Type 0
WordMeans w ty = (least : ℕ) × (ty ≡ binding_type_of w least)
