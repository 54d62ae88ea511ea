-- What an accepted pack gives to the steps behind its check.
use Prim.Native.Nat.{ℕ}
use native.Mathlib.Omega.{arith}
use mathlib.Core.Path.{◌≡◌, refl}
use mathlib.Core.Bool.{true}
use mathlib.Core.List.{List}
use borrow.Author.Tests.{lt-ltb}
use lib.ListN.{length}
use Rattle.word.specs.Lists.{every}
use Rattle.bindings.specs.Format.{resource_encodable}
use Rattle.bindings.specs.declared.types.Resource.{Resource}
use Rattle.word.proofs.Truth.{first, second}
use Rattle.word.proofs.Lists.{every_as}
use Rattle.interface.specs.Meaning.{EntryPoint, Interface, entry_point_nth}
use Rattle.interface.specs.Format.{Decoded, Damaged, Malformed, Pack, decode, decoded_number, is_texture, is_sampler, of_type, pair_good, interface_of}
use Rattle.interface.specs.Encodable.{varying_encodable}
use Rattle.interface.specs.declared.types.SamplingPair.{SamplingPair}
use Rattle.interface.specs.declared.types.Varying.{Varying}
use Rattle.interface.specs.declared.types.Varying.TheVariants as Var
use Rattle.interface.proofs.EncodeEntry.{type_below}
use Rattle.interface.proofs.Packs.{GivenParts, resources_given, entry_given_lem}
use Rattle.output_steps.specs.Inner.ListOut.{output_encodable}
use Rattle.resource_steps.specs.Inner.Given.{each_encodable, each_below, pair_below, pairs_below}
use Rattle.resource_steps.specs.Resources.{resource_nth}
use Rattle.resource_steps.proofs.ResourceParts.{listed_encodable}

pair_in : (resources : List Resource) (listed : List ℕ) (p : SamplingPair) → pair_good resources listed p ≡ true → pair_below (length resources) p ≡ true
pair_in resources listed p h =
    let t : of_type is_texture resources p.texture ≡ true = search (first, second) in
    let s : of_type is_sampler resources p.sampler ≡ true = search (first, second) in
    rw (
      lt-ltb p.texture (length resources) (type_below is_texture resources p.texture t),
      lt-ltb p.sampler (length resources) (type_below is_sampler resources p.sampler s),
    )

encodable_output : (v : Varying) → varying_encodable 5 v ≡ true → output_encodable v ≡ true
encodable_output (Var.Local location iv) h = h
encodable_output (Var.BuiltIn b) h = refl

-- ---- a pack that decodes

module _ (ws : List ℕ) (i : Interface) (d : decode ws ≡ Pack i) where
  all_encodable : each_encodable i.resources ≡ true
  all_encodable = resources_given ws i d

  pub resource_encodable_lem : (k : ℕ) → resource_encodable (resource_nth i.resources k) ≡ true
  resource_encodable_lem k = listed_encodable i.resources k all_encodable

  pub entry_pairs : (k : ℕ) → every (pair_good i.resources (entry_point_nth i.entries k).resources) (entry_point_nth i.entries k).pairs ≡ true
  entry_pairs k = (entry_given_lem ws i d k).pairs

-- ---- an accepted pack

pack_of : (d : Decoded) → decoded_number d ≡ 0 → d ≡ Pack (interface_of d)
pack_of Damaged z = absurd (omega arith)
pack_of Malformed z = absurd (omega arith)
pack_of (Pack i) z = refl

module _ (ws : List ℕ) (z : decoded_number (decode ws) ≡ 0) where
  abbrev i : Interface
  i = interface_of (decode ws)

  pub given_encodable : each_encodable i.resources ≡ true
  given_encodable = all_encodable ws i (pack_of (decode ws) z)

  module _ (k : ℕ) where
    abbrev e : EntryPoint
    e = entry_point_nth i.entries k

    parts : GivenParts i.resources e
    parts = entry_given_lem ws i (pack_of (decode ws) z) k

    pub given_below : each_below (length i.resources) e.resources ≡ true
    given_below = parts.below

    pub given_pairs : pairs_below (length i.resources) e.pairs ≡ true
    given_pairs =
        every_as (pair_good i.resources e.resources) (pair_below (length i.resources)) (pair_in i.resources e.resources) e.pairs parts.pairs

    pub given_outputs : every output_encodable e.outputs ≡ true
    given_outputs = every_as (varying_encodable 5) output_encodable encodable_output e.outputs parts.outputs
