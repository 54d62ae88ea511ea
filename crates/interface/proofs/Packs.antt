-- What a pack that decodes gives to the steps behind its check.
use Prim.{tt}
use Prim.Native.Nat.{ℕ, zero, suc, ◌^◌}
use native.Mathlib.Omega.{arith}
use mathlib.Core.Path.{◌≡◌, refl}
use mathlib.Core.Bool.{Bool, true, false, ◌&&◌}
use mathlib.Core.List.{List, [], ◌∷◌}
use borrow.Author.Tests.{lt-ltb, le-leb}
use lib.Dec.{eqb, leb, ltb}
use lib.ListN.{length}
use Rattle.word.specs.Choice.{pick}
use Rattle.word.specs.Words.{bits, bit, content_of}
use Rattle.word.specs.Parse.{Parsed, fault, got, next, one, several}
use Rattle.word.specs.Lists.{every}
use Rattle.bindings.specs.Format.{read_resource, resource_encodable}
use Rattle.bindings.specs.declared.types.Resource.{Resource}
use Rattle.bindings.proofs.ReadLaws.{read_encodable}
use Rattle.word.proofs.Truth.{first, second}
use Rattle.word.proofs.Lists.{every_first, every_others}
use Rattle.word.proofs.Parse.{Yields, yields_next, yields_pick}
use Rattle.varying.specs.Format.{location_well_formed, var_well_formed, payload_well_formed, payload_encodable}
use Rattle.varying.proofs.Joined.{var_encodable_lem, payload_encodable_lem}
use Rattle.interface.specs.Meaning.{EntryPoint, Interface, entry_point_nth}
use Rattle.interface.specs.Format.{read_varying, built_in_well_formed, clips, contents, index_well_formed, pair_good, pair_well_formed, pair_of, pairs_of}
use Rattle.interface.specs.Format.{head_well_formed, read_name, read_workgroup, read_mesh, counts_well_formed, read_entry_point, of_word}
use Rattle.interface.specs.Format.{edition_well_formed, totals_well_formed, distinct_names, read_pack, Pack, body, decode}
use Rattle.interface.specs.Encodable.{count, built_in_encodable, varying_encodable}
use Rattle.interface.specs.declared.types.BuiltIn.TheVariants as In
use Rattle.interface.specs.declared.types.Varying.{Varying}
use Rattle.interface.proofs.ReadsPack.{decoded}
use Rattle.interface.proofs.Passing.{yields_as, yields_known, yields_both, one_yields, several_yields, all_read}

-- ---- indexes and pairs

abbrev pub indexes_below : List Resource → EntryPoint → Bool
indexes_below resources e = every (λ i. ltb i (length resources)) e.resources

abbrev pub pairs_good : List Resource → EntryPoint → Bool
pairs_good resources e = every (pair_good resources e.resources) e.pairs

indexes_below_lem : (n : ℕ) (ws : List ℕ) → every (index_well_formed n) ws ≡ true → every (λ i. ltb i n) (contents ws) ≡ true
unfolding every contents
indexes_below_lem n [] h = refl
indexes_below_lem n (w ∷ ws) h =
    let b : ltb (content_of w) n ≡ true = second (of_word 5 w) (ltb (content_of w) n) (every_first (index_well_formed n) w ws h) in
    rw b (indexes_below_lem n ws (every_others (index_well_formed n) w ws h))

pairs_good_lem : (resources : List Resource) (listed ws : List ℕ) → every (pair_well_formed resources listed) ws ≡ true → every (pair_good resources listed) (pairs_of ws) ≡ true
unfolding every pairs_of
pairs_good_lem resources listed [] h = refl
pairs_good_lem resources listed (w ∷ ws) h =
    let t : pair_well_formed resources listed w ≡ true = every_first (pair_well_formed resources listed) w ws h in
    let g : pair_good resources listed (pair_of w) ≡ true = search second in
    rw g (pairs_good_lem resources listed ws (every_others (pair_well_formed resources listed) w ws h))

-- ---- outputs

built_in_encodable_lem : (n : ℕ) → ltb n 256 ≡ true → (a b c d : Bool)
    → built_in_encodable 5 (pick a (In.Other n) (pick b (In.PrimitiveIndex n) (pick c (In.DrawIndex n) (pick d (In.FragDepth n) (In.ClipDistances n))))) ≡ true
built_in_encodable_lem n h true b c d = h
built_in_encodable_lem n h false true c d = h
built_in_encodable_lem n h false false true d = h
built_in_encodable_lem n h false false false true = h
built_in_encodable_lem n h false false false false = h

abbrev Output : Varying → Type 0
Output v = varying_encodable 5 v ≡ true

output_yields : (ws : List ℕ) → Yields Output (read_varying 5 ws)
unfolding read_varying
output_yields [] = tt
output_yields (w ∷ rest) =
    yields_pick Output (location_well_formed w) _ _
    (yields_known (λ var. var_well_formed var ≡ true) Output (one var_well_formed rest) _ (one_yields var_well_formed rest) λ var rest f.
    rw (lt-ltb (content_of w) (2 ^ 27) (omega arith)) (var_encodable_lem var f))
    (yields_pick Output (built_in_well_formed 5 w) _ _
    (built_in_encodable_lem (bits 7 0 w) (lt-ltb (bits 7 0 w) 256 (omega arith)) (eqb (bits 26 24 w) 0) (eqb (bits 26 24 w) 1) (eqb (bits 26 24 w) 2) (eqb (bits 26 24 w) 3))
    tt)

-- ---- entry points

-- an entry point whose indexes, pairs, outputs and payload are in their ranges
abbrev pub entry_given : List Resource → EntryPoint → Bool
entry_given resources e =
    indexes_below resources e && (pairs_good resources e && (every (varying_encodable 5) e.outputs && (count e.outputs && payload_encodable e.payload)))

-- words that each pass a test
abbrev Each : (ℕ → Bool) → List ℕ → Type 0
Each test ws = every test ws ≡ true

each_then : (P : EntryPoint → Type 0) (test : ℕ → Bool) (n : ℕ) (ws : List ℕ) (k : List ℕ → List ℕ → Parsed EntryPoint)
    → ((all rest : List ℕ) → Each test all → Yields P (k all rest)) → Yields P (next (several n (one test) ws) k)
each_then P test n ws k h = yields_known (Each test) P (several n (one test) ws) k (several_yields test (one test) (one_yields test) n ws) h

abbrev Given : List Resource → EntryPoint → Type 0
Given resources e = entry_given resources e ≡ true

pub record GivenParts (resources : List Resource) (e : EntryPoint) : Type 0 where
  pub below : indexes_below resources e ≡ true
  pub pairs : pairs_good resources e ≡ true
  pub outputs : every (varying_encodable 5) e.outputs ≡ true
  pub few : count e.outputs ≡ true
  pub payload : payload_encodable e.payload ≡ true

given_by : (resources : List Resource) (e : EntryPoint) → GivenParts resources e → Given resources e
given_by resources e g = rw (g.below, g.pairs, g.outputs, g.few, g.payload)

parts_yield : (resources : List Resource) (ws : List ℕ) → Yields (GivenParts resources) (read_entry_point resources ws)
unfolding read_entry_point
parts_yield resources ws =
    yields_next (GivenParts resources) (one head_well_formed ws) _ λ head rest.
    yields_next (GivenParts resources) (read_name (bits 22 16 head) rest) _ λ name rest.
    yields_next (GivenParts resources) (read_workgroup rest) _ λ workgroup rest.
    yields_next (GivenParts resources) (one payload_well_formed rest) _ λ payload rest.
    yields_next (GivenParts resources) (read_mesh (eqb (bit 1 head) 1) rest) _ λ mesh rest.
    yields_next (GivenParts resources) (one counts_well_formed rest) _ λ counts rest.
    each_then (GivenParts resources) (index_well_formed (length resources)) (bits 23 18 counts) rest _ λ indexes rest b.
    each_then (GivenParts resources) (pair_well_formed resources (contents indexes)) (bits 17 12 counts) rest _ λ pairs rest g.
    yields_next (GivenParts resources) (several (bits 11 6 counts) (read_varying 4) rest) _ λ inputs rest.
    yields_known (λ all. (every (varying_encodable 5) all ≡ true) × (length all ≡ bits 5 0 counts)) (GivenParts resources) (several (bits 5 0 counts) (read_varying 5) rest) _
    (yields_both (λ all. every (varying_encodable 5) all ≡ true) (λ all. length all ≡ bits 5 0 counts) (several (bits 5 0 counts) (read_varying 5) rest)
    (several_yields (varying_encodable 5) (read_varying 5) output_yields (bits 5 0 counts) rest) (all_read (bits 5 0 counts) (read_varying 5) rest))
    λ outputs rest h.
    yields_pick (GivenParts resources) (leb (clips outputs) 1) _ _
    (record {
      below = indexes_below_lem (length resources) indexes b;
      pairs = pairs_good_lem resources (contents indexes) pairs g;
      outputs = h.0;
      few = le-leb (length outputs) 63 (omega (arith, h.1));
      payload = payload_encodable_lem payload;
    })
    tt

entry_yields : (resources : List Resource) (ws : List ℕ) → Yields (Given resources) (read_entry_point resources ws)
entry_yields resources ws = yields_as (GivenParts resources) (Given resources) (read_entry_point resources ws) (given_by resources) (parts_yield resources ws)

-- ---- resources

resource_yields : (ws : List ℕ) → Yields (λ r. resource_encodable r ≡ true) (read_resource ws)
resource_yields ws = by (read_resource ws) refl
  where
    by : (x : Parsed Resource) → read_resource ws ≡ x → Yields (λ r. resource_encodable r ≡ true) x
    by fault e = tt
    by (got r rest) e = read_encodable ws r rest e

-- ---- packs

abbrev pub pack_given : Interface → Bool
pack_given i = every resource_encodable i.resources && every (entry_given i.resources) i.entries

abbrev GivenPack : Interface → Type 0
GivenPack i = pack_given i ≡ true

pack_yields : (ws : List ℕ) → Yields GivenPack (read_pack ws)
unfolding read_pack
pack_yields ws =
    yields_next GivenPack (one edition_well_formed ws) _ λ edition rest.
    yields_next GivenPack (one totals_well_formed rest) _ λ totals rest.
    yields_next GivenPack (several 13 (one (of_word 3)) rest) _ λ limits rest.
    yields_known (λ all. every resource_encodable all ≡ true) GivenPack (several (bits 26 16 totals) read_resource rest) _
    (several_yields resource_encodable read_resource resource_yields (bits 26 16 totals) rest) λ resources rest encodable.
    yields_known (λ all. every (entry_given resources) all ≡ true) GivenPack (several (bits 15 0 totals) (read_entry_point resources) rest) _
    (several_yields (entry_given resources) (read_entry_point resources) (entry_yields resources) (bits 15 0 totals) rest)
    λ entries rest good.
    yields_pick GivenPack (distinct_names entries) _ _ (rw (encodable, good)) tt

pub decoded_encodable : (ws : List ℕ) (i : Interface) → decode ws ≡ Pack i → pack_given i ≡ true
decoded_encodable ws i e = rw (decoded ws i e).1 at (pack_yields (body ws))

-- ---- by position: behind the last entry point stands an empty one

nth_given : (resources : List Resource) (es : List EntryPoint) (k : ℕ) → every (entry_given resources) es ≡ true → entry_given resources (entry_point_nth es k) ≡ true
unfolding every entry_point_nth
nth_given resources [] k h = refl
nth_given resources (e ∷ es) zero h = every_first (entry_given resources) e es h
nth_given resources (e ∷ es) (suc k) h = nth_given resources es k (every_others (entry_given resources) e es h)

given_parts : (resources : List Resource) (e : EntryPoint) → entry_given resources e ≡ true → GivenParts resources e
given_parts resources e h = search (first, second) depth 9

module _ (ws : List ℕ) (i : Interface) (d : decode ws ≡ Pack i) where
  pub resources_given : every resource_encodable i.resources ≡ true
  resources_given = first (every resource_encodable i.resources) (every (entry_given i.resources) i.entries) (decoded_encodable ws i d)

  pub entry_given_lem : (k : ℕ) → GivenParts i.resources (entry_point_nth i.entries k)
  entry_given_lem k =
      given_parts i.resources (entry_point_nth i.entries k)
      (nth_given i.resources i.entries k (second (every resource_encodable i.resources) (every (entry_given i.resources) i.entries) (decoded_encodable ws i d)))
