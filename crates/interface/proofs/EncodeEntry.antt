-- An entry point that was written is read.
use Rattle.std.proofs.Common.{Option, Some, None}
use Prim.Native.Nat.{ℕ, zero, suc, ◌+◌, ◌*◌, ◌^◌, ◌<◌, ◌≤◌}
use native.Mathlib.Omega.{arith}
use mathlib.Core.Path.{◌≡◌, refl, ap}
use mathlib.Core.Bool.{Bool, true, ◌&&◌}
use mathlib.Core.List.{List, [], ◌∷◌, ◌++◌, append_assoc}
use borrow.Author.Tests.{ltb-true, lt-ltb, leb-true, le-leb}
use lib.Dec.{eqb, leb, ltb}
use lib.ListN.{length}
use Rattle.word.specs.Words.{kind_of, content_of, bits, bit, of_kind, content}
use Rattle.word.specs.Parse.{got, one, several}
use Rattle.word.specs.Lists.{flat, every}
use Rattle.bindings.specs.Format.{flag}
use Rattle.bindings.specs.declared.types.Resource.{Resource}
use Rattle.bindings.specs.declared.types.ResourceType.{ResourceType}
use Rattle.bindings.proofs.CodeLaws.{flag_most}
use Rattle.bindings.proofs.EntryFormat.{flag_read}
use Rattle.varying.specs.Format.{payload_word, payload_encodable}
use Rattle.word.proofs.Truth.{first, second}
use Rattle.word.proofs.Lists.{every_first, every_others}
use Rattle.varying.proofs.Joined.{payload_well_formed_lem, payload_read}
use Rattle.interface.specs.Meaning.{EntryPoint}
use Rattle.interface.specs.Format.{stage_at, stage_code, topology_at, topology_code, read_workgroup, workgroup_words, read_mesh, mesh_words, mesh_flag, head_well_formed, head_word}
use Rattle.interface.specs.Format.{counts_word, index_well_formed, index_words, contents, of_type, pair_good, pair_well_formed, pair_words, pairs_of}
use Rattle.interface.specs.Format.{pack_name, varying_words, entry_point_words, read_entry_point, read_varying, clips}
use Rattle.interface.specs.Encodable.{name_encodable, workgroup_encodable, mesh_encodable, varying_encodable, entry_point_encodable}
use Rattle.interface.specs.declared.types.ShaderStage.{ShaderStage}
use Rattle.interface.specs.declared.types.ShaderStage.TheVariants as Stage
use Rattle.interface.specs.declared.types.PrimitiveTopology.{PrimitiveTopology}
use Rattle.interface.specs.declared.types.PrimitiveTopology.TheVariants as Top
use Rattle.interface.specs.declared.types.SamplingPair.{SamplingPair}
use Rattle.interface.specs.declared.types.WorkgroupSize.{WorkgroupSize}
use Rattle.interface.proofs.EncodeRecords.{words_got, records_got}
use Rattle.interface.proofs.EncodeNames.{name_got}
use Rattle.interface.proofs.EncodeVaryings.{varying_got}
use Rattle.interface.specs.declared.types.EntryPointMeshInfo.{EntryPointMeshInfo}

-- ---- codes, there and back

stage_back : (s : ShaderStage) → stage_at (stage_code s) ≡ s
stage_back Stage.Vertex = refl
stage_back Stage.Fragment = refl
stage_back Stage.Compute = refl
stage_back Stage.Task = refl
stage_back Stage.Mesh = refl

pub stage_below : (s : ShaderStage) → stage_code s < 5
stage_below Stage.Vertex = omega arith
stage_below Stage.Fragment = omega arith
stage_below Stage.Compute = omega arith
stage_below Stage.Task = omega arith
stage_below Stage.Mesh = omega arith

topology_back : (t : PrimitiveTopology) → topology_at (topology_code t) ≡ t
topology_back Top.PointList = refl
topology_back Top.LineList = refl
topology_back Top.LineStrip = refl
topology_back Top.TriangleList = refl
topology_back Top.TriangleStrip = refl

topology_below : (t : PrimitiveTopology) → topology_code t < 5
topology_below Top.PointList = omega arith
topology_below Top.LineList = omega arith
topology_below Top.LineStrip = omega arith
topology_below Top.TriangleList = omega arith
topology_below Top.TriangleStrip = omega arith

-- ---- a word of a kind and a content

pub record Of (kind n w : ℕ) : Type 0 where
  pub is : kind_of w ≡ kind
  pub holds : content_of w ≡ n

pub of_kind_lem : (kind n : ℕ) → content n ≡ true → Of kind n (of_kind kind n)
of_kind_lem kind n h = omega (arith, ltb-true n (2 ^ 27) h)

workgroup_got : (g : WorkgroupSize) (rest : List ℕ) → workgroup_encodable g ≡ true → read_workgroup (workgroup_words g ++ rest) ≡ got g rest
unfolding read_workgroup
workgroup_got g rest h =
    let x : Of 8 g.x (of_kind 8 g.x) = search (of_kind_lem, first) in
    let y : Of 8 g.y (of_kind 8 g.y) = search (of_kind_lem, first, second) in
    let z : Of 8 g.z (of_kind 8 g.z) = search (of_kind_lem, first, second) in
    rw (x.is, y.is, z.is, x.holds, y.holds, z.holds)

mesh_got : (m : Option EntryPointMeshInfo) (rest : List ℕ) → mesh_encodable m ≡ true → read_mesh (eqb (mesh_flag m) 1) (mesh_words m ++ rest) ≡ got m rest
unfolding read_mesh
mesh_got None rest h = refl
mesh_got (Some info) rest h =
    let k : ℕ = topology_code info.primitive_topology in
    let b : k < 5 = topology_below info.primitive_topology in
    let x : Of 10 info.max_vertices (of_kind 10 info.max_vertices) = search (of_kind_lem, first) in
    let y : Of 10 info.max_primitives (of_kind 10 info.max_primitives) = search (of_kind_lem, second) in
    let z : Of 10 k (of_kind 10 k) = of_kind_lem 10 k (lt-ltb k (2 ^ 27) (omega arith)) in
    rw (x.is, y.is, z.is, x.holds, y.holds, z.holds, lt-ltb k 5 b, z.holds, topology_back info.primitive_topology)

-- ---- the indexes and the pairs

pub record Listed {A : Type 0} (test : ℕ → Bool) (back : List ℕ → List A) (all : List A) (words : List ℕ) : Type 0 where
  pub well_formed : every test words ≡ true
  pub again : back words ≡ all
  pub counted : length words ≡ length all

indexes : (n : ℕ) → n ≤ 128 → (is : List ℕ) → every (λ i. ltb i n) is ≡ true → Listed (index_well_formed n) contents is (flat index_words is)
unfolding every contents flat
indexes n few [] h = record { well_formed = refl; again = refl; counted = refl }
indexes n few (i ∷ is) h =
    let b : ltb i n ≡ true = every_first (λ i. ltb i n) i is h in
    let j : i < n = ltb-true i n b in
    let w : Of 5 i (of_kind 5 i) = of_kind_lem 5 i (lt-ltb i (2 ^ 27) (omega arith)) in
    let l : Listed (index_well_formed n) contents is (flat index_words is) = indexes n few is (every_others (λ i. ltb i n) i is h) in
    record { well_formed = rw (w.is, w.holds, b) l.well_formed; again = rw (w.holds, l.again); counted = ap suc l.counted }

pub type_below : (test : ResourceType → Bool) (rs : List Resource) (i : ℕ) → of_type test rs i ≡ true → i < length rs
unfolding of_type
type_below test [] i h = let z : ◌≡◌ {A = ℕ} 0 1 = cc in absurd (omega arith)
type_below test (r ∷ rs) zero h = omega arith
type_below test (r ∷ rs) (suc i) h = omega (arith, type_below test rs i h)

pub record PairWord (p : SamplingPair) (w : ℕ) : Type 0 where
  pub kind : kind_of w ≡ 5
  pub none : bits 26 16 w ≡ 0
  pub texture : bits 15 8 w ≡ p.texture
  pub sampler : bits 7 0 w ≡ p.sampler

module _ (rs : List Resource) (few : length rs ≤ 128) (listed : List ℕ) where
  pair_word : (p : SamplingPair) → pair_good rs listed p ≡ true → PairWord p (of_kind 5 (2 ^ 8 * p.texture + p.sampler))
  pair_word p h =
      let t : p.texture < length rs = search (type_below, first, second) depth 6 in
      let s : p.sampler < length rs = search (type_below, first, second) depth 6 in
      omega arith

  pairs : (ps : List SamplingPair) → every (pair_good rs listed) ps ≡ true → Listed (pair_well_formed rs listed) pairs_of ps (flat pair_words ps)
  unfolding every pairs_of flat
  pairs [] h = record { well_formed = refl; again = refl; counted = refl }
  pairs (p ∷ ps) h =
      let g : pair_good rs listed p ≡ true = every_first (pair_good rs listed) p ps h in
      let w : PairWord p (of_kind 5 (2 ^ 8 * p.texture + p.sampler)) = pair_word p g in
      let l : Listed (pair_well_formed rs listed) pairs_of ps (flat pair_words ps) = pairs ps (every_others (pair_good rs listed) p ps h) in
      record {
        well_formed = rw (w.kind, w.none, w.texture, w.sampler, g) l.well_formed;
        again = rw (w.texture, w.sampler, l.again);
        counted = ap suc l.counted;
      }

-- ---- the first word and the counts

mesh_below : (m : Option EntryPointMeshInfo) → mesh_flag m < 2
mesh_below None = omega arith
mesh_below (Some info) = omega arith

pub record HeadWord (e : EntryPoint) (w : ℕ) : Type 0 where
  pub kind : kind_of w ≡ 7
  pub stage : bits 26 24 w ≡ stage_code e.stage
  pub high : bit 23 w ≡ 0
  pub name : bits 22 16 w ≡ length e.name
  pub low : bits 15 2 w ≡ 0
  pub mesh : bit 1 w ≡ mesh_flag e.mesh
  pub dual : bit 0 w ≡ flag e.dual

head_word_lem : (e : EntryPoint) → length e.name ≤ 64 → HeadWord e (head_word e)
head_word_lem e h = omega (arith, stage_below e.stage, mesh_below e.mesh, flag_most e.dual)

head_well_formed_lem : (e : EntryPoint) → 1 ≤ length e.name → length e.name ≤ 64 → head_well_formed (head_word e) ≡ true
head_well_formed_lem e g h =
    let w : HeadWord e (head_word e) = head_word_lem e h in
    let n : ℕ = length e.name in
    rw (w.kind, w.stage, w.high, w.name, w.low, lt-ltb (stage_code e.stage) 5 (stage_below e.stage), le-leb 1 n g, le-leb n 64 h)

pub record CountsWord (e : EntryPoint) (w : ℕ) : Type 0 where
  pub kind : kind_of w ≡ 15
  pub high : bits 26 24 w ≡ 0
  pub resources : bits 23 18 w ≡ length e.resources
  pub pairs : bits 17 12 w ≡ length e.pairs
  pub inputs : bits 11 6 w ≡ length e.inputs
  pub outputs : bits 5 0 w ≡ length e.outputs

counts_word_lem : (e : EntryPoint) → length e.resources ≤ 63 → length e.pairs ≤ 63 → length e.inputs ≤ 63 → length e.outputs ≤ 63 → CountsWord e (counts_word e)
counts_word_lem e a b c d = omega arith

-- ---- an entry point

index_got : (n : ℕ) (is rest : List ℕ) → Listed (index_well_formed n) contents is (flat index_words is)
    → several (length is) (one (index_well_formed n)) (flat index_words is ++ rest) ≡ got (flat index_words is) rest
index_got n is rest l = rw l.counted at (words_got (index_well_formed n) (flat index_words is) rest l.well_formed)

pair_got : (rs : List Resource) (listed : List ℕ) (ps : List SamplingPair) (rest : List ℕ) → Listed (pair_well_formed rs listed) pairs_of ps (flat pair_words ps)
    → several (length ps) (one (pair_well_formed rs listed)) (flat pair_words ps ++ rest) ≡ got (flat pair_words ps) rest
pair_got rs listed ps rest l = rw l.counted at (words_got (pair_well_formed rs listed) (flat pair_words ps) rest l.well_formed)

-- what the condition says, part by part
pub record EncodableParts (rs : List Resource) (e : EntryPoint) : Type 0 where
  pub name : name_encodable e.name ≡ true
  pub workgroup : workgroup_encodable e.workgroup ≡ true
  pub payload : payload_encodable e.payload ≡ true
  pub mesh : mesh_encodable e.mesh ≡ true
  pub few_resources : leb (length e.resources) 63 ≡ true
  pub few_pairs : leb (length e.pairs) 63 ≡ true
  pub few_inputs : leb (length e.inputs) 63 ≡ true
  pub few_outputs : leb (length e.outputs) 63 ≡ true
  pub resources : every (λ i. ltb i (length rs)) e.resources ≡ true
  pub pairs : every (pair_good rs e.resources) e.pairs ≡ true
  pub inputs : every (varying_encodable 4) e.inputs ≡ true
  pub outputs : every (varying_encodable 5) e.outputs ≡ true
  pub clip : leb (clips e.outputs) 1 ≡ true

pub both_then : {G : Type 0} (a b : Bool) → (a && b) ≡ true → (a ≡ true → b ≡ true → G) → G
both_then a b h f = f (first a b h) (second a b h)

encodable_parts : (rs : List Resource) (e : EntryPoint) → entry_point_encodable rs e ≡ true → EncodableParts rs e
unfolding entry_point_encodable
encodable_parts rs e h =
    both_then _ _ h λ name h.
    both_then _ _ h λ workgroup h.
    both_then _ _ h λ payload h.
    both_then _ _ h λ mesh h.
    both_then _ _ h λ few_resources h.
    both_then _ _ h λ few_pairs h.
    both_then _ _ h λ few_inputs h.
    both_then _ _ h λ few_outputs h.
    both_then _ _ h λ resources h.
    both_then _ _ h λ pairs h.
    both_then _ _ h λ inputs h.
    both_then _ _ h λ outputs clip.
    record {
      name = name;
      workgroup = workgroup;
      payload = payload;
      mesh = mesh;
      few_resources = few_resources;
      few_pairs = few_pairs;
      few_inputs = few_inputs;
      few_outputs = few_outputs;
      resources = resources;
      pairs = pairs;
      inputs = inputs;
      outputs = outputs;
      clip = clip;
    }

-- the words of an entry point's parts, each with all that stands behind it
module _ (e : EntryPoint) (rest : List ℕ) where
  abbrev outputs_on : List ℕ
  outputs_on = flat varying_words e.outputs ++ rest

  abbrev inputs_on : List ℕ
  inputs_on = flat varying_words e.inputs ++ outputs_on

  abbrev pairs_on : List ℕ
  pairs_on = flat pair_words e.pairs ++ inputs_on

  abbrev indexes_on : List ℕ
  indexes_on = flat index_words e.resources ++ pairs_on

  abbrev mesh_on : List ℕ
  mesh_on = mesh_words e.mesh ++ counts_word e ∷ indexes_on

  abbrev workgroup_on : List ℕ
  workgroup_on = workgroup_words e.workgroup ++ payload_word e.payload ∷ mesh_on

  abbrev pub entry_on : List ℕ
  entry_on = head_word e ∷ (pack_name e.name ++ workgroup_on)

  pub laid : entry_point_words e ++ rest ≡ entry_on
  unfolding entry_point_words
  laid = simp append_assoc

module _ (rs : List Resource) (few : length rs ≤ 128) (e : EntryPoint) (rest : List ℕ) where
  module _ (h : EncodableParts rs e) where
    few_bytes : (1 ≤ length e.name) × (length e.name ≤ 64)
    few_bytes =
        both_then _ _ h.name λ a k.
        both_then _ _ k λ b l.
        (leb-true 1 (length e.name) a, leb-true (length e.name) 64 b)

    parts_got : read_entry_point rs (entry_point_words e ++ rest) ≡ got e rest
    unfolding read_entry_point
    parts_got =
        let w : HeadWord e (head_word e) = head_word_lem e few_bytes.1 in
        let c : CountsWord e (counts_word e) = counts_word_lem e (leb-true _ 63 h.few_resources) (leb-true _ 63 h.few_pairs) (leb-true _ 63 h.few_inputs) (leb-true _ 63 h.few_outputs) in
        let i : Listed (index_well_formed (length rs)) contents e.resources (flat index_words e.resources) = indexes (length rs) few e.resources h.resources in
        let p : Listed (pair_well_formed rs e.resources) pairs_of e.pairs (flat pair_words e.pairs) = pairs rs few e.resources e.pairs h.pairs in
        rw (
          laid e rest,
          head_well_formed_lem e few_bytes.0 few_bytes.1,
          w.name,
          name_got e.name (workgroup_on e rest) h.name,
          workgroup_got e.workgroup (payload_word e.payload ∷ mesh_on e rest) h.workgroup,
          payload_well_formed_lem e.payload h.payload,
          w.mesh,
          mesh_got e.mesh (counts_word e ∷ indexes_on e rest) h.mesh,
          c.kind,
          c.high,
          c.resources,
          index_got (length rs) e.resources (pairs_on e rest) i,
          i.again,
          c.pairs,
          pair_got rs e.resources e.pairs (inputs_on e rest) p,
          p.again,
          c.inputs,
          records_got (read_varying 4) varying_words (varying_encodable 4) (λ v rest. varying_got 4 (omega arith) rest v) e.inputs (outputs_on e rest) h.inputs,
          c.outputs,
          records_got (read_varying 5) varying_words (varying_encodable 5) (λ v rest. varying_got 5 (omega arith) rest v) e.outputs rest h.outputs,
          h.clip,
          w.stage,
          stage_back e.stage,
          w.dual,
          flag_read e.dual,
          payload_read e.payload h.payload,
        )

  pub entry_got : entry_point_encodable rs e ≡ true → read_entry_point rs (entry_point_words e ++ rest) ≡ got e rest
  entry_got h = parts_got (encodable_parts rs e h)
