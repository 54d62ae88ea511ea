-- What stands at positions of a pack, read without asking whether it is well formed: what the functions behind the check of a pack read.
use Rattle.std.specs.Prelude.{ℕ, zero, suc, ◌+◌, List, [], ◌∷◌, eqb, take, drop, Option, None}
use Rattle.word.specs.Choice.{pick}
use Rattle.word.specs.Words.{word_at, content_of, bits, bit}
use Rattle.bindings.specs.Format.{resource_at}
use Rattle.bindings.specs.declared.types.Resource.{Resource}
use Rattle.varying.specs.Format.{location_well_formed, payload_of}
use Rattle.interface.specs.Meaning.{EntryPoint}
use Rattle.interface.specs.Format.{local, built_in_of, bytes_of, name_words, stage_at, mesh_info, contents, pairs_of}
use Rattle.interface.specs.declared.types.Varying.{Varying}
use Rattle.interface.specs.declared.types.Varying.TheVariants as Var
use Rattle.interface.specs.declared.types.EntryParts.{EntryParts}
use Rattle.interface.specs.declared.types.EntryPointMeshInfo.{EntryPointMeshInfo}

-- ---- varyings: two words for a local one, one for a built-in

abbrev pub varying : List ℕ → Varying
varying ws = pick (location_well_formed (word_at ws 0)) (local (word_at ws 0) (word_at ws 1)) (Var.BuiltIn (built_in_of (word_at ws 0)))

abbrev pub varying_width : List ℕ → ℕ
varying_width ws = pick (location_well_formed (word_at ws 0)) 2 1

unfoldable pub varyings : ℕ → List ℕ → List Varying
varyings zero ws = []
varyings (suc n) ws = let rest = varyings n (drop (varying_width ws) ws) in varying ws ∷ rest

-- ---- entry points

abbrev pub name_at : List ℕ → ℕ → List ℕ
name_at ws head = take (bits 22 16 (word_at ws head)) (bytes_of (take (name_words (bits 22 16 (word_at ws head))) (drop (head + 1) ws)))

abbrev pub mesh_at : List ℕ → ℕ → ℕ → Option EntryPointMeshInfo
mesh_at ws head at = pick (eqb (bit 1 (word_at ws head)) 1) (mesh_info (word_at ws at) (word_at ws (at + 1)) (word_at ws (at + 2))) None

-- the entry point whose parts stand at these positions
unfoldable pub standing : List ℕ → EntryParts → EntryPoint
standing ws p =
    record {
      stage = stage_at (bits 26 24 (word_at ws p.head));
      name = name_at ws p.head;
      dual = eqb (bit 0 (word_at ws p.head)) 1;
      workgroup = record { x = content_of (word_at ws p.workgroup); y = content_of (word_at ws (p.workgroup + 1)); z = content_of (word_at ws (p.workgroup + 2)) };
      payload = payload_of (word_at ws (p.workgroup + 3));
      mesh = mesh_at ws p.head (p.workgroup + 4);
      resources = contents (take (bits 23 18 (word_at ws p.counts)) (drop p.resources ws));
      pairs = pairs_of (take (bits 17 12 (word_at ws p.counts)) (drop p.pairs ws));
      inputs = varyings (bits 11 6 (word_at ws p.counts)) (drop p.inputs ws);
      outputs = varyings (bits 5 0 (word_at ws p.counts)) (drop p.outputs ws);
    }

-- ---- packs

-- the resources at a list of positions
unfoldable pub resources_at : List ℕ → List ℕ → List Resource
resources_at ws [] = []
resources_at ws (at ∷ others) = resource_at ws at ∷ resources_at ws others
