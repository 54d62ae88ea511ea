-- What a pack can hold: the ranges of an interface's numbers, and document 01's rules on what it lists.
use Rattle.std.specs.Prelude.{ℕ, Bool, true, ◌&&◌, List, leb, ltb, length, Option, Some, None}
use Rattle.word.specs.Words.{content}
use Rattle.word.specs.Lists.{every}
use Rattle.bindings.specs.Format.{resource_encodable}
use Rattle.bindings.specs.declared.types.Resource.{Resource}
use Rattle.varying.specs.Format.{var_encodable, payload_encodable}
use Rattle.interface.specs.Meaning.{EntryPoint, Interface}
use Rattle.interface.specs.Format.{most_words, most_resources, most_entries, most_bytes, no_zero, pair_good, clips, distinct_names, limit_numbers, encode}
use Rattle.interface.specs.declared.types.BuiltIn.{BuiltIn}
use Rattle.interface.specs.declared.types.BuiltIn.TheVariants as In
use Rattle.interface.specs.declared.types.Varying.{Varying}
use Rattle.interface.specs.declared.types.Varying.TheVariants as Var
use Rattle.interface.specs.declared.types.WorkgroupSize.{WorkgroupSize}
use Rattle.interface.specs.declared.types.EntryPointMeshInfo.{EntryPointMeshInfo}

-- 'name bytes 22–16, 1–64', 'no zero byte inside'
abbrev pub name_encodable : List ℕ → Bool
name_encodable name = leb 1 (length name) && (leb (length name) most_bytes && (no_zero name && every (λ b. ltb b 256) name))

abbrev pub workgroup_encodable : WorkgroupSize → Bool
workgroup_encodable size = content size.x && (content size.y && content size.z)

abbrev pub mesh_encodable : Option EntryPointMeshInfo → Bool
mesh_encodable None = true
mesh_encodable (Some info) = content info.max_vertices && content info.max_primitives

-- '7–0 array size for 4, else inter-stage slots'; 'code 4 stands only among outputs', where the codes are those below 5
abbrev pub built_in_encodable : ℕ → BuiltIn → Bool
built_in_encodable codes (In.Other slots) = ltb slots 256
built_in_encodable codes (In.PrimitiveIndex slots) = ltb slots 256
built_in_encodable codes (In.DrawIndex slots) = ltb slots 256
built_in_encodable codes (In.FragDepth slots) = ltb slots 256
built_in_encodable codes (In.ClipDistances size) = ltb 4 codes && ltb size 256

abbrev pub varying_encodable : ℕ → Varying → Bool
varying_encodable codes (Var.Local location iv) = content location && var_encodable iv
varying_encodable codes (Var.BuiltIn b) = built_in_encodable codes b

-- 'four 6-bit counts'
abbrev pub count : {A : Type 0} → List A → Bool
count all = leb (length all) 63

unfoldable pub entry_point_encodable : List Resource → EntryPoint → Bool
entry_point_encodable resources e =
    name_encodable e.name && (workgroup_encodable e.workgroup && (payload_encodable e.payload && (mesh_encodable e.mesh
    && (count e.resources && (count e.pairs && (count e.inputs && (count e.outputs
    && (every (λ i. ltb i (length resources)) e.resources && (every (pair_good resources e.resources) e.pairs
    && (every (varying_encodable 4) e.inputs && (every (varying_encodable 5) e.outputs && leb (clips e.outputs) 1)))))))))))

-- 'at most 4,096 words', 'resources 0–128', 'entry points 0–16', 'Stage and name together occur once'
unfoldable pub interface_encodable : Interface → Bool
interface_encodable i =
    every content (limit_numbers i.limits) && (leb (length i.resources) most_resources && (leb (length i.entries) most_entries
    && (every resource_encodable i.resources && (every (entry_point_encodable i.resources) i.entries
    && (distinct_names i.entries && leb (length (encode i)) most_words)))))
