-- An entry point that was read is the one whose parts stand at the positions that its words give.
use Rattle.std.proofs.Common.{Option, None}
use Prim.Native.Nat.{ℕ, ◌+◌}
use native.Mathlib.Omega.{arith}
use native.Mathlib.Nat.{add-zero}
use mathlib.Core.Path.{◌≡◌}
use mathlib.Core.Bool.{Bool, true, false}
use mathlib.Core.List.{List}
use lib.Dec.{leb}
use lib.ListN.{length, take, drop}
use Rattle.word.specs.Choice.{pick}
use Rattle.word.specs.Words.{word_at, content_of}
use Rattle.word.specs.Parse.{got, one, several}
use Rattle.word.proofs.ParseReads.{Stands, next_reads, picked, one_reads, several_words, three_words}
use Rattle.bindings.specs.declared.types.Resource.{Resource}
use Rattle.varying.specs.Format.{payload_well_formed}
use Rattle.interface.specs.Meaning.{EntryPoint}
use Rattle.interface.specs.Format.{read_varying, read_name, read_workgroup, read_mesh, read_entry_point, bytes_of, name_words, name_well_formed, of_word, topology_well_formed, head_well_formed, counts_well_formed, index_well_formed, mesh_info, clips}
use Rattle.interface.specs.Inner.Reads.{varying, varyings, standing}
use Rattle.interface.specs.Inner.Parts.{varying_end, varyings_end, parts_at, entry_end, entry_point_at}
use Rattle.interface.specs.declared.types.Varying.{Varying}
use Rattle.interface.specs.declared.types.WorkgroupSize.{WorkgroupSize}
use Rattle.interface.proofs.ReadsRecords.{ReadsAt, several_records}
use Rattle.interface.proofs.ReadsVaryings.{varying_stands, varyings_from}
use Rattle.interface.specs.declared.types.EntryPointMeshInfo.{EntryPointMeshInfo}

abbrev workgroup_of : List ℕ → ℕ → WorkgroupSize
workgroup_of P at = record { x = content_of (word_at P at); y = content_of (word_at P (at + 1)); z = content_of (word_at P (at + 2)) }

module _ (P t : List ℕ) (at : ℕ) (ws : List ℕ) (s : Stands P t at ws) where
  name_reads : (n : ℕ) (name rest : List ℕ) → read_name n ws ≡ got name rest
      → (name ≡ take n (bytes_of (take (name_words n) (drop at P)))) × Stands P t (at + name_words n) rest
  unfolding read_name
  name_reads n name rest e =
      next_reads P t (several (name_words n) (one (λ w. true)) ws) _ name rest _ _ e (several_words P t at (name_words n) (λ w. true) ws s) λ r s₁ g.
      let bytes = bytes_of (take (name_words n) (drop at P)) in
      let (f, h) = picked (name_well_formed n bytes) (got (take n bytes) r) name rest g in
      let wr : r ≡ rest = cc in
      (cc, rw (← wr) s₁)

  workgroup_reads : (g : WorkgroupSize) (rest : List ℕ) → read_workgroup ws ≡ got g rest → (g ≡ workgroup_of P at) × Stands P t (at + 3) rest
  unfolding read_workgroup
  workgroup_reads g rest e =
      three_words P t at (of_word 8) (of_word 8) (of_word 8) (λ x y z. record { x = content_of x; y = content_of y; z = content_of z }) ws s g rest e

  mesh_reads : (marked : Bool) (mesh : Option EntryPointMeshInfo) (rest : List ℕ) → read_mesh marked ws ≡ got mesh rest
      → (mesh ≡ pick marked (mesh_info (word_at P at) (word_at P (at + 1)) (word_at P (at + 2))) None) × Stands P t (at + pick marked 3 0) rest
  unfolding read_mesh
  mesh_reads false mesh rest e = let wr : ws ≡ rest = cc in (cc, rw (add-zero at, ← wr) s)
  mesh_reads true mesh rest e = three_words P t at (of_word 10) (of_word 10) topology_well_formed mesh_info ws s mesh rest e

  varyings_read : (codes n : ℕ) (vs : List Varying) (rest : List ℕ) → several n (read_varying codes) ws ≡ got vs rest
      → (vs ≡ varyings n (drop at P)) × Stands P t (varyings_end P n at) rest
  varyings_read codes n vs rest e =
      rw (← varyings_from P n at) (several_records P t (read_varying codes) (λ at. varying (drop at P)) (varying_end P) (varying_stands P t codes) n at ws s vs rest e)

-- behind the three words of the workgroup's size
payload_reads : (P t : List ℕ) (at : ℕ) (ws : List ℕ) → Stands P t (at + 3) ws → (w : ℕ) (rest : List ℕ) → one payload_well_formed ws ≡ got w rest
    → (w ≡ word_at P (at + 3)) × Stands P t (at + 4) rest
payload_reads P t at ws s w rest e = let m : at + 3 + 1 ≡ at + 4 = omega arith in rw m at (one_reads P t (at + 3) payload_well_formed ws s w rest e)

-- what an entry point's words give, part by part
pub entry_stands : (P t : List ℕ) (resources : List Resource) → ReadsAt P t (read_entry_point resources) (entry_point_at P) (entry_end P)
unfolding read_entry_point standing parts_at entry_end
entry_stands P t resources = record { reads = λ at ws s e rest. parts at ws s e rest }
  where
    parts : (at : ℕ) (ws : List ℕ) → Stands P t at ws → (e : EntryPoint) (rest : List ℕ) → read_entry_point resources ws ≡ got e rest
        → (e ≡ entry_point_at P at) × Stands P t (entry_end P at) rest
    parts at ws s e rest g =
        next_reads P t (one head_well_formed ws) _ e rest _ _ g (one_reads P t at head_well_formed ws s) λ r₁ s₁ g₁.
        next_reads P t _ _ e rest _ _ g₁ (name_reads P t _ r₁ s₁ _) λ r₂ s₂ g₂.
        next_reads P t _ _ e rest _ _ g₂ (workgroup_reads P t _ r₂ s₂) λ r₃ s₃ g₃.
        next_reads P t _ _ e rest _ _ g₃ (payload_reads P t _ r₃ s₃) λ r₄ s₄ g₄.
        next_reads P t _ _ e rest _ _ g₄ (mesh_reads P t _ r₄ s₄ _) λ r₅ s₅ g₅.
        next_reads P t _ _ e rest _ _ g₅ (one_reads P t _ counts_well_formed r₅ s₅) λ r₆ s₆ g₆.
        next_reads P t _ _ e rest _ _ g₆ (several_words P t _ _ (index_well_formed (length resources)) r₆ s₆) λ r₇ s₇ g₇.
        next_reads P t _ _ e rest _ _ g₇ (several_words P t _ _ _ r₇ s₇) λ r₈ s₈ g₈.
        next_reads P t _ _ e rest _ _ g₈ (varyings_read P t _ r₈ s₈ 4 _) λ r₉ s₉ g₉.
        next_reads P t _ _ e rest _ _ g₉ (varyings_read P t _ r₉ s₉ 5 _) λ r₀ s₀ g₀.
        let (f, h) = picked (leb (clips (entry_point_at P at).outputs) 1) (got (entry_point_at P at) r₀) e rest g₀ in
        let wr : r₀ ≡ rest = cc in
        (cc, rw (← wr) s₀)
