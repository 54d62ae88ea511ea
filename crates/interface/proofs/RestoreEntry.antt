-- An entry point that was read, written again, is what stood there.
use Rattle.std.proofs.Common.{Option, None}
use Prim.Native.Nat.{ℕ, ◌+◌, ◌*◌, ◌^◌, ◌<◌}
use native.Mathlib.Omega.{arith}
use mathlib.Core.Path.{◌≡◌, refl, sym, ◌∙◌}
use mathlib.Core.Bool.{Bool, true, false}
use mathlib.Core.List.{List, [], ◌∷◌, ◌++◌, map}
use borrow.Author.Tests.{eqb-true, ltb-true}
use lib.Dec.{eqb, leb, ltb}
use lib.ListN.{length}
use Rattle.word.specs.Choice.{yes}
use Rattle.word.specs.Words.{kind_of, content_of, bits, bit, of_kind, is_word}
use Rattle.word.specs.Parse.{got}
use Rattle.word.proofs.Truth.{first, second, codes_back}
use Rattle.word.proofs.Lists.{every_any, every_others}
use Rattle.word.proofs.ParseReads.{next_then, picked}
use Rattle.bindings.specs.Format.{flag}
use Rattle.bindings.specs.declared.types.Resource.{Resource}
use Rattle.bindings.proofs.EntryFormat.{field, flag_back}
use Rattle.varying.specs.Format.{payload_well_formed}
use Rattle.varying.proofs.Joined.{payload_written}
use Rattle.interface.specs.Format.{stage_at, stage_code, topology_at, topology_code, topology_well_formed, of_word, read_workgroup, workgroup_words, read_mesh, mesh_words, mesh_flag, mesh_info, head_well_formed}
use Rattle.interface.specs.Format.{counts_well_formed, index_well_formed, index_words, contents, pair_well_formed, pair_of, pair_words, pairs_of, read_name, read_varying, varying_words, clips, entry_point_words, read_entry_point}
use Rattle.interface.specs.declared.types.WorkgroupSize.{WorkgroupSize}
use Rattle.interface.proofs.EncodeEntry.{entry_on, laid}
use Rattle.interface.proofs.RestoreRecords.{Restores, got_as, one_then, several_then, words_then}
use Rattle.interface.proofs.RestoreNames.{name_back}
use Rattle.interface.proofs.RestoreVaryings.{varying_back}
use Rattle.interface.specs.declared.types.EntryPointMeshInfo.{EntryPointMeshInfo}

-- ---- words

-- a word of a kind is its kind and its content
pub kind_back : (kind w : ℕ) → of_word kind w ≡ true → of_kind kind (content_of w) ≡ w
kind_back kind w h = let k : kind_of w ≡ kind = eqb-true (kind_of w) kind h in omega arith

-- codes, there and back
stage_back : (c : ℕ) → c < 5 → stage_code (stage_at c) ≡ c
stage_back = codes_back 5 (λ c. stage_code (stage_at c)) refl

topology_back : (c : ℕ) → c < 5 → topology_code (topology_at c) ≡ c
topology_back = codes_back 5 (λ c. topology_code (topology_at c)) refl

-- the first word, from the name's length and whether there is a mesh record
head_back : (w n m : ℕ) → head_well_formed w ≡ true → n ≡ bits 22 16 w → m ≡ flag (eqb (bit 1 w) 1)
    → of_kind 7 (2 ^ 24 * stage_code (stage_at (bits 26 24 w)) + (2 ^ 16 * n + (2 * m + flag (eqb (bit 0 w) 1)))) ≡ w
head_back w n m h p q =
    let k : kind_of w ≡ 7 = search (eqb-true, first) in
    let l : bits 26 24 w < 5 = search (ltb-true, first, second) in
    let y : bit 23 w ≡ 0 = search (eqb-true, first, second) in
    let z : bits 15 2 w ≡ 0 = search (eqb-true, second) depth 8 in
    rw (p, q, stage_back (bits 26 24 w) l, flag_back (bit 1 w) (omega arith), flag_back (bit 0 w) (omega arith))
    (omega (arith, field w 2 2, field w 4 (2 ^ 14), field w (2 ^ 16) (2 ^ 7), field w (2 ^ 23) 2, field w (2 ^ 24) (2 ^ 3)))

-- the word of the four counts
counts_back : (w a b c d : ℕ) → counts_well_formed w ≡ true → a ≡ bits 23 18 w → b ≡ bits 17 12 w → c ≡ bits 11 6 w → d ≡ bits 5 0 w
    → of_kind 15 (2 ^ 18 * a + (2 ^ 12 * b + (2 ^ 6 * c + d))) ≡ w
counts_back w a b c d h p q r s =
    let k : kind_of w ≡ 15 = search (eqb-true, first) in
    let z : bits 26 24 w ≡ 0 = search (eqb-true, second) in
    omega (arith, field w (2 ^ 6) (2 ^ 6), field w (2 ^ 12) (2 ^ 6), field w (2 ^ 18) (2 ^ 6), field w (2 ^ 24) (2 ^ 3))

-- the word of a pair
pair_back : (resources : List Resource) (listed : List ℕ) (w : ℕ) → pair_well_formed resources listed w ≡ true → pair_words (pair_of w) ≡ w ∷ []
pair_back resources listed w h =
    let k : kind_of w ≡ 5 = search (eqb-true, first) in
    let z : bits 26 16 w ≡ 0 = search (eqb-true, first, second) in
    let q : of_kind 5 (2 ^ 8 * bits 15 8 w + bits 7 0 w) ≡ w = omega (arith, field w (2 ^ 8) (2 ^ 8), field w (2 ^ 16) (2 ^ 11)) in
    rw q

-- contents and pairs, word by word
pub contents_map : (ws : List ℕ) → contents ws ≡ map content_of ws
unfolding contents
contents_map [] = refl
contents_map (w ∷ ws) = rw (contents_map ws)

pairs_map : (ws : List ℕ) → pairs_of ws ≡ map pair_of ws
unfolding pairs_of
pairs_map [] = refl
pairs_map (w ∷ ws) = rw (pairs_map ws)

-- ---- records

-- the three words of a workgroup size
workgroup_back : (ws : List ℕ) (g : WorkgroupSize) (rest : List ℕ) → read_workgroup ws ≡ got g rest → ws ≡ workgroup_words g ++ rest
unfolding read_workgroup
workgroup_back ws g rest e =
    one_then (of_word 8) ws _ g rest e λ x r₁ f₁ q₁ e₁.
    one_then (of_word 8) r₁ _ g rest e₁ λ y r₂ f₂ q₂ e₂.
    one_then (of_word 8) r₂ _ g rest e₂ λ z r₃ f₃ q₃ e₃.
    got_as (λ g rest. ws ≡ workgroup_words g ++ rest) _ g r₃ rest e₃ (rw (q₁, q₂, q₃, kind_back 8 x f₁, kind_back 8 y f₂, kind_back 8 z f₃))

-- a mesh record, which is there if marked
mesh_back : (b : Bool) (ws : List ℕ) (m : Option EntryPointMeshInfo) (rest : List ℕ) → read_mesh b ws ≡ got m rest → (mesh_flag m ≡ flag b) × (ws ≡ mesh_words m ++ rest)
unfolding read_mesh yes
mesh_back false ws m rest e = got_as (λ m rest. (mesh_flag m ≡ 0) × (ws ≡ mesh_words m ++ rest)) None m ws rest e (refl, refl)
mesh_back true ws m rest e =
    one_then (of_word 10) ws _ m rest e λ x r₁ f₁ q₁ e₁.
    one_then (of_word 10) r₁ _ m rest e₁ λ y r₂ f₂ q₂ e₂.
    one_then topology_well_formed r₂ _ m rest e₂ λ z r₃ f₃ q₃ e₃.
    let k : of_word 10 z ≡ true = first (of_word 10 z) (ltb (content_of z) 5) f₃ in
    let l : content_of z < 5 = ltb-true (content_of z) 5 (second (of_word 10 z) (ltb (content_of z) 5) f₃) in
    got_as (λ m rest. (mesh_flag m ≡ 1) × (ws ≡ mesh_words m ++ rest)) (mesh_info x y z) m r₃ rest e₃
    (refl, rw (q₁, q₂, q₃, topology_back (content_of z) l, kind_back 10 x f₁, kind_back 10 y f₂, kind_back 10 z k))

-- ---- entry points

-- an entry point's words, each of which 32 bits hold
pub entry_back : (rs : List Resource) → Restores is_word entry_point_words (read_entry_point rs)
unfolding read_entry_point
entry_back rs ws e rest h g =
    one_then head_well_formed ws _ e rest g λ head r₁ f₁ q₁ g₁.
    next_then (read_name (bits 22 16 head) r₁) _ e rest g₁ λ name r₂ e₂ g₂.
    let (l₂, q₂) = name_back (bits 22 16 head) r₁ name r₂ (every_others is_word head r₁ (rw q₁ at h)) e₂ in
    next_then (read_workgroup r₂) _ e rest g₂ λ workgroup r₃ e₃ g₃.
    let q₃ = workgroup_back r₂ workgroup r₃ e₃ in
    one_then payload_well_formed r₃ _ e rest g₃ λ payload r₄ f₄ q₄ g₄.
    next_then (read_mesh (eqb (bit 1 head) 1) r₄) _ e rest g₄ λ mesh r₅ e₅ g₅.
    let (l₅, q₅) = mesh_back (eqb (bit 1 head) 1) r₄ mesh r₅ e₅ in
    one_then counts_well_formed r₅ _ e rest g₅ λ counts r₆ f₆ q₆ g₆.
    words_then (index_well_formed (length rs)) content_of index_words
    (λ w t. rw (kind_back 5 w (first (of_word 5 w) (ltb (content_of w) (length rs)) t))) contents contents_map (bits 23 18 counts) r₆ _ e rest g₆ λ indexes r₇ l₇ q₇ g₇.
    words_then (pair_well_formed rs (contents indexes)) pair_of pair_words (pair_back rs (contents indexes)) pairs_of pairs_map (bits 17 12 counts) r₇ _ e rest g₇ λ pairs r₈ l₈ q₈ g₈.
    several_then (λ w. true) varying_words (read_varying 4) (varying_back 4 (omega arith)) (bits 11 6 counts) r₈ _ e rest (every_any r₈) g₈ λ inputs r₉ l₉ q₉ g₉.
    several_then (λ w. true) varying_words (read_varying 5) (varying_back 5 (omega arith)) (bits 5 0 counts) r₉ _ e rest (every_any r₉) g₉ λ outputs r₁₀ l₁₀ q₁₀ g₁₀.
    let (c, g₁₁) = picked (leb (clips outputs) 1) _ e rest g₁₀ in
    got_as (λ e rest. ws ≡ entry_on e rest) _ e r₁₀ rest g₁₁
    (rw (
      q₁,
      q₂,
      q₃,
      q₄,
      q₅,
      q₆,
      q₇,
      q₈,
      q₉,
      q₁₀,
      head_back head (length name) (mesh_flag mesh) f₁ l₂ l₅,
      payload_written payload f₄,
      counts_back counts (length (contents indexes)) (length (pairs_of pairs)) (length inputs) (length outputs) f₆ l₇ l₈ l₉ l₁₀,
    )) ∙ sym (laid e rest)
