-- What the functions that check an entry point and names carry along; only contracts of inner functions cite these.
use Rattle.std.specs.Prelude.{ℕ, zero, suc, ◌+◌, ◌-◌, Bool, true, false, ◌&&◌, List, [], ◌∷◌, ◌++◌, length, take, drop, replicate, ◌==◌, slice_index_or, slice_set}
use Rattle.word.specs.Choice.{pick}
use Rattle.word.specs.Words.{word_at, bits, bit}
use Rattle.word.specs.Parse.{Parsed, fault, got, one, several, Rest, nowhere, from, behind}
use Rattle.bindings.specs.Format.{read_resource}
use Rattle.bindings.specs.declared.types.Resource.{Resource}
use Rattle.bindings.specs.declared.types.ResourceType.{ResourceType}
use Rattle.bindings.specs.declared.types.ResourceType.TheVariants as Res
use Rattle.varying.specs.Format.{payload_well_formed}
use Rattle.entry_check.specs.declared.role.Role.{Role}
use Rattle.entry_check.specs.declared.role.Role.TheVariants.{Other, Sampler, Texture}
use Rattle.interface.specs.Format.{most_resources, read_varying, is_clip, read_name, head_well_formed, of_word, read_workgroup, read_mesh, counts_well_formed, index_well_formed, contents}
use Rattle.interface.specs.Format.{sampled_class, pair_well_formed, bytes_of, name_words, same_bytes}

-- what a reader of several records got; nothing where it faulted
abbrev pub listed : {A : Type 0} → Parsed (List A) → List A
listed fault = []
listed (got xs rest) = xs

-- ---- walks that forget what they read

-- on from where a reader stopped
abbrev pub onward : Rest → (List ℕ → Rest) → Rest
onward nowhere k = nowhere
onward (from ws) k = k ws

-- on from a word that passes a test
abbrev pub word : (ℕ → Bool) → List ℕ → (ℕ → List ℕ → Rest) → Rest
word test [] k = nowhere
word test (w ∷ ws) k = pick (test w) (k w ws) nowhere

-- on from a record, by what it is
abbrev pub thence : {A : Type 0} → Parsed A → (A → List ℕ → Rest) → Rest
thence fault k = nowhere
thence (got a rest) k = k a rest

-- varyings with built-in codes below a number; after clip distances, the code 4 below 5, it is one less
unfoldable pub varyings_behind : ℕ → ℕ → List ℕ → Rest
varyings_behind zero codes ws = from ws
varyings_behind (suc n) codes ws = thence (read_varying codes ws) λ v rest. varyings_behind n (codes - is_clip v) rest

abbrev pub varying_lists_behind : ℕ → List ℕ → Rest
varying_lists_behind counts ws = onward (varyings_behind (bits 11 6 counts) 4 ws) λ rest. varyings_behind (bits 5 0 counts) 5 rest

-- the four lists of an entry point
unfoldable pub lists_behind : List Resource → ℕ → List ℕ → Rest
lists_behind resources counts ws =
    onward (behind (several (bits 23 18 counts) (one (index_well_formed (length resources))) ws)) λ rest.
    onward (behind (several (bits 17 12 counts) (one (pair_well_formed resources (contents (take (bits 23 18 counts) ws)))) rest)) λ rest.
    varying_lists_behind counts rest

-- an entry point: from its payload on, and whole
unfoldable pub parts_behind : List Resource → ℕ → List ℕ → Rest
parts_behind resources head ws =
    word payload_well_formed ws λ payload rest.
    onward (behind (read_mesh (bit 1 head == 1) rest)) λ rest.
    word counts_well_formed rest λ counts rest.
    lists_behind resources counts rest

unfoldable pub entry_behind : List Resource → List ℕ → Rest
entry_behind resources ws =
    word head_well_formed ws λ head rest.
    onward (behind (read_name (bits 22 16 head) rest)) λ rest.
    onward (behind (read_workgroup rest)) λ rest.
    parts_behind resources head rest

-- ---- resources by their part in a pair

abbrev pub pair_role : ResourceType → Role
pair_role (Res.Buffer size space) = Other
pair_role (Res.Sampler comparison) = Sampler
pair_role (Res.Texture dim arrayed class) = pick (sampled_class class) Texture Other
pair_role (Res.AccelerationStructure returns) = Other

unfoldable pub pair_roles : List Resource → List Role
pair_roles [] = []
pair_roles (r ∷ rs) = pair_role r.ty ∷ pair_roles rs

-- the same in a table for the most resources
unfoldable pub role_table : List Resource → List Role
role_table rs = pair_roles rs ++ drop (length rs) (replicate most_resources Other)

-- the pack's resources, behind its two heads and thirteen limits
abbrev pub pack_resources : ℕ → List ℕ → List Resource
pack_resources count ws = listed (several count read_resource (drop 15 ws))

-- the role at an index of a table
abbrev pub role_in : List Role → ℕ → Role
role_in table i = slice_index_or table i Other

-- a table in which the listed resources have their part
unfoldable pub roles_of : List Role → List ℕ → List Role → List Role
roles_of roles [] table = table
roles_of roles (i ∷ is) table = roles_of roles is (slice_set table i (role_in roles i))

abbrev pub texture_role : Role → Bool
texture_role Other = false
texture_role Sampler = false
texture_role Texture = true

abbrev pub sampler_role : Role → Bool
sampler_role Other = false
sampler_role Sampler = true
sampler_role Texture = false

-- a pair of a listed texture and a listed sampler
abbrev pub pair_by_roles : List Role → ℕ → Bool
pair_by_roles table w =
    of_word 5 w && (bits 26 16 w == 0 && (texture_role (role_in table (bits 15 8 w)) && sampler_role (role_in table (bits 7 0 w))))

-- ---- entry points by the positions of their first words

-- so many words, 0 past the end
unfoldable pub first_words : ℕ → List ℕ → List ℕ
first_words zero ws = []
first_words (suc n) ws = let rest = first_words n (drop 1 ws) in word_at ws 0 ∷ rest

-- the bytes of a name
unfoldable pub name_of : ℕ → List ℕ → List ℕ
name_of bytes ws = take bytes (bytes_of (first_words (name_words bytes) ws))

-- whether two words have the same first bytes of a name, and two lists of words the same name
unfoldable pub same_first : ℕ → ℕ → ℕ → Bool
same_first bytes v w = same_bytes (take bytes (bytes_of (v ∷ []))) (take bytes (bytes_of (w ∷ [])))

unfoldable pub same_name : ℕ → List ℕ → List ℕ → Bool
same_name bytes ws vs = same_bytes (name_of bytes ws) (name_of bytes vs)

abbrev pub name_behind : List ℕ → ℕ → List ℕ
name_behind ws h = name_of (bits 22 16 (word_at ws h)) (drop (h + 1) ws)

-- whether two have the same stage and name
unfoldable pub same_head : List ℕ → ℕ → ℕ → Bool
same_head ws g h = bits 26 24 (word_at ws g) == bits 26 24 (word_at ws h) && same_bytes (name_behind ws g) (name_behind ws h)

unfoldable pub has_head : List ℕ → ℕ → List ℕ → Bool
has_head ws h [] = false
has_head ws h (g ∷ gs) = let rest = has_head ws h gs in pick (same_head ws g h) true rest

unfoldable pub distinct_heads : List ℕ → List ℕ → Bool
distinct_heads ws [] = true
distinct_heads ws (h ∷ hs) = let rest = distinct_heads ws hs in pick (has_head ws h hs) false rest
