-- Where the records of a pack stand, by the counts that it names: read without asking whether it is well formed.
use Rattle.std.specs.Prelude.{ℕ, zero, suc, ◌+◌, ◌<◌, ◌≤◌, ◌≡◌, List, [], ◌∷◌, eqb, length, take, drop}
use Rattle.word.specs.Choice.{pick}
use Rattle.word.specs.Words.{word_at, bits, bit}
use Rattle.bindings.specs.Format.{resource_at, is_buffer_word}
use Rattle.bindings.specs.declared.types.Resource.{Resource}
use Rattle.interface.specs.Meaning.{EntryPoint}
use Rattle.interface.specs.Format.{most_words, name_words, decode, decoded_number, interface_of}
use Rattle.interface.specs.Inner.Reads.{varying_width, standing, resources_at}
use Rattle.interface.specs.declared.types.EntryParts.{EntryParts}

-- as many records from a position on, where each says where the next begins; and the position behind them
unfoldable pub records_from : {A : Type 0} → (ℕ → A) → (ℕ → ℕ) → ℕ → ℕ → List A
records_from record_at after zero at = []
records_from record_at after (suc n) at = let rest = records_from record_at after n (after at) in record_at at ∷ rest

unfoldable pub end_from : (ℕ → ℕ) → ℕ → ℕ → ℕ
end_from after zero at = at
end_from after (suc n) at = let end = end_from after n (after at) in end

-- behind a varying
abbrev pub varying_end : List ℕ → ℕ → ℕ
varying_end ws at = at + varying_width (drop at ws)

abbrev pub varyings_end : List ℕ → ℕ → ℕ → ℕ
varyings_end ws n at = end_from (varying_end ws) n at

-- behind a resource: 'kind 4; kind 16; for buffers kind 6'
abbrev pub resource_end : List ℕ → ℕ → ℕ
resource_end ws at = at + pick (is_buffer_word (word_at ws (at + 1))) 3 2

-- ---- an entry point by the position of its first word

abbrev pub workgroup_at : List ℕ → ℕ → ℕ
workgroup_at ws head = head + 1 + name_words (bits 22 16 (word_at ws head))

-- 'if marked, three words kind 10'
abbrev pub mesh_width : List ℕ → ℕ → ℕ
mesh_width ws head = pick (eqb (bit 1 (word_at ws head)) 1) 3 0

abbrev pub counts_at : List ℕ → ℕ → ℕ
counts_at ws head = workgroup_at ws head + 4 + mesh_width ws head

abbrev pub pairs_at : List ℕ → ℕ → ℕ
pairs_at ws counts = counts + 1 + bits 23 18 (word_at ws counts)

abbrev pub inputs_at : List ℕ → ℕ → ℕ
inputs_at ws counts = pairs_at ws counts + bits 17 12 (word_at ws counts)

abbrev pub outputs_at : List ℕ → ℕ → ℕ
outputs_at ws counts = varyings_end ws (bits 11 6 (word_at ws counts)) (inputs_at ws counts)

abbrev pub parts_by : List ℕ → ℕ → ℕ → EntryParts
parts_by ws head counts =
    record {
      head = head;
      workgroup = workgroup_at ws head;
      counts = counts;
      resources = counts + 1;
      pairs = pairs_at ws counts;
      inputs = inputs_at ws counts;
      outputs = outputs_at ws counts;
    }

unfoldable pub parts_at : List ℕ → ℕ → EntryParts
parts_at ws head = parts_by ws head (counts_at ws head)

abbrev pub outputs_end : List ℕ → EntryParts → ℕ
outputs_end ws p = varyings_end ws (bits 5 0 (word_at ws p.counts)) p.outputs

-- behind an entry point
unfoldable pub entry_end : List ℕ → ℕ → ℕ
entry_end ws head = outputs_end ws (parts_at ws head)

abbrev pub entry_point_at : List ℕ → ℕ → EntryPoint
entry_point_at ws head = standing ws (parts_at ws head)

-- ---- a pack: two words and thirteen limits, the resources, the entry points

abbrev pub resource_count : List ℕ → ℕ
resource_count ws = bits 26 16 (word_at ws 1)

abbrev pub entry_count : List ℕ → ℕ
entry_count ws = bits 15 0 (word_at ws 1)

abbrev pub resources_of : List ℕ → List Resource
resources_of ws = records_from (resource_at ws) (resource_end ws) (resource_count ws) 15

-- where the first entry point begins, and the one at a place among them
abbrev pub entries_at : List ℕ → ℕ
entries_at ws = end_from (resource_end ws) (resource_count ws) 15

abbrev pub head_at : List ℕ → ℕ → ℕ
head_at ws position = end_from (entry_end ws) position (entries_at ws)

abbrev pub entries_of : List ℕ → List EntryPoint
entries_of ws = records_from (entry_point_at ws) (entry_end ws) (entry_count ws) (entries_at ws)

-- the parts of an entry point lie one behind the other before the end of a pack, which is short
pub record Placed (ws : List ℕ) (p : EntryParts) : Type 0 where
  pub name : p.head < p.workgroup
  pub workgroup : p.workgroup + 4 ≤ p.counts
  pub counts : p.resources ≡ p.counts + 1
  pub resources : p.pairs ≡ p.resources + bits 23 18 (word_at ws p.counts)
  pub pairs : p.inputs ≡ p.pairs + bits 17 12 (word_at ws p.counts)
  pub inputs : p.inputs ≤ p.outputs
  pub outputs : p.outputs < length ws
  pub inputs_end : varyings_end ws (bits 11 6 (word_at ws p.counts)) p.inputs < length ws
  pub outputs_end : outputs_end ws p < length ws
  pub short : length ws ≤ most_words

-- a table begins with the positions of an accepted pack's resources, and three words stand from each on
pub record Offsets (ws offsets : List ℕ) : Type 0 where
  pub resources : decoded_number (decode ws) ≡ 0 → resources_at ws (take (resource_count ws) offsets) ≡ (interface_of (decode ws)).resources
  pub within : decoded_number (decode ws) ≡ 0 → (k : ℕ) → k < resource_count ws → word_at offsets k + 3 ≤ length ws

-- a table begins with the positions of an accepted pack's entry points
pub record Heads (ws heads : List ℕ) : Type 0 where
  pub entries : decoded_number (decode ws) ≡ 0 → (k : ℕ) → k < entry_count ws → word_at heads k ≡ head_at ws k
