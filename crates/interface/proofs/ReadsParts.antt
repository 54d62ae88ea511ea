-- The ways of the functions that walk from record to record.
use Prim.Native.Nat.{ℕ, zero, suc, ◌+◌, ◌-◌, ◌/◌, ◌^◌, ◌<◌, ◌≤◌}
use native.Mathlib.Omega.{arith}
use native.Mathlib.Numerals.{add-one}
use mathlib.Core.Path.{◌≡◌, refl, sym, ap, ◌∙◌}
use mathlib.Core.List.{List, [], ◌∷◌}
use borrow.Author.Tests.{ltb-true, ltb-false}
use lib.Dec.{eqb, ltb}
use lib.ListN.{length, drop, get_or-eq_default}
use Rattle.word.specs.Choice.{pick}
use Rattle.word.specs.Words.{word_at, bits, bit}
use Rattle.word.proofs.Truth.{by_test}
use Rattle.interface.specs.Meaning.{EntryPoint, entry_point_nth}
use Rattle.interface.specs.Format.{name_words, decode, decoded_number, interface_of}
use Rattle.interface.specs.Inner.Reads.{varying_width, standing}
use Rattle.interface.specs.Inner.Parts.{records_from, end_from, varying_end, varyings_end, resource_end, counts_at, inputs_at, parts_at, entry_end, entry_point_at, entries_at, resource_count, entry_count, head_at, Placed, Heads, workgroup_at}
use Rattle.interface.specs.declared.types.EntryParts.{EntryParts}
use Rattle.interface.proofs.ReadsRecords.{end_left, records_length}
use Rattle.interface.proofs.ReadsPack.{accepted}
use Rattle.interface.proofs.ReadsWays.{width_there}

-- ---- the position behind as many records

end_suc : (after : ℕ → ℕ) (n at : ℕ) → end_from after (suc n) at ≡ after (end_from after n at)
unfolding end_from
end_suc after zero at = refl
end_suc after (suc n) at = end_suc after n (after at)

pub end_more : (after : ℕ → ℕ) (n at : ℕ) → end_from after (n + 1) at ≡ after (end_from after n at)
end_more after n at = rw add-one (end_suc after n at)

-- ---- an entry point

abbrev parts_by : ℕ → ℕ → ℕ → ℕ → ℕ → ℕ → EntryParts
parts_by head workgroup counts resources pairs outputs =
    record {
      head = head;
      workgroup = workgroup;
      counts = counts;
      resources = counts + 1;
      pairs = counts + 1 + resources;
      inputs = counts + 1 + resources + pairs;
      outputs = outputs;
    }

module _ (ws : List ℕ) (head first names mesh numbers resources pairs inputs outputs : ℕ) where
  pub parts_read : first ≡ word_at ws head → names ≡ name_words (bits 22 16 first) → mesh ≡ pick (eqb (bit 1 first) 1) 3 0
      → numbers ≡ word_at ws (head + 1 + names + 4 + mesh) → resources ≡ bits 23 18 numbers → pairs ≡ bits 17 12 numbers → inputs ≡ bits 11 6 numbers
      → outputs ≡ varyings_end ws inputs (head + 1 + names + 4 + mesh + 1 + resources + pairs)
      → parts_by head (head + 1 + names) (head + 1 + names + 4 + mesh) resources pairs outputs ≡ parts_at ws head
  unfolding parts_at
  parts_read hf hn hm hw hr hp hi ho = rw (ho, hi, hp, hr, hw, hm, hn, hf)

pub entry_end_read : (ws : List ℕ) (head w n r : ℕ) (parts : EntryParts) → parts ≡ parts_at ws head → w ≡ word_at ws parts.counts → n ≡ bits 5 0 w
    → r ≡ varyings_end ws n parts.outputs → r ≡ entry_end ws head
unfolding entry_end
entry_end_read ws head w n r parts hp hw hn hr = hr ∙ rw (hn, hw, hp)

-- ---- the entry point at a place

pub past : (after : ℕ → ℕ) → ((at : ℕ) → at ≤ after at) → (n at : ℕ) → at ≤ end_from after n at
unfolding end_from
past after rises zero at = omega arith
past after rises (suc n) at = omega (arith, rises at, past after rises n (after at))

pub within : (after : ℕ → ℕ) → ((at : ℕ) → at ≤ after at) → (p n at : ℕ) → p < n → after (end_from after p at) ≤ end_from after n at
unfolding end_from
within after rises zero zero at h = absurd (omega arith)
within after rises zero (suc n) at h = past after rises n (after at)
within after rises (suc p) zero at h = absurd (omega arith)
within after rises (suc p) (suc n) at h = within after rises p n (after at) (omega arith)

nth : (ws : List ℕ) (p n at : ℕ) → p < n → entry_point_nth (records_from (entry_point_at ws) (entry_end ws) n at) p ≡ entry_point_at ws (end_from (entry_end ws) p at)
unfolding records_from end_from entry_point_nth
nth ws zero zero at h = absurd (omega arith)
nth ws zero (suc n) at h = refl
nth ws (suc p) zero at h = absurd (omega arith)
nth ws (suc p) (suc n) at h = nth ws p n (entry_end ws at) (omega arith)

width_some : (ws : List ℕ) → 1 ≤ varying_width ws
width_some ws = by_test (eqb (word_at ws 0 / 2 ^ 27) 12) (λ t. rw t (omega arith)) (λ f. rw f (omega arith))

pub varyings_past : (ws : List ℕ) (n at : ℕ) → at ≤ varyings_end ws n at
varyings_past ws n at = past (varying_end ws) (λ at. omega arith) n at

-- varyings that end before the pack does: the next one's words are there, and so are the others
module _ (ws : List ℕ) (n at : ℕ) (i : varyings_end ws n at < length ws) (h : n ≡ 0 → ⊥) where
  pub varyings_left : (w : ℕ) → w ≡ varying_width (drop at ws) → varyings_end ws (n - 1) (at + w) < length ws
  varyings_left w e = rw e (rw (end_left (varying_end ws) n at h) at i)

  pub varying_there : at + 1 < length ws
  varying_there =
      omega (arith, varyings_left (varying_width (drop at ws)) refl, varyings_past ws (n - 1) (varying_end ws at), width_some (drop at ws))

pub varyings_start : (ws : List ℕ) (n at : ℕ) → varyings_end ws n at < length ws → at < length ws
varyings_start ws n at i = omega (arith, varyings_past ws n at)

-- a step of a walk over varyings that end before the pack does
module _ (ws : List ℕ) (n from k at w width : ℕ) (inv : at ≡ varyings_end ws k from) (e : w ≡ word_at ws at) (x : width ≡ varying_width (w ∷ [])) where
  pub varyings_more : at + width ≡ varyings_end ws (k + 1) from
  varyings_more =
      let here : width ≡ varying_width (drop at ws) = x ∙ width_there ws at w e in
      rw here (rw inv (sym (end_more (varying_end ws) k from)))

  pub next_inside : varyings_end ws n from < length ws → k < n → at + width < length ws
  next_inside i h = rw (varyings_more, end_more (varying_end ws) k from) (omega (arith, within (varying_end ws) (λ at. omega arith) k n from h))

-- an entry point's parts rise from its first word to its end
module _ (ws : List ℕ) (head : ℕ) where
  pub outputs_past : (parts_at ws head).outputs ≤ entry_end ws head
  unfolding entry_end
  outputs_past = varyings_past ws _ (parts_at ws head).outputs

  rising : entry_end ws head < length ws → length ws ≤ 4096 → Placed ws (parts_at ws head)
  unfolding parts_at entry_end
  rising o s =
      let i : (parts_at ws head).outputs < length ws = omega (arith, outputs_past) in
      record {
        name = omega arith;
        workgroup = omega arith;
        counts = refl;
        resources = refl;
        pairs = refl;
        inputs = varyings_past ws _ _;
        outputs = i;
        inputs_end = i;
        outputs_end = o;
        short = s;
      }

  head_outputs : head ≤ (parts_at ws head).outputs
  unfolding parts_at
  head_outputs = omega (arith, varyings_past ws (bits 11 6 (word_at ws (counts_at ws head))) (inputs_at ws (counts_at ws head)))

  pub head_past : head ≤ entry_end ws head
  head_past = omega (arith, head_outputs, outputs_past)

-- the positions of an entry point that ends before the pack does, as they are read
module _ (ws : List ℕ) (head : ℕ) (i : entry_end ws head < length ws) where
  module _ (first names mesh : ℕ) (hf : first ≡ word_at ws head) (hn : names ≡ name_words (bits 22 16 first)) (hm : mesh ≡ pick (eqb (bit 1 first) 1) 3 0) where
    counts_are : head + 1 + names + 4 + mesh ≡ counts_at ws head
    counts_are = rw (hm, hn, hf)

    pub counts_there : head + 1 + names + 4 + mesh < length ws
    unfolding parts_at
    counts_there =
        omega (arith, counts_are, outputs_past ws head, varyings_past ws (bits 11 6 (word_at ws (counts_at ws head))) (inputs_at ws (counts_at ws head)))

    module _ (numbers resources pairs inputs : ℕ) (hw : numbers ≡ word_at ws (head + 1 + names + 4 + mesh)) (hr : resources ≡ bits 23 18 numbers)
        (hp : pairs ≡ bits 17 12 numbers) (hi : inputs ≡ bits 11 6 numbers) where
      pub inputs_there : varyings_end ws inputs (head + 1 + names + 4 + mesh + 1 + resources + pairs) < length ws
      unfolding parts_at
      inputs_there =
          let e : varyings_end ws inputs (head + 1 + names + 4 + mesh + 1 + resources + pairs) ≡ (parts_at ws head).outputs = rw (hi, hp, hr, hw, counts_are) in
          omega (arith, outputs_past ws head)

module _ (ws : List ℕ) (head : ℕ) (i : entry_end ws head < length ws) (parts : EntryParts) (hp : parts ≡ parts_at ws head) where
  pub counts_placed : parts.counts < length ws
  unfolding parts_at
  counts_placed =
      rw hp (omega (arith, outputs_past ws head, varyings_past ws (bits 11 6 (word_at ws (counts_at ws head))) (inputs_at ws (counts_at ws head))))

  pub outputs_placed : (w n : ℕ) → w ≡ word_at ws parts.counts → n ≡ bits 5 0 w → varyings_end ws n parts.outputs < length ws
  unfolding entry_end
  outputs_placed w n hw hn = rw (hn, hw, hp) i

counted : (ws : List ℕ) (p : ℕ) → decoded_number (decode ws) ≡ 0 → p < length (interface_of (decode ws)).entries → p < entry_count ws
counted ws p h k = rw ((accepted ws h).entries, records_length (entry_point_at ws) (entry_end ws) (entry_count ws) (entries_at ws)) at k

-- a table of heads has each of them, since no entry point begins with a pack's first word
module _ (ws heads : List ℕ) (p : ℕ) (h : decoded_number (decode ws) ≡ 0) (g : Heads ws heads) (k : p < length (interface_of (decode ws)).entries) where
  pub heads_there : p < length heads
  heads_there =
      by_test (ltb p (length heads)) (ltb-true p (length heads)) λ f.
      let z : word_at heads p ≡ 0 = get_or-eq_default heads 0 (ltb-false p (length heads) f) in
      let e : word_at heads p ≡ head_at ws p = g.entries h p (counted ws p h k) in
      let a : entries_at ws ≤ head_at ws p = past (entry_end ws) (head_past ws) p (entries_at ws) in
      let b : 15 ≤ entries_at ws = past (resource_end ws) (λ at. omega arith) (resource_count ws) 15 in
      absurd (omega arith)

-- a position in a table of heads
module _ (ws heads : List ℕ) (p head : ℕ) (h : decoded_number (decode ws) ≡ 0) (g : Heads ws heads) (e : head ≡ word_at heads p) where
  placed : p < entry_count ws → Placed ws (parts_at ws head)
  placed k =
      let a : head ≡ head_at ws p = e ∙ g.entries h p k in
      let i : entry_end ws head ≤ end_from (entry_end ws) (entry_count ws) (entries_at ws) = rw a (within (entry_end ws) (head_past ws) p (entry_count ws) (entries_at ws) k) in
      rising ws head (omega (arith, (accepted ws h).ends)) (accepted ws h).short

  module _ (k : p < length (interface_of (decode ws)).entries) where
    pub head_inside : head < length ws
    unfolding parts_at
    head_inside =
        let w = placed (counted ws p h k) in
        omega (arith, w.name, w.workgroup, w.counts, w.resources, w.pairs, w.inputs, w.outputs)

    pub name_placed : workgroup_at ws head ≤ length ws
    unfolding parts_at
    name_placed =
        let w = placed (counted ws p h k) in
        omega (arith, w.workgroup, w.counts, w.resources, w.pairs, w.inputs, w.outputs)

    pub entry_inside : entry_end ws head < length ws
    unfolding entry_end
    entry_inside = (placed (counted ws p h k)).outputs_end

    pub pack_short : length ws ≤ 4096
    pack_short = (accepted ws h).short

    module _ (parts : EntryParts) (d : parts ≡ parts_at ws head) where
      pub nth_placed : Placed ws parts
      nth_placed = rw d (placed (counted ws p h k))

      -- they are those from the position where the entry point begins
      pub nth_parts : parts ≡ parts_at ws (head_at ws p)
      nth_parts = d ∙ ap (parts_at ws) (e ∙ g.entries h p (counted ws p h k))

      pub nth_read : standing ws parts ≡ entry_point_nth (interface_of (decode ws)).entries p
      nth_read = rw (nth_parts, (accepted ws h).entries) (sym (nth ws p (entry_count ws) (entries_at ws) (counted ws p h k)))

-- ---- the entry points that are left

abbrev pub left_of : List ℕ → ℕ → ℕ → List EntryPoint
left_of ws left at = records_from (entry_point_at ws) (entry_end ws) left at

module _ (ws : List ℕ) (h : decoded_number (decode ws) ≡ 0) (left at : ℕ) (hl : left ≡ entry_count ws) (ha : at ≡ entries_at ws) where
  pub entries_begin : (interface_of (decode ws)).entries ≡ left_of ws left at
  entries_begin = rw (hl, ha) (accepted ws h).entries

  pub ends_begin : end_from (entry_end ws) left at < length ws
  ends_begin = rw (hl, ha) (accepted ws h).ends

pub short_pack : (ws : List ℕ) → decoded_number (decode ws) ≡ 0 → length ws ≤ 4096
short_pack ws h = (accepted ws h).short

module _ (ws : List ℕ) (left at : ℕ) (ends : end_from (entry_end ws) left at < length ws) (h : left ≡ 0 → ⊥) where
  pub ends_onward : (next : ℕ) → next ≡ entry_end ws at → end_from (entry_end ws) (left - 1) next < length ws
  ends_onward next e = rw e (rw (end_left (entry_end ws) left at h) at ends)

  pub entry_within : entry_end ws at < length ws
  entry_within = omega (arith, past (entry_end ws) (head_past ws) (left - 1) (entry_end ws at), end_left (entry_end ws) left at h)

  pub head_within : at < length ws
  head_within = omega (arith, head_past ws at, entry_within)

  workgroup_outputs : workgroup_at ws at ≤ (parts_at ws at).outputs
  unfolding parts_at
  workgroup_outputs = omega (arith, varyings_past ws (bits 11 6 (word_at ws (counts_at ws at))) (inputs_at ws (counts_at ws at)))

  pub name_within : workgroup_at ws at ≤ length ws
  name_within = omega (arith, workgroup_outputs, outputs_past ws at, entry_within)

-- ---- what the functions of src/parts.rt and src/reads.rt use

pub ruleset walked = (varyings_start, next_inside, varyings_more)

pub ruleset found_parts = (counts_there, inputs_there, parts_read)

pub ruleset found_end = (counts_placed, outputs_placed, entry_end_read)

pub ruleset found_entry = (heads_there, head_inside, entry_inside, pack_short, nth_read, nth_parts)

pub ruleset found_head = (heads_there, head_inside, name_placed)
