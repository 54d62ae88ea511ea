-- The ways of the functions that read what stands in a pack.
use Prim.Native.Nat.{ℕ, ◌+◌, ◌/◌, ◌%◌, ◌≤◌}
use mathlib.Core.Path.{◌≡◌, sym, ap, ◌∙◌}
use mathlib.Core.List.{List, [], ◌∷◌}
use lib.ListN.{length, drop}
use lib.Seq.{get_or-drop}
use Rattle.word.specs.Words.{word_at, content_of}
use Rattle.word.proofs.Parse.{first_of}
use Rattle.interface.specs.Format.{decode, decoded_number, limits_by, limits_of, interface_of}
use Rattle.interface.specs.Inner.Reads.{varying_width}
use Rattle.interface.specs.Inner.Parts.{resource_count, entry_count, resource_end, entry_end, entries_at, entry_point_at}
use Rattle.bindings.specs.Format.{resource_at}
use Rattle.interface.specs.declared.types.Limits.{Limits}
use Rattle.interface.proofs.ReadsRecords.{records_length}
use Rattle.interface.proofs.ReadsPack.{accepted}

pub width_there : (ws : List ℕ) (at w : ℕ) → w ≡ word_at ws at → varying_width (w ∷ []) ≡ varying_width (drop at ws)
width_there ws at w e = rw (first_of ws at, ← e)

abbrev limit : List ℕ → ℕ → ℕ
limit ws at = content_of (word_at ws at)

abbrev limits_at : List ℕ → Limits
limits_at ws =
    limits_by (limit ws 2) (limit ws 3) (limit ws 4) (limit ws 5) (limit ws 6) (limit ws 7) (limit ws 8) (limit ws 9) (limit ws 10) (limit ws 11) (limit ws 12)
    (limit ws 13) (limit ws 14)

limits_drop : (ws : List ℕ) → limits_of (drop 2 ws) ≡ limits_at ws
limits_drop ws =
    let t : (k : ℕ) → word_at (drop 2 ws) k ≡ word_at ws (2 + k) = λ k. get_or-drop 2 ws k 0 in
    rw (t 0, t 1, t 2, t 3, t 4, t 5, t 6, t 7, t 8, t 9, t 10, t 11, t 12)

module _ (ws : List ℕ) (h : decoded_number (decode ws) ≡ 0) where
  pub long_pack : 16 ≤ length ws
  long_pack = (accepted ws h).long

  pub limits_read : (a b c d e f g i j k l m n : ℕ) → a ≡ limit ws 2 → b ≡ limit ws 3 → c ≡ limit ws 4 → d ≡ limit ws 5 → e ≡ limit ws 6 → f ≡ limit ws 7 → g ≡ limit ws 8
      → i ≡ limit ws 9 → j ≡ limit ws 10 → k ≡ limit ws 11 → l ≡ limit ws 12 → m ≡ limit ws 13 → n ≡ limit ws 14
      → limits_by a b c d e f g i j k l m n ≡ (interface_of (decode ws)).limits
  limits_read a b c d e f g i j k l m n pa pb pc pd pe pf pg pi pj pk pl pm pn =
      rw (pa, pb, pc, pd, pe, pf, pg, pi, pj, pk, pl, pm, pn) (sym ((accepted ws h).limits ∙ limits_drop ws))

  pub entries_counted : word_at ws 1 % 65536 ≡ length (interface_of (decode ws)).entries
  entries_counted = sym (ap length (accepted ws h).entries ∙ records_length (entry_point_at ws) (entry_end ws) (entry_count ws) (entries_at ws))

  pub entries_few : word_at ws 1 % 65536 ≤ 16
  entries_few = (accepted ws h).few_entries

  pub resources_counted : word_at ws 1 / 65536 % 2048 ≡ length (interface_of (decode ws)).resources
  resources_counted = sym (ap length (accepted ws h).resources ∙ records_length (resource_at ws) (resource_end ws) (resource_count ws) 15)

  pub resources_few : word_at ws 1 / 65536 % 2048 ≤ 128
  resources_few = (accepted ws h).few_resources

-- what the functions of src/reads.rt use
pub ruleset read_limits = (long_pack, limits_read)

pub ruleset counted_entries = (long_pack, entries_counted, entries_few)

pub ruleset counted_resources = (long_pack, resources_counted, resources_few)
