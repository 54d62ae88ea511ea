-- Laws of the run over a pack's entry points.
use Prim.Native.Nat.{ℕ, ◌+◌, ◌-◌, ◌/◌, ◌%◌, ◌<◌, ◌≤◌}
use native.Mathlib.Omega.{arith}
use mathlib.Core.Path.{◌≡◌, refl, sym, ap, ◌∙◌}
use mathlib.Core.List.{List, [], ◌∷◌, ◌++◌}
use Rattle.std.specs.Prelude.{Bool, true, false, Result, Ok, Err, is_ok}
use lib.Dec.{eqb}
use lib.ListN.{length}
use Rattle.arrayvec.specs.ArrayVec.{ArrayVec}
use Rattle.word.specs.Words.{word_at}
use Rattle.word.specs.Refusals.{answer_of}
use Rattle.word.specs.declared.answer.Answer.{Answer}
use Rattle.word.specs.declared.refusal.Refusal.{Refusal}
use Rattle.word.proofs.Both.{number_nonzero}
use Rattle.sizes.specs.Format.{encode_sizes}
use Rattle.word.specs.Lists.{flat}
use Rattle.interface.specs.Meaning.{EntryPoint}
use Rattle.interface.specs.Format.{stage_at, stage_code, decode, decoded_number, interface_of}
use Rattle.interface.specs.Inner.Reads.{standing, name_at}
use Rattle.interface.specs.Inner.Parts.{parts_at, entry_point_at, entry_end, end_from, entry_count, entries_at, workgroup_at}
use Rattle.interface.specs.declared.types.ShaderStage.{ShaderStage}
use Rattle.interface.proofs.ReadsRecords.{records_left, records_none}
use Rattle.interface.proofs.ReadsParts.{left_of, entries_begin, ends_begin, ends_onward, entry_within, head_within, name_within}
use Rattle.stage.specs.Meaning.{Outcome, outcome, codes, lent, call}
use Rattle.stage.specs.Stage.{check_stage}
use Rattle.report.specs.Text.{line}
use Rattle.report.specs.Report.{Run, ran, empty_stage, derived, fed_on, run_entry, run_entries}

pub stage_read : (ws : List ℕ) (head w r : ℕ) (s : ShaderStage) → w ≡ word_at ws head → s ≡ stage_at (w / 16777216 % 8) → r ≡ stage_code s → r ≡ stage_code (entry_point_at ws head).stage
unfolding standing parts_at
stage_read ws head w r s e f g = rw (g, f, e)

-- ---- one entry point

-- a check is accepted where its number is 0
ok_number : (r : Result Unit Refusal) → eqb (answer_of r).number 0 ≡ is_ok r
ok_number (Ok v) = refl
ok_number (Err refusal) = number_nonzero refusal.number

module _ (ws L I E l s o called name : List ℕ) (r : Result Unit Refusal) (head stage : ℕ)
    (e : outcome (answer_of r) l s o ≡ check_stage (call ws called (codes stage 3 1 0 1) (lent L (2684354560 ∷ []) I E)))
    (f : E ≡ empty_stage) (g : stage ≡ stage_code (entry_point_at ws head).stage) (h : called ≡ name) (i : name ≡ name_at ws head) where
  is_derived : outcome (answer_of r) l s o ≡ derived ws (entry_point_at ws head) L I
  unfolding derived standing parts_at encode_sizes flat
  is_derived = rw (← f, ← g, ← i, ← h) e

  pub derived_answer_lem : answer_of r ≡ (derived ws (entry_point_at ws head) L I).answer
  derived_answer_lem = ap (λ (x : Outcome). x.answer) is_derived

  pub derived_layout : (kept : List ℕ) → kept ≡ l → kept ≡ (derived ws (entry_point_at ws head) L I).layout
  derived_layout kept e = e ∙ ap (λ (x : Outcome). x.layout) is_derived

  module _ (accepted : Bool) (v : accepted ≡ is_ok r) where
    pub accepted_fed : accepted ≡ true → o ≡ fed_on (derived ws (entry_point_at ws head) L I) I
    accepted_fed t = rw (← is_derived, ok_number r, ← v, t)

    pub refused_fed : accepted ≡ false → I ≡ fed_on (derived ws (entry_point_at ws head) L I) I
    refused_fed t = rw (← is_derived, ok_number r, ← v, t)

pub entry_run : (t t' : ArrayVec ℕ) (u ws L I l io : List ℕ) (e : EntryPoint) (stage : ℕ) (a : Answer) → stage ≡ stage_code e.stage → a ≡ (derived ws e L I).answer
    → l ≡ (derived ws e L I).layout → io ≡ fed_on (derived ws e L I) I → t' ≡ t → u ≡ t'.items ++ line stage a → ran l io u ≡ run_entry ws e (ran L I t.items)
entry_run t t' u ws L I l io e stage a s f g h k w = rw (w, k, f, g, h, s)

-- ---- the entry points that are left

module _ (ws : List ℕ) (h : decoded_number (decode ws) ≡ 0) (n head : ℕ) (hn : n ≡ entry_count ws) (hh : head ≡ entries_at ws) where
  pub heads_begin : end_from (entry_end ws) (n - 0) head < length ws
  heads_begin = let e : n - 0 ≡ n = omega arith in rw e (ends_begin ws h n head hn hh)

  pub run_begin : (r : Run) → run_entries ws (interface_of (decode ws)).entries r ≡ run_entries ws (left_of ws (n - 0) head) r
  run_begin r = let e : n - 0 ≡ n = omega arith in rw (e, entries_begin ws h n head hn hh)

module _ (ws : List ℕ) (n i head : ℕ) (ends : end_from (entry_end ws) (n - i) head < length ws) (h : i < n) where
  some_left : n - i ≡ 0 → ⊥
  some_left e = absurd (omega arith)

  pub heads_onward : (next : ℕ) → next ≡ entry_end ws head → end_from (entry_end ws) (n - (i + 1)) next < length ws
  heads_onward next e = let k : n - (i + 1) ≡ n - i - 1 = omega arith in rw k (ends_onward ws (n - i) head ends some_left next e)

  pub head_there : head < length ws
  head_there = head_within ws (n - i) head ends some_left

  pub entry_there : entry_end ws head < length ws
  entry_there = entry_within ws (n - i) head ends some_left

  pub name_there : workgroup_at ws head ≤ length ws
  name_there = name_within ws (n - i) head ends some_left

module _ (ws : List ℕ) (n i head : ℕ) (r goal : Run) (inv : goal ≡ run_entries ws (left_of ws (n - i) head) r) where
  pub run_onward : (next : ℕ) (s : Run) → i < n → s ≡ run_entry ws (entry_point_at ws head) r → next ≡ entry_end ws head → goal ≡ run_entries ws (left_of ws (n - (i + 1)) next) s
  unfolding run_entries
  run_onward next s h e f =
      let k : n - (i + 1) ≡ n - i - 1 = omega arith in
      let some : n - i ≡ 0 → ⊥ = λ z. absurd (omega arith) in
      inv ∙ rw (records_left (entry_point_at ws) (entry_end ws) (n - i) head some, e, f, k)

  pub run_ended : n ≤ i → r ≡ goal
  unfolding run_entries
  run_ended h = let none : n - i ≡ 0 = omega arith in sym (inv ∙ rw (records_none (entry_point_at ws) (entry_end ws) (n - i) head none))
