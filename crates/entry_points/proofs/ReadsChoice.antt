-- The ways of the functions that choose an entry point.
use Prim.Native.Nat.{ℕ, zero, suc, ◌+◌, ◌/◌, ◌%◌, ◌<◌, ◌≤◌}
use native.Mathlib.Omega.{arith}
use native.Mathlib.Numerals.{add-one}
use native.Mathlib.Nat.{suc-add}
use mathlib.Core.Path.{◌≡◌, refl, sym, ◌∙◌}
use mathlib.Core.Bool.{Bool, true, false}
use mathlib.Core.List.{List, [], ◌∷◌}
use Rattle.std.specs.Prelude.{Option, Some, None, Result, Err, is_some}
use Rattle.std.specs.Option.{ok_or, MatchOption}
use Rattle.entry_points.specs.declared.choose.ChoiceError.{ChoiceError}
use Rattle.entry_points.specs.declared.choose.ChoiceError.TheVariants.{Absent, Several}
use borrow.Author.Tests.{lt-ltb, le-ltb}
use lib.Dec.{ltb}
use lib.ListN.{length, drop, drop_of_length-le}
use Rattle.word.specs.Choice.{pick}
use Rattle.word.specs.Words.{word_at}
use Rattle.word.specs.Answers.{refused}
use Rattle.word.specs.Refusals.{refusal_answer}
use Rattle.word.specs.declared.refusal.Refusal.{Refusal}
use Rattle.pack_check.specs.Errors.{error_number, pack_refusal}
use Rattle.pack_check.specs.declared.check_pack.PackError.{PackError}
use Rattle.pack_check.specs.declared.check_pack.PackError.TheVariants as Error
use Rattle.pack_check.proofs.Errors.{error_some}
use Rattle.word.specs.declared.answer.Answer.{Answer}
use Rattle.interface.specs.Meaning.{EntryPoint, entry_point_nth}
use Rattle.interface.specs.Format.{stage_at, named, Decoded, Damaged, Malformed, Pack, decode, decoded_number, interface_of}
use Rattle.interface.specs.Inner.Reads.{name_at, standing}
use Rattle.entry_points.specs.Rules.{of_stage, find_from, find_entry_point, only_from, only_entry_point, only_answer, finalize_name}
use Rattle.interface.specs.Inner.Parts.{parts_at, entry_end, entry_point_at, entry_count, entries_at, Heads}
use Rattle.interface.specs.declared.types.ShaderStage.{ShaderStage}
use Rattle.interface.proofs.ReadsRecords.{records_length}
use Rattle.interface.proofs.ReadsParts.{nth_read}
use Rattle.interface.proofs.ReadsPack.{accepted}

-- ---- an entry point's stage and name

pub stands_here : (ws heads : List ℕ) (p at : ℕ) → decoded_number (decode ws) ≡ 0 → Heads ws heads → p < length (interface_of (decode ws)).entries → at ≡ word_at heads p
    → entry_point_at ws at ≡ entry_point_nth (interface_of (decode ws)).entries p
stands_here ws heads p at h g k e = nth_read ws heads p at h g e k (parts_at ws at) refl

module _ (ws : List ℕ) (at : ℕ) (e : EntryPoint) (h : entry_point_at ws at ≡ e) where
  pub stage_read : (w : ℕ) (s : ShaderStage) → w ≡ word_at ws at → s ≡ stage_at (w / 16777216 % 8) → s ≡ e.stage
  unfolding standing parts_at
  stage_read w s hw hs = rw (← h, hs, hw)

  pub name_read : e.name ≡ name_at ws at
  unfolding standing parts_at
  name_read = rw (← h)

-- ---- by stage and name

drop_nth : (es : List EntryPoint) (i : ℕ) → i < length es → drop i es ≡ entry_point_nth es i ∷ drop (i + 1) es
unfolding entry_point_nth
drop_nth [] i h = absurd (omega arith)
drop_nth (e ∷ es) zero h = refl
drop_nth (e ∷ es) (suc i) h = rw suc-add (drop_nth es i (omega arith))

module _ (stage : ShaderStage) (name : List ℕ) (es : List EntryPoint) where
  abbrev pub named_at : ℕ → Bool
  named_at k = named stage name (entry_point_nth es k)

  find_step : (i : ℕ) → i < length es → find_from stage name (drop i es) i ≡ pick (named_at i) (Some i) (find_from stage name (drop (i + 1) es) (i + 1))
  unfolding find_from
  find_step i k = rw (drop_nth es i k)

  -- entry points that do not have the name are passed over
  passed_over : (i : ℕ) → i ≤ length es → ((k : ℕ) → 0 ≤ k → k < i → named_at k ≡ false) → find_from stage name es 0 ≡ find_from stage name (drop i es) i
  passed_over zero l h = refl
  passed_over (suc i) l h =
      passed_over i (omega arith) (λ k z b. h k z (omega arith)) ∙ find_step i (omega arith) ∙ rw (h i (omega arith) (omega arith), add-one i)

  pub first_named : (r : Option ℕ)
      → MatchOption r ((k : ℕ) → 0 ≤ k → k < length es → named_at k ≡ false) (λ i. (0 ≤ i) × (i < length es) × (named_at i ≡ true) × ((k : ℕ) → 0 ≤ k → k < i → named_at k ≡ false))
      → r ≡ find_entry_point stage name es
  unfolding find_from
  first_named None h =
      let l : length es ≤ length es = omega arith in
      sym (passed_over (length es) l h ∙ rw (drop_of_length-le es l))
  first_named (Some i) h = sym (passed_over i (omega (arith, h.1)) h.3 ∙ find_step i h.1 ∙ rw h.2)

-- ---- by stage alone

module _ (stage : ShaderStage) (es : List EntryPoint) (i : ℕ) (only : Option ℕ) (goal : Result ℕ ChoiceError) (inv : goal ≡ only_from stage only (drop i es) i) where
  module _ (b : Bool) (k : i < length es) (e : b ≡ of_stage stage (entry_point_nth es i)) where
    met : (x : EntryPoint) (others : List EntryPoint) → only_from stage None (x ∷ others) i ≡ only_from stage (pick (of_stage stage x) (Some i) None) others (i + 1)
    unfolding only_from
    met x others = refl

    here : goal ≡ only_from stage only (entry_point_nth es i ∷ drop (i + 1) es) i
    here = inv ∙ rw (drop_nth es i k)

    pub only_other : (more : Option ℕ) → b ≡ false → more ≡ only → goal ≡ only_from stage more (drop (i + 1) es) (i + 1)
    unfolding only_from
    only_other more t m = rw m (by only here)
      where
        by : (o : Option ℕ) → goal ≡ only_from stage o (entry_point_nth es i ∷ drop (i + 1) es) i → goal ≡ only_from stage o (drop (i + 1) es) (i + 1)
        by None g = g ∙ met (entry_point_nth es i) (drop (i + 1) es) ∙ rw (← e, t)
        by (Some j) g = g ∙ rw (← e, t)

    pub only_first : (more : Option ℕ) → b ≡ true → is_some only ≡ false → more ≡ Some i → goal ≡ only_from stage more (drop (i + 1) es) (i + 1)
    unfolding only_from
    only_first more t n m = rw m (by only here n)
      where
        by : (o : Option ℕ) → goal ≡ only_from stage o (entry_point_nth es i ∷ drop (i + 1) es) i → is_some o ≡ false → goal ≡ only_from stage (Some i) (drop (i + 1) es) (i + 1)
        by None g n = g ∙ met (entry_point_nth es i) (drop (i + 1) es) ∙ rw (← e, t)
        by (Some j) g n = cc

    pub only_second : b ≡ true → is_some only ≡ true → Err Several ≡ goal
    unfolding only_from
    only_second t n = by only here n
      where
        by : (o : Option ℕ) → goal ≡ only_from stage o (entry_point_nth es i ∷ drop (i + 1) es) i → is_some o ≡ true → Err Several ≡ goal
        by None g n = cc
        by (Some j) g n = sym (g ∙ rw (← e, t))

  pub only_ended : (r : Result ℕ ChoiceError) → r ≡ ok_or only Absent → length es ≤ i → r ≡ goal
  unfolding only_from
  only_ended r o h = o ∙ sym (inv ∙ rw (drop_of_length-le es h) (by only))
    where
      by : (o : Option ℕ) → only_from stage o [] i ≡ ok_or o Absent
      by None = refl
      by (Some j) = refl

-- ---- where no name is given

module _ (d : Decoded) (stage n : ℕ) (e : n ≡ decoded_number d) where
  pub pack_refused : (error : PackError) (r : Refusal) → n ≡ error_number error → r ≡ pack_refusal error → refusal_answer r ≡ finalize_name d stage
  unfolding finalize_name
  pack_refused error r f h = rw h (by d error (sym f ∙ e))
    where
      by : (d : Decoded) (error : PackError) → error_number error ≡ decoded_number d → refusal_answer (pack_refusal error) ≡ finalize_name d stage
      by Damaged Error.Damaged g = refl
      by Damaged Error.Malformed g = absurd (omega (arith, g))
      by Malformed Error.Damaged g = absurd (omega (arith, g))
      by Malformed Error.Malformed g = refl
      by (Pack i) error g = absurd (error_some error g)

  module _ (z : n ≡ 0) (x : Answer) where
    accepted_answer : x ≡ pick (ltb stage 5) (only_answer (only_entry_point (stage_at stage) (interface_of d).entries)) (refused 3) → x ≡ finalize_name d stage
    unfolding finalize_name
    accepted_answer h = by d (sym e ∙ z) h
      where
        by : (d : Decoded) → decoded_number d ≡ 0 → x ≡ pick (ltb stage 5) (only_answer (only_entry_point (stage_at stage) (interface_of d).entries)) (refused 3) → x ≡ finalize_name d stage
        by Damaged z h = absurd (omega arith)
        by Malformed z h = absurd (omega arith)
        by (Pack i) z h = h

    pub stage_refused : 4 < stage → x ≡ refused 3 → x ≡ finalize_name d stage
    stage_refused k h = accepted_answer (rw (le-ltb stage 5 k) h)

    pub stage_chosen : (s : ShaderStage) (c : Result ℕ ChoiceError) → stage ≤ 4 → s ≡ stage_at stage → c ≡ only_entry_point s (interface_of d).entries → x ≡ only_answer c
        → x ≡ finalize_name d stage
    stage_chosen s c k hs hc h = accepted_answer (rw (lt-ltb stage 5 (omega arith), ← hs, ← hc) h)

pub few_entries : (ws : List ℕ) → decoded_number (decode ws) ≡ 0 → length (interface_of (decode ws)).entries ≤ 16
few_entries ws h = rw ((accepted ws h).entries, records_length (entry_point_at ws) (entry_end ws) (entry_count ws) (entries_at ws)) (accepted ws h).few_entries

-- ---- what the functions of src/choose.rt use

pub ruleset found_only = (only_other, only_first, only_second, only_ended)

pub ruleset chosen_by_stage = (pack_refused, stage_refused, stage_chosen, few_entries)
