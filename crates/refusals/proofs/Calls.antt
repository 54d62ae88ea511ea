-- A call: refused with its lists as they were, or come to its steps.
use Prim.Native.Nat.{ℕ}
use mathlib.Core.Path.{◌≡◌, refl, ap}
use mathlib.Core.Bool.{true, false, false≢true}
use lib.Dec.{ltb}
use lib.ListN.{length}
use Rattle.word.specs.Numbers as Number
use Rattle.word.specs.Answers.{accepted}
use Rattle.word.proofs.Truth.{by_test}
use Rattle.interface.specs.Meaning.{EntryPoint, Interface, entry_point_nth}
use Rattle.interface.specs.Format.{Decoded, Damaged, Malformed, Pack, decode}
use Rattle.entry_points.specs.Rules.{find_entry_point}
use Rattle.std.specs.Prelude.{Option, Some, None}
use Rattle.word.specs.Lists.{among}
use Rattle.stage.specs.Meaning.{Call, Outcome}
use Rattle.stage.specs.Stage.{call_good, request_of, derived_of, unchanged, out_words, run_body, on_decoded, on_chosen, check_stage}
use Rattle.refusals.specs.Table.{call_numbers}

-- the steps of a call
abbrev pub run_of : Call → Interface → EntryPoint → Outcome
run_of c i e = run_body (derived_of c.codes) (request_of c.codes) c.lent i e

-- a call that comes to its steps
pub record Runs (c : Call) : Type 0 where
  pub interface : Interface
  pub position : ℕ
  pub decoded : decode c.pack ≡ Pack interface
  pub good : call_good c.lent c.codes ≡ true
  pub chosen : find_entry_point (request_of c.codes).stage c.name interface.entries ≡ Some position
  pub room : ltb (length c.lent.out) (out_words (entry_point_nth interface.entries position)) ≡ false

pub runs_on : (c : Call) (b : Runs c) → check_stage c ≡ run_of c b.interface (entry_point_nth b.interface.entries b.position)
unfolding check_stage
runs_on c b = rw (b.decoded, b.good, b.chosen, b.room)

module _ (P : Outcome → Type 0) (c : Call) (refusal : (n : ℕ) → among call_numbers n ≡ true → P (unchanged c.lent n))
    (steps : (b : Runs c) → P (run_of c b.interface (entry_point_nth b.interface.entries b.position))) where
  chosen_call : (i : Interface) → decode c.pack ≡ Pack i → call_good c.lent c.codes ≡ true → (x : Option ℕ)
      → find_entry_point (request_of c.codes).stage c.name i.entries ≡ x → P (on_chosen (derived_of c.codes) (request_of c.codes) c.lent i x)
  unfolding among
  chosen_call i d g (Some k) e =
      by_test (ltb (length c.lent.out) (out_words (entry_point_nth i.entries k)))
      (λ t. rw t (refusal Number.short_out refl))
      (λ n. rw n (steps (record { interface = i; position = k; decoded = d; good = g; chosen = e; room = n })))
  chosen_call i d g None e = refusal Number.entry_absent refl

  decoded_call : (x : Decoded) → decode c.pack ≡ x → P (on_decoded c x)
  unfolding among
  decoded_call Damaged d = refusal Number.damaged_pack refl
  decoded_call Malformed d = refusal Number.malformed_pack refl
  decoded_call (Pack i) d =
      by_test (call_good c.lent c.codes)
      (λ t. rw t (chosen_call i d t (find_entry_point (request_of c.codes).stage c.name i.entries) refl))
      (λ n. rw n (refusal Number.bad_call refl))

  -- what holds of every refusal before the steps and of every call that comes to its steps holds of every call
  pub by_call : P (check_stage c)
  unfolding check_stage
  by_call = decoded_call (decode c.pack) refl

call_refuses : (n : ℕ) → among call_numbers n ≡ true → n ≡ 0 → ⊥
unfolding among
call_refuses n h z = false≢true (rw z at h)

-- an accepted call came to its steps
pub accepted_runs : (c : Call) → (check_stage c).answer ≡ accepted → Runs c
accepted_runs c =
    by_call (λ o. o.answer ≡ accepted → Runs c) c
    (λ n h e. absurd (call_refuses n h (ap (λ a. a.number) e)))
    (λ b e. b)
