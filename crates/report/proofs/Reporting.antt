-- Laws of a report's parts: a pack's text, the whole.
use Prim.Native.Nat.{ℕ, ◌%◌, ◌<◌, ◌≤◌}
use native.Mathlib.Omega.{arith}
use mathlib.Core.Path.{◌≡◌}
use mathlib.Core.List.{List, ◌++◌}
use borrow.Author.Tests.{eqb-false, eq-eqb, ne_eqb, lt-ltb, le-ltb}
use lib.ListN.{length, take}
use Rattle.word.specs.Numbers.{number_of}
use Rattle.word.specs.declared.refusal.Number.{Number}
use Rattle.word.proofs.Both.{number_nonzero}
use Rattle.layouts.specs.Format.{used_words}
use Rattle.interface.specs.Format.{Decoded, Damaged, Malformed, Pack, decode, decoded_number, interface_of}
use Rattle.report.specs.Text.{words_of, hex_lines}
use Rattle.report.specs.Report.{Run, ran, run_entries, run_text, start_run, refused_pack, decoded_text, report}

-- ---- a pack's text

pub pack_refused : (ws u : List ℕ) (n : Number) → number_of n ≡ decoded_number (decode ws) → u ≡ refused_pack (number_of n) → u ≡ decoded_text ws (decode ws)
pack_refused ws u n e f = by (decode ws) e
  where
    by : (d : Decoded) → number_of n ≡ decoded_number d → u ≡ decoded_text ws d
    by Damaged g = rw g at f
    by Malformed g = rw g at f
    by (Pack i) g = absurd (eqb-false (number_of n) 0 (number_nonzero n) g)

pub pack_run : (ws t u l io : List ℕ) (s : Run) (number n : ℕ) → number ≡ decoded_number (decode ws) → number ≡ 0 → s ≡ start_run
    → ran l io t ≡ run_entries ws (interface_of (decode ws)).entries s → take n l ≡ used_words l → u ≡ t ++ hex_lines (take n l) → u ≡ decoded_text ws (decode ws)
pack_run ws t u l io s number n e z b r w f = by (decode ws) (rw z at e) (rw b at r)
  where
    run_text_lem : (run : Run) → ran l io t ≡ run → u ≡ run_text run
    run_text_lem run g = rw (← g) (rw w at f)

    by : (d : Decoded) → 0 ≡ decoded_number d → ran l io t ≡ run_entries ws (interface_of d).entries start_run → u ≡ decoded_text ws d
    by Damaged g r = absurd (omega arith)
    by Malformed g r = absurd (omega arith)
    by (Pack i) g r = run_text_lem (run_entries ws i.entries start_run) r

-- ---- the whole

module _ (bs u : List ℕ) where
  pub report_odd : (length bs % 4 ≡ 0 → ⊥) → u ≡ refused_pack 1 → u ≡ report bs
  unfolding report
  report_odd h f = rw (ne_eqb (length bs % 4) 0 h) f

  pub report_long : length bs % 4 ≡ 0 → 16384 < length bs → u ≡ refused_pack 1 → u ≡ report bs
  unfolding report
  report_long h k f = rw (eq-eqb (length bs % 4) 0 h, lt-ltb 16384 (length bs) k) f

  pub report_pack : (lent ws : List ℕ) → length bs % 4 ≡ 0 → length bs ≤ 16384 → lent ≡ ws → ws ≡ words_of bs → u ≡ decoded_text lent (decode lent) → u ≡ report bs
  unfolding report
  report_pack lent ws h k e f g = rw (eq-eqb (length bs % 4) 0 h, le-ltb 16384 (length bs) k, ← f, ← e) g
