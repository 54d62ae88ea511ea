-- The text is of the bytes that the input began with, and so of all of them.
use Rattle.std.proofs.Common.{◌≡◌, ℕ, List, Option, length, take, None, Some, IfSome, ap, subst, ◌∙◌}
use Rattle.std.specs.Io.KnownBytes.{Appends}
use Rattle.report.specs.Report.{report}
use Rattle.check_pack.proofs.Reports.{report_take}
use Rattle.check_pack.proofs.check.Goals as goal

printed : (input before after : Option (List ℕ)) (bytes : List ℕ) (m : ℕ) → m ≡ 16385 → IfSome input (λ xs. bytes ≡ take m xs)
    → Appends before after (report bytes) → IfSome input (λ xs. Appends before after (report xs))
printed None before after bytes m long first said = tt
printed (Some xs) before after bytes m long first said =
    subst (Appends before after) (ap report first ∙ ap (λ n. report (take n xs)) long ∙ report_take xs) said

pub returns-in-Ok-print_report : goal.returns-in-Ok-print_report
returns-in-Ok-print_report g c =
    printed (g.R.Read.remaining c.args.input.now) (g.W.Write.contents c.args.output.now) (g.W.Write.contents c.print_report.new.output)
    (take c.in-Ok.n c.read_input.new.room) (length c.read_input.new.room) c.read_input.auto.room c.in-Ok.ensures.bytes c.in-Ok-print_report.ensures
