use Rattle.std.proofs.Common.{◌≡◌, ◌∙◌}
use Rattle.word.specs.Numbers.{number_of}
use Rattle.interface.specs.Format.{decode, decoded_number}
use Rattle.pack_check.proofs.Errors.{refusal_code}
use Rattle.report.proofs.Reporting.{pack_refused, pack_run}
use Rattle.report.proofs.pack_text.Goals as goal

pub returns-in-Err : goal.returns-in-Err
returns-in-Err c =
    let number : number_of c.from.result.number ≡ decoded_number (decode c.args.pack.now) = rw c.from.ensures (refusal_code c.in-Err.error) ∙ c.in-Err.ensures in
    search (pack_refused, number)

pub returns : goal.returns
returns c = search (pack_run, c.in_default.ensures)
