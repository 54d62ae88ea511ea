use Rattle.report.proofs.Reporting.{report_odd, report_long, report_pack}
use Rattle.report.proofs.report_text.Goals as goal
use Rattle.report.proofs.report_text.Goals.{then-bytes-ne0-via-then-bytes-ne0, then-bytes-ne0-via-else-bytes-ne0+then-bytes-gt16384}

pub returns-then-bytes-ne0 : goal.returns-then-bytes-ne0
returns-then-bytes-ne0 c =
    elim c.then-bytes-ne0.branch [
      | then-bytes-ne0-via-then-bytes-ne0 w ↦ search report_odd
      | then-bytes-ne0-via-else-bytes-ne0+then-bytes-gt16384 w ↦ search report_long
    ]

pub returns : goal.returns
returns c = search report_pack
