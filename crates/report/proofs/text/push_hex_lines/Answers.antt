use Rattle.std.proofs.Common.{rules}
use Rattle.report.proofs.Writing.{hex_begun, hex_more}
use Rattle.report.proofs.text.push_hex_lines.Goals as goal

pub loop-w-init : goal.loop-w-init
loop-w-init c = (search rules, search hex_begun)

pub loop-w-preserved : goal.loop-w-preserved
loop-w-preserved c = (search rules, search hex_more)
