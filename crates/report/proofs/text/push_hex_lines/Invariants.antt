use Rattle.std.proofs.Common.{◌≡◌, ◌++◌, ◌+◌, ◌*◌, length, take}
use Rattle.report.specs.Text.{hex_lines}
use Rattle.report.proofs.text.push_hex_lines.Given as goal

abbrev pub invariant-loop-w : goal.invariant-loop-w
invariant-loop-w l = (length l.text.items ≡ length l.initial.text.items + 9 * l.w-index) × (l.text.items ≡ l.initial.text.items ++ hex_lines (take l.w-index l.words))
