use Rattle.std.proofs.Common.{◌≡◌, ◌*◌, length, take}
use Rattle.interface.specs.Format.{bytes_of}
use Rattle.report.proofs.names.bytes_of.Given as goal

abbrev pub invariant-loop-w : goal.invariant-loop-w
invariant-loop-w l = (length l.bytes.items ≡ 4 * l.w-index) × (l.bytes.items ≡ bytes_of (take l.w-index l.words))
