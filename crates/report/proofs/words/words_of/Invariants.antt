use Rattle.std.proofs.Common.{◌≡◌, length, take, map}
use Rattle.std.specs.Int.{w32, from_le_bytes}
use Rattle.report.proofs.words.words_of.Given as goal

abbrev pub invariant-loop-four : goal.invariant-loop-four
invariant-loop-four l = (length l.words.items ≡ l.four-index) × (l.words.items ≡ map (from_le_bytes w32) (take l.four-index l.fours))
