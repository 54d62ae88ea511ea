use Rattle.std.proofs.Common.{rules, arith}
use Rattle.entry_points.proofs.ReadsNames.{word_other, word_alike, byte_differs, byte_agrees, bytes_ended}
use Rattle.entry_points.proofs.names.same_bytes.Goals as goal

pub returns-then-pack-from : goal.returns-then-pack-from
returns-then-pack-from c = search (rules, word_other)

pub loop-i-preserved : goal.loop-i-preserved
loop-i-preserved c = search (rules, word_alike)

pub returns-then-to_le_bytes-i : goal.returns-then-to_le_bytes-i
returns-then-to_le_bytes-i c = search (rules, byte_differs)

pub loop-i-2-preserved : goal.loop-i-2-preserved
loop-i-2-preserved c = search (rules, byte_agrees)

pub returns : goal.returns
returns c = search (rules, bytes_ended)
