use Rattle.std.proofs.Common.{rules}
use Rattle.report.proofs.Naming.{bytes_begun, bytes_more}
use Rattle.report.proofs.names.bytes_of.Goals as goal

pub loop-w-init : goal.loop-w-init
loop-w-init c = search (rules, bytes_begun)

pub loop-w-preserved : goal.loop-w-preserved
loop-w-preserved c = bytes_more _ _ _ _ _ c.loop-w-test.true c.loop-w.invariant.0 c.loop-w.invariant.1 c.to_le_bytes.ensures c.extend.ensures
