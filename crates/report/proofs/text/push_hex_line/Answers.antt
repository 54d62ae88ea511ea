use Rattle.std.proofs.Common.{rules}
use Rattle.report.proofs.Writing.{hex_put}
use Rattle.report.proofs.text.push_hex_line.Goals as goal

pub returns-clause-text_after : goal.returns-clause-text_after
returns-clause-text_after c = let written = rw c.unwrap.ensures at c.encode_to_slice.ensures.written in search (rules, hex_put)
