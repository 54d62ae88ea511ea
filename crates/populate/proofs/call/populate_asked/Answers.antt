use Rattle.std.proofs.Common.{rules}
use Rattle.populate.proofs.CallWays.{too_deep, too_many, too_short, enough, all_put}
use Rattle.populate.proofs.call.populate_asked.Goals as goal

pub returns-then-note-gt8 : goal.returns-then-note-gt8
returns-then-note-gt8 c = rw c.plain.ensures (search too_deep)

pub returns-then-note-gt63 : goal.returns-then-note-gt63
returns-then-note-gt63 c = rw c.plain-then-note-gt63.ensures (search too_many)

pub returns-then-out-from : goal.returns-then-out-from
returns-then-out-from c = rw c.plain-then-out-from.ensures (search too_short)

pub put_varyings-requires-clause-room : goal.put_varyings-requires-clause-room
put_varyings-requires-clause-room c = search enough

pub returns : goal.returns
returns c = search (rules, all_put)
