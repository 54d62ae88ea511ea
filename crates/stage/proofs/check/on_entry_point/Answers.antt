use Rattle.std.proofs.Common.{refl}
use Rattle.stage.proofs.CheckLaws.{names_at, table_inside, table_listed, table_encodable, room_enough, entry_short, entry_went}
use Rattle.stage.proofs.check.on_entry_point.Goals as goal

pub returns-then-out-point : goal.returns-then-out-point
returns-then-out-point c =
    let point = c.new-point.result in
    rw (c.plain.ensures, ← c.new-point.ensures.0)
    (entry_short _ _ _ _ _ point.pack.now point.parts point.summary (rw (c.new-point.ensures.0, c.new-point.ensures.1) c.entry_parts.ensures.stands) point.summed
    _ _ _ _ refl refl refl refl c.if-out-point.true)

pub new-requires : goal.new-requires
new-requires c = search table_inside

pub invariant_of-resources : goal.invariant_of-resources
invariant_of-resources c = record { encodable = search table_encodable }

pub invariant_of-entry-clause-listed : goal.invariant_of-entry-clause-listed
invariant_of-entry-clause-listed c = rw c.new-point.ensures.0 (search table_listed)

pub invariant_of-entry-clause-named : goal.invariant_of-entry-clause-named
invariant_of-entry-clause-named c = rw (c.new-point.ensures.0, c.new-point.ensures.1) (search names_at)

pub run_body-requires-clause-room : goal.run_body-requires-clause-room
run_body-requires-clause-room c = search room_enough

pub returns : goal.returns
returns c =
    let point = c.new-point.result in
    rw (← c.new-point.ensures.0)
    (entry_went _ _ _ _ _ point.pack.now point.parts point.summary (rw (c.new-point.ensures.0, c.new-point.ensures.1) c.entry_parts.ensures.stands) point.summed
    _ c.if-out-point.false c.run_body.ensures)
