use Rattle.std.proofs.Common.{refl}
use Rattle.output_steps.proofs.ListOutLaws.{outputs_encodable, outputs_room, payload_read_encodable, list_out}
use borrow.Author.Rules.{rules}
use Rattle.output_steps.proofs.list_out.list_out.Goals as goal
use Rattle.output_steps.proofs.list_out.list_out.Goals.{then-walk, else-walk}

pub write_out-requires-clause-payload_value : goal.write_out-requires-clause-payload_value
write_out-requires-clause-payload_value c = search payload_read_encodable

pub write_out-requires-clause-encodable : goal.write_out-requires-clause-encodable
write_out-requires-clause-encodable c = search outputs_encodable

pub write_out-requires-clause-room : goal.write_out-requires-clause-room
write_out-requires-clause-room c = search outputs_room

pub returns : goal.returns
returns c =
    list_out c.args.entry.now.pack.now c.args.entry.now.parts _ c.outputs.ensures c.args.stage c.args.walk c.args.entry.now.summary c.if-walk.primitive_out _ _ _ _ (search rules)
    (elim c.if-walk.branch [
      | then-walk w ↦ rw (w.primitive_out-is, w.if-walk.true) refl
      | else-walk w ↦ rw (w.primitive_out-is, w.if-walk.false) refl
    ])
    c.primitive_out-primitive.ensures c.payload.ensures c.write_out.ensures
