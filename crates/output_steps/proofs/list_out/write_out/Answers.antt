use native.Mathlib.Nat.{sub-zero, sub-add-eq, sub-eq-zero_of_le}
use Rattle.input_steps.proofs.VaryingLaws.{ahead, second_there}
use Rattle.output_steps.proofs.OutputLaws.{left_some, ahead_by}
use Rattle.output_steps.proofs.ListOutLaws.{begun_roomy, next_encodable, next_few, next_room, roomy_onward, all_onward, as_long, all_ended}
use borrow.Author.Rules.{rules}
use Rattle.output_steps.proofs.list_out.write_out.Goals as goal

pub loop-i-init : goal.loop-i-init
loop-i-init c = rw (sub-zero c.args.outputs.now.n) ((search ahead, search rules, search rules, search begun_roomy, search rules))

pub bounds-pack-at-in-loop-i : goal.bounds-pack-at-in-loop-i
bounds-pack-at-in-loop-i c = search (second_there, left_some, sub-eq-zero_of_le)

pub hand_on-head-requires-clause-head_value : goal.hand_on-head-requires-clause-head_value
hand_on-head-requires-clause-head_value c = (search rules, search (next_encodable, left_some, sub-eq-zero_of_le))

pub hand_on-head-requires-clause-second_len_bound : goal.hand_on-head-requires-clause-second_len_bound
hand_on-head-requires-clause-second_len_bound c = search (next_few, left_some, sub-eq-zero_of_le)

pub hand_on-head-requires-clause-second_in_bounds : goal.hand_on-head-requires-clause-second_in_bounds
hand_on-head-requires-clause-second_in_bounds c = search (next_room, left_some, sub-eq-zero_of_le)

pub loop-i-preserved : goal.loop-i-preserved
loop-i-preserved c = rw (sub-add-eq c.args.outputs.now.n c.loop-i._i 1) ((search (ahead_by, left_some, sub-eq-zero_of_le), search rules, search rules, search (roomy_onward, left_some, sub-eq-zero_of_le), search (all_onward, left_some, sub-eq-zero_of_le)))

pub shape_of-out : goal.shape_of-out
shape_of-out c = search as_long

pub returns : goal.returns
returns c = search (all_ended, sub-eq-zero_of_le)
