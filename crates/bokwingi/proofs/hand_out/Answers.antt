use Rattle.bokwingi.proofs.DetailLaws.{room_none, room_one, room_two, room_three, room_past_one, room_past_two}
use Rattle.bokwingi.proofs.hand_out.Goals as goal

pub returns-then-details-eq0 : goal.returns-then-details-eq0
returns-then-details-eq0 c = search room_none

pub returns-then-details-eq1 : goal.returns-then-details-eq1
returns-then-details-eq1 c = search room_one

pub bounds-details-1 : goal.bounds-details-1
bounds-details-1 c = search room_past_one

pub returns-then-details-eq2 : goal.returns-then-details-eq2
returns-then-details-eq2 c = search room_two

pub bounds-details-2 : goal.bounds-details-2
bounds-details-2 c = search room_past_two

pub returns : goal.returns
returns c = search room_three
