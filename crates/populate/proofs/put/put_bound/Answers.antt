use Rattle.populate.proofs.PutWays.{put_local, put_built_in, put_none, local_first, local_second, built_in_room}
use Rattle.populate.proofs.put.put_bound.Goals as goal

pub bounds-out-to : goal.bounds-out-to
bounds-out-to c = search local_first

pub bounds-out-to-in-12 : goal.bounds-out-to-in-12
bounds-out-to-in-12 c = search local_second

pub bounds-out-to-in-14 : goal.bounds-out-to-in-14
bounds-out-to-in-14 c = search built_in_room

pub returns-in-12 : goal.returns-in-12
returns-in-12 c = search put_local

pub returns-in-14 : goal.returns-in-14
returns-in-14 c = search put_built_in

pub returns-in_default : goal.returns-in_default
returns-in_default c = search put_none
