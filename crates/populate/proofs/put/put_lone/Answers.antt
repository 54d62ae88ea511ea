use Rattle.populate.proofs.PutWays.{numeric_room, numeric_put, array_room, array_put}
use Rattle.populate.proofs.put.put_lone.Goals as goal

pub put_bound-requires : goal.put_bound-requires
put_bound-requires c = search numeric_room

pub returns-then-kind-eq22 : goal.returns-then-kind-eq22
returns-then-kind-eq22 c = search numeric_put

pub put_clip-requires-clause-room : goal.put_clip-requires-clause-room
put_clip-requires-clause-room c = search array_room

pub returns : goal.returns
returns c = search array_put
