use Rattle.populate.proofs.PutWays.{clip_none, clip_some, clip_room}
use Rattle.populate.proofs.put.put_clip.Goals as goal

pub returns-then-not-is_clip : goal.returns-then-not-is_clip
returns-then-not-is_clip c = search clip_none

pub bounds-out-to : goal.bounds-out-to
bounds-out-to c = search clip_room

pub returns : goal.returns
returns c = search clip_some
