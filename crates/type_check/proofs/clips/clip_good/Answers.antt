use Rattle.type_check.proofs.ClipWays.{element_read}
use Rattle.type_check.proofs.clips.clip_good.Goals as goal

pub start-requires : goal.start-requires
start-requires c = search (element_read, c.requires.element)
