use Rattle.test_lists.proofs.Tested.{out_there, no_list, full, rest_decides}
use Rattle.test_lists.proofs.on_stages.has_room.Goals as goal

pub returns-then-not-out_well_formed : goal.returns-then-not-out_well_formed
returns-then-not-out_well_formed c = search no_list

pub counted-n-requires : goal.counted-n-requires
counted-n-requires c = search out_there

pub returns-then-n-lt63 : goal.returns-then-n-lt63
returns-then-n-lt63 c = search rest_decides

pub returns-else-n-lt63 : goal.returns-else-n-lt63
returns-else-n-lt63 c = search full
