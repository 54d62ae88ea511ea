use Rattle.test_lists.proofs.Tested.{payload_fits}
use Rattle.test_lists.proofs.on_stages.begin.Goals as goal

pub begin_out-requires-clause-payload_fits : goal.begin_out-requires-clause-payload_fits
begin_out-requires-clause-payload_fits g c = search payload_fits
