use Rattle.layouts.proofs.LayoutWays.{groups_decoded}
use Rattle.layouts.proofs.layout.group_count.Goals as goal

pub returns : goal.returns
returns c = search groups_decoded
