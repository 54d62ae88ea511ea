use Rattle.layouts.proofs.LayoutStores.{visibility_there}
use Rattle.layouts.proofs.layout.LayoutList.entry_visibility.Goals as goal

pub returns : goal.returns
returns c = search visibility_there
