use Rattle.layouts.proofs.LayoutStores.{place_there}
use Rattle.layouts.proofs.layout.LayoutList.entry_place.Goals as goal

pub returns : goal.returns
returns c = search place_there
