use Rattle.layouts.proofs.LayoutStores.{type_there, type_means}
use Rattle.layouts.proofs.layout.LayoutList.entry_type.Goals as goal

pub returns-clause-value : goal.returns-clause-value
returns-clause-value c = search type_there

pub returns-clause-meaning : goal.returns-clause-meaning
returns-clause-meaning c = search type_means
