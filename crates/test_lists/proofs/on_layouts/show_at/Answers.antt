use Rattle.test_lists.proofs.Tested.{entry_there_lem}
use Rattle.layouts.proofs.LayoutStores.{head_there}
use Rattle.test_lists.proofs.on_layouts.show_at.Goals as goal

pub counted-requires : goal.counted-requires
counted-requires g c = search head_there

pub entry_place-requires : goal.entry_place-requires
entry_place-requires g c = search entry_there_lem

pub entry_type-requires : goal.entry_type-requires
entry_type-requires g c = search entry_there_lem

pub entry_least-requires : goal.entry_least-requires
entry_least-requires g c = search entry_there_lem

pub entry_visibility-requires : goal.entry_visibility-requires
entry_visibility-requires g c = search entry_there_lem
