use mathlib.Core.Path.{refl}
use native.Mathlib.Omega.{arith}
use borrow.Author.Rules.{rules}
use Rattle.layouts.proofs.LayoutLists.{well_formed}
use Rattle.layouts.proofs.LayoutStores.{head_more, push_room, push_encoded, push_decoded, push_well_formed}
use Rattle.layouts.proofs.layout.push_entry.Goals as goal

pub push_record-requires : goal.push_record-requires
push_record-requires c =
    (search rules, ((search rules, search rules, omega (arith, (well_formed _ c.requires.well_formed).holds)), head_more _ _ c.requires.well_formed refl))

pub returns-clause-value : goal.returns-clause-value
returns-clause-value c = search push_room

pub returns-clause-encoded : goal.returns-clause-encoded
returns-clause-encoded c = search push_encoded

pub returns-clause-decoded : goal.returns-clause-decoded
returns-clause-decoded c = search push_decoded

pub returns-clause-still_well_formed : goal.returns-clause-still_well_formed
returns-clause-still_well_formed c = search push_well_formed
