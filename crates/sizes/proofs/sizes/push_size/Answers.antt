use mathlib.Core.Path.{refl}
use native.Mathlib.Omega.{arith}
use borrow.Author.Rules.{rules}
use Rattle.sizes.proofs.SizeLists.{well_formed}
use Rattle.sizes.proofs.SizeStores.{push_fits, head_more, push_stored}
use Rattle.sizes.proofs.sizes.push_size.Goals as goal

pub push_record-requires : goal.push_record-requires
push_record-requires c =
    (search rules, ((search rules, search rules, omega (arith, (well_formed _ c.requires.well_formed).holds)), head_more _ _ c.requires.well_formed refl))

pub returns-clause-value : goal.returns-clause-value
returns-clause-value c = search push_fits

pub returns-clause-encoded : goal.returns-clause-encoded
returns-clause-encoded c = search push_stored
