use Rattle.std.proofs.Common.{◌≡◌, true, false, sym, ◌∙◌, eqb-true, ne_eqb}
use borrow.Author.Tests.{eqb-false}
use Rattle.entry_check.proofs.CheckHeads.{stages_differ, counts_differ, heads_compared}
use Rattle.entry_check.proofs.check_names.same_head.Goals as goal
use Rattle.entry_check.proofs.check_names.same_head.Goals.{then-v-w, else-v-w}

pub returns-then-v-w-2 : goal.returns-then-v-w-2
returns-then-v-w-2 c =
    elim c.if-v-w.branch [
      | then-v-w w ↦ let same = eqb-true _ _ (sym w.value-is ∙ c.if-v-w-2.true) in search (heads_compared, same)
      | else-v-w w ↦ let never : true ≡ false = sym c.if-v-w-2.true ∙ (w.value-is ∙ ne_eqb _ _ w.if-v-w.false) in cc
    ]

pub returns-else-v-w-2 : goal.returns-else-v-w-2
returns-else-v-w-2 c =
    elim c.if-v-w.branch [
      | then-v-w w ↦ let other = eqb-false _ _ (sym w.value-is ∙ c.if-v-w-2.false) in rw c.if-v-w-2.false (search (counts_differ, other))
      | else-v-w w ↦ rw c.if-v-w-2.false (search stages_differ)
    ]
