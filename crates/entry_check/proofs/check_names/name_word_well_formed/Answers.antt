use Rattle.entry_check.proofs.CheckNames.{name_word_steps}
use Rattle.entry_check.proofs.check_names.name_word_well_formed.Goals as goal

pub returns-then-w-eq0 : goal.returns-then-w-eq0
returns-then-w-eq0 c = search name_word_steps

pub returns-then-left-eq1 : goal.returns-then-left-eq1
returns-then-left-eq1 c = search name_word_steps

pub returns-then-w-eq0-2 : goal.returns-then-w-eq0-2
returns-then-w-eq0-2 c = search name_word_steps

pub returns-then-left-eq2 : goal.returns-then-left-eq2
returns-then-left-eq2 c = search name_word_steps

pub returns-then-w-eq0-3 : goal.returns-then-w-eq0-3
returns-then-w-eq0-3 c = search name_word_steps

pub returns-then-left-eq3 : goal.returns-then-left-eq3
returns-then-left-eq3 c = search name_word_steps

pub returns : goal.returns
returns c = search name_word_steps
