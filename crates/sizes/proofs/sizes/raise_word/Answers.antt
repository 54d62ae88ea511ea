use Rattle.sizes.proofs.SizeWays.{word_raised, word_kept}
use Rattle.sizes.proofs.sizes.raise_word.Goals as goal

pub returns-then-l-at : goal.returns-then-l-at
returns-then-l-at c = search word_raised

pub returns-else-l-at : goal.returns-else-l-at
returns-else-l-at c = search word_kept
