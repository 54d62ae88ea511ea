use Rattle.stage_lists.proofs.OutWords.{var_first, var_other}
use Rattle.stage_lists.proofs.out_words.var_word.Goals as goal

pub returns-then-shape-lt13 : goal.returns-then-shape-lt13
returns-then-shape-lt13 c = search var_first

pub returns : goal.returns
returns c = search var_other
