use Rattle.populate.proofs.PutWays.{var_fits, var_is}
use Rattle.populate.proofs.put.var_word.Goals as goal

pub overflow_add-result : goal.overflow_add-result
overflow_add-result c = search var_fits

pub returns : goal.returns
returns c = search var_is
