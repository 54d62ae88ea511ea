use Rattle.input_steps.proofs.WorkgroupLaws.{over_none, over_two, two_fit, three_fit}
use Rattle.input_steps.proofs.workgroup.product_over.Goals as goal

pub returns-then-z-eq0 : goal.returns-then-z-eq0
returns-then-z-eq0 c = search over_none

pub overflow_mul-xy : goal.overflow_mul-xy
overflow_mul-xy c = search two_fit

pub returns-then-total-xy : goal.returns-then-total-xy
returns-then-total-xy c = search over_two

pub overflow_mul-result : goal.overflow_mul-result
overflow_mul-result c = search three_fit
