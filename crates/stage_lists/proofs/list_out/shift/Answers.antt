use Rattle.stage_lists.proofs.OutStores.{shift_onward, shift_ended}
use Rattle.std.proofs.Common.{refl, rules}
use Rattle.stage_lists.proofs.list_out.shift.Goals as goal

pub loop-i-preserved : goal.loop-i-preserved
loop-i-preserved c = (search rules, shift_onward c.loop-i.out _ c.args.from c.args.n c.loop-i.i c.loop-i.a c.loop-i.b (search rules) _ _ _ (search rules) (search rules) refl refl (search rules))

pub returns : goal.returns
returns c = search shift_ended
