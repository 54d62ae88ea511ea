use Rattle.word.proofs.Both.{number_nonzero}
use Rattle.bindings.proofs.answers.binding_refusal.Goals as goal

pub returns : goal.returns
returns c = rw (number_nonzero c.args.number, c.new.ensures)
