use Rattle.output_steps.proofs.OutputLaws.{part_locals, part_clip, part_built_in, with_local, with_built_in}
use Rattle.output_steps.proofs.types.Summary.with_next.Goals as goal

pub returns-then-kind-eq12 : goal.returns-then-kind-eq12
returns-then-kind-eq12 c = search with_local

pub joined-requires-clause-few_more : goal.joined-requires-clause-few_more
joined-requires-clause-few_more c = (search part_locals, search part_clip, search part_built_in)

pub returns : goal.returns
returns c = search with_built_in
