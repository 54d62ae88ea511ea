use Rattle.std.proofs.Common.{rules}
use Rattle.output_steps.specs.Outputs.{fragment_outputs}
use Rattle.word.proofs.Both.{refused_ends, passed_on}
use Rattle.output_steps.proofs.OutputLaws.{slots_as, colours_past, colours_within}
use Rattle.output_steps.proofs.outputs.fragment_outputs.Goals as goal

pub returns-in_err-fragment_slots : goal.returns-in_err-fragment_slots
unfolding fragment_outputs
returns-in_err-fragment_slots c = search (rules, refused_ends, slots_as)

pub returns-then-most-entry : goal.returns-then-most-entry
unfolding fragment_outputs
returns-then-most-entry c = search (rules, passed_on, slots_as, colours_past)

pub returns : goal.returns
unfolding fragment_outputs
returns c = search (rules, passed_on, slots_as, colours_within)
