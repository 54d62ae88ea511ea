use Rattle.std.proofs.Common.{rules}
use Rattle.output_steps.proofs.OutputLaws.{fragment_taken, fragment_location_lem, fragment_count_lem}
use Rattle.output_steps.proofs.outputs.fragment_slots.Goals as goal

pub returns-then-limit-taken : goal.returns-then-limit-taken
returns-then-limit-taken c = search (rules, fragment_taken)

pub returns-then-limit-s : goal.returns-then-limit-s
returns-then-limit-s c = search (rules, fragment_location_lem)

pub returns : goal.returns
returns c = search (rules, fragment_count_lem)
