use Rattle.stage.proofs.JudgeLaws.{pairs_derived, pairs_given, pairs_provided}
use Rattle.stage.proofs.judge.pair_step.Goals as goal

pub returns-then-derived : goal.returns-then-derived
returns-then-derived c = search pairs_derived

pub pair_uses-requires : goal.pair_uses-requires
pair_uses-requires c = search pairs_given

pub returns : goal.returns
returns c = search pairs_provided
