use Rattle.std.proofs.Common.{rules}
use Rattle.word.specs.Lists.{flat}
use Rattle.varying.specs.Format.{payload_word}
use Rattle.stage_lists.specs.Format.{encode_stage}
use Rattle.report.proofs.run.empty_stage.Goals as goal

pub returns : goal.returns
unfolding encode_stage flat payload_word
returns c = search rules
