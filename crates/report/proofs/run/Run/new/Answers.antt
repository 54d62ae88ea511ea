use Rattle.std.proofs.Common.{rules}
use Rattle.word.specs.Lists.{flat}
use Rattle.layouts.specs.Format.{encode_layout}
use Rattle.report.proofs.run.Run.new.Goals as goal

pub returns : goal.returns
unfolding encode_layout flat
returns c = search rules
