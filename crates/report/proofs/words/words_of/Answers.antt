use Rattle.std.proofs.Common.{rules}
use Rattle.report.proofs.Packing.{words_ended}
use Rattle.report.proofs.words.words_of.Goals as goal

pub returns : goal.returns
returns c = search (rules, words_ended)
