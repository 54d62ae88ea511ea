use Rattle.std.proofs.Common.{rules}
use Rattle.numeric.specs.TypeWords.{type_of}
use Rattle.numeric.proofs.type_words.type_of.Goals as goal

pub returns : goal.returns
unfolding type_of
returns c = search rules
