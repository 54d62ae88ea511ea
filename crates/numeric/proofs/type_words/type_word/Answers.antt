use Rattle.std.proofs.Common.{rules}
use Rattle.numeric.specs.TypeWords.{type_word}
use Rattle.numeric.proofs.Compared.{kind_tag}
use Rattle.numeric.proofs.type_words.type_word.Goals as goal

pub returns : goal.returns
unfolding type_word
returns c = rw (kind_tag c.args.t.scalar.kind) (search rules)
