use Rattle.std.proofs.Common.{rules}
use Rattle.numeric.specs.TypeWords.{compare_types}
use Rattle.numeric.proofs.type_words.is_subtype_of.Goals as goal

pub returns-in_err-read_type : goal.returns-in_err-read_type
unfolding compare_types
returns-in_err-read_type c = search rules

pub returns-in_err-read_type-2 : goal.returns-in_err-read_type-2
unfolding compare_types
returns-in_err-read_type-2 c = search rules

pub returns : goal.returns
unfolding compare_types
returns c = search rules
