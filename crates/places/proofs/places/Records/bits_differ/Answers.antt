use borrow.Author.Rules.{rules}
use Rattle.places.proofs.MarkLaws.{marks_begin, distinct_begins, bits_onward, bits_apart, distinct_ended}
use Rattle.places.proofs.places.Records.bits_differ.Goals as goal

pub loop-i-init : goal.loop-i-init
loop-i-init g c = (search marks_begin, search distinct_begins)

pub loop-i-preserved : goal.loop-i-preserved
loop-i-preserved g c = (search (bits_onward, rules), search (bits_apart, rules))

pub returns : goal.returns
returns g c = search (distinct_ended, rules)
