use native.Mathlib.Omega.{arith}
use borrow.Author.Rules.{rules}
use Rattle.places.proofs.MarkLaws.{marks_begin, distinct_begins, marks_onward, marked_twice, marked_onward}
use Rattle.places.proofs.places.Records.distinct_marked.Goals as goal

pub loop-i-init : goal.loop-i-init
loop-i-init g c = (search rules, search marks_begin, search distinct_begins)

pub returns-then-has_marked : goal.returns-then-has_marked
returns-then-has_marked g c = marked_twice g.row.WIDTH c.args.self.now.n c.loop-i.i c.args.self.now.words.now (omega arith) (omega arith) c.has_marked.result c.has_marked.ensures c.if-has_marked.true

pub loop-i-preserved : goal.loop-i-preserved
loop-i-preserved g c = (search rules, search (marks_onward, rules), marked_onward g.row.WIDTH c.args.self.now.n c.loop-i.i c.args.self.now.words.now (omega arith) (omega arith) c.has_marked.result c.has_marked.ensures c.if-has_marked.false c.loop-i.invariant.2)
