use Rattle.std.proofs.Common.{◌≡◌, ◌∙◌, rules, arith, length}
use Rattle.std.proofs.Math.Seq.{take-length}
use Rattle.word.proofs.Sums.{added, added_more, sum_added, sum_none}
use Rattle.word.proofs.closing_sum.Goals as goal

pub returns-in_default : goal.returns-in_default
returns-in_default c = search (rules, sum_none)

pub loop-w-preserved : goal.loop-w-preserved
loop-w-preserved c = search (rules, added_more)

pub returns : goal.returns
returns c =
    let all : c.loop-w.w-index ≡ length c.in-Some.before.now = omega (arith, c.loop-w-test.false, c.loop-w.auto) in
    let sums : c.loop-w.total ≡ added c.in-Some.before.now 0 = c.loop-w.invariant ∙ rw (all, take-length) in
    sums ∙ search (rules, sum_added)
