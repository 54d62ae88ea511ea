use Rattle.std.proofs.Common.{◌≡◌, ◌+◌, ◌-◌, ◌*◌, arith}
use Rattle.word.specs.Words.{word_at}
use Rattle.entry_check.specs.Inner.Walks.{same_first}
use Rattle.entry_check.proofs.CheckHeads.{names_differ, names_agree, names_ended}
use Rattle.entry_check.proofs.check_names.same_name.Goals as goal

pub returns-then-not-same_first : goal.returns-then-not-same_first
returns-then-not-same_first c =
    let some : c.args.bytes - 4 * c.loop-i.i ≡ 0 → ⊥ = λ z. omega arith in
    let told : c.same_first.result ≡ same_first (c.args.bytes - 4 * c.loop-i.i) (word_at c.args.body.now (c.args.from + c.loop-i.i)) (word_at c.args.body.now (c.args.other + c.loop-i.i)) =
    rw (← c.word-v.ensures, ← c.word-w.ensures) c.same_first.ensures in
    search (names_differ, some, told)

pub loop-i-preserved : goal.loop-i-preserved
loop-i-preserved c =
    let some : c.args.bytes - 4 * c.loop-i.i ≡ 0 → ⊥ = λ z. omega arith in
    let told : c.same_first.result ≡ same_first (c.args.bytes - 4 * c.loop-i.i) (word_at c.args.body.now (c.args.from + c.loop-i.i)) (word_at c.args.body.now (c.args.other + c.loop-i.i)) =
    rw (← c.word-v.ensures, ← c.word-w.ensures) c.same_first.ensures in
    let less : c.args.bytes - 4 * (c.loop-i.i + 1) ≡ c.args.bytes - 4 * c.loop-i.i - 4 = omega arith in
    let i : c.args.from + (c.loop-i.i + 1) ≡ c.args.from + c.loop-i.i + 1 = omega arith in
    let j : c.args.other + (c.loop-i.i + 1) ≡ c.args.other + c.loop-i.i + 1 = omega arith in
    search (names_agree, some, told, less, i, j)

pub returns : goal.returns
returns c =
    let none : c.args.bytes - 4 * c.loop-i.i ≡ 0 = omega arith in
    search (names_ended, none)
