use Rattle.std.proofs.Common.{◌≡◌, arith}
use Rattle.entry_check.proofs.CheckHeads.{same_1, same_2, same_3, same_4}
use Rattle.entry_check.proofs.check_names.same_first.Goals as goal

pub returns-in-1 : goal.returns-in-1
returns-in-1 c = search same_1

pub returns-in-2 : goal.returns-in-2
returns-in-2 c = search same_2

pub returns-in-3 : goal.returns-in-3
returns-in-3 c = search same_3

pub returns-in_default : goal.returns-in_default
returns-in_default c =
    let one : c.args.left ≡ 1 → ⊥ = λ z. omega arith in
    let two : c.args.left ≡ 2 → ⊥ = λ z. omega arith in
    let three : c.args.left ≡ 3 → ⊥ = λ z. omega arith in
    search (same_4, one, two, three)
