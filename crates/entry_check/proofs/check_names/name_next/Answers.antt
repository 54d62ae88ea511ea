use Rattle.std.proofs.Common.{◌≡◌, ◌+◌, ◌-◌, ◌*◌, arith}
use Rattle.entry_check.proofs.CheckNames.{name_stops, name_goes, name_in, name_ended}
use Rattle.entry_check.proofs.check_names.name_next.Goals as goal

pub returns-then-not-name_word_well_formed-clause-rest : goal.returns-then-not-name_word_well_formed-clause-rest
returns-then-not-name_word_well_formed-clause-rest c =
    let some : c.args.bytes - 4 * c.loop-i.i ≡ 0 → ⊥ = λ z. omega arith in
    search (name_stops, some)

pub loop-i-preserved : goal.loop-i-preserved
loop-i-preserved c =
    let some : c.args.bytes - 4 * c.loop-i.i ≡ 0 → ⊥ = λ z. omega arith in
    let less : c.args.bytes - 4 * (c.loop-i.i + 1) ≡ c.args.bytes - 4 * c.loop-i.i - 4 = omega arith in
    let next : c.args.from + (c.loop-i.i + 1) ≡ c.args.from + c.loop-i.i + 1 = omega arith in
    (rw next (search (name_in, some)), search (name_goes, some, less, next))

pub returns-clause-rest : goal.returns-clause-rest
returns-clause-rest c =
    let none : c.args.bytes - 4 * c.loop-i.i ≡ 0 = omega arith in
    let same : c.div_ceil-n.result ≡ c.loop-i.i = omega arith in
    rw same (search (name_ended, none))
