use Rattle.std.proofs.Common.{◌≡◌, ◌+◌, ◌-◌, rules, arith}
use native.Mathlib.Nat.{sub-zero}
use Rattle.varying.proofs.Ways.{var_vector}
use Rattle.entry_check.proofs.CheckVaryings.{local_stop, local_in, local_good, local_go, built_in_stop, built_in_in, built_in_go, codes_stay, varyings_ended}
use Rattle.entry_check.proofs.check_varyings.varyings_next.Goals as goal
use Rattle.entry_check.proofs.check_varyings.varyings_next.Goals.{then-location_well_formed+else-not-var_good, else-location_well_formed+else-not-built_in_well_formed}

pub loop-init : goal.loop-init
loop-init c = (search rules, search rules, search rules, rw sub-zero, search var_vector)

pub returns-then-not-var_good-clause-rest : goal.returns-then-not-var_good-clause-rest
returns-then-not-var_good-clause-rest c =
    let some : c.args.n - c.loop.counter ≡ 0 → ⊥ = λ z. omega arith in
    search (local_stop, some)

pub returns-then-not-built_in_well_formed-clause-rest : goal.returns-then-not-built_in_well_formed-clause-rest
returns-then-not-built_in_well_formed-clause-rest c =
    let some : c.args.n - c.loop.counter ≡ 0 → ⊥ = λ z. omega arith in
    search (built_in_stop, some)

pub loop-preserved : goal.loop-preserved
loop-preserved c =
    let some : c.args.n - c.loop.counter ≡ 0 → ⊥ = λ z. omega arith in
    let less : c.args.n - (c.loop.counter + 1) ≡ c.args.n - c.loop.counter - 1 = omega arith in
    elim c.if-location_well_formed.branch [
      | then-location_well_formed+else-not-var_good w ↦ rw (w.at-is, w.below-is, w.good-is) (search local_in, search rules, search rules, search (local_go, some, less), search local_good)
      | else-location_well_formed+else-not-built_in_well_formed w ↦ rw (w.at-is, w.below-is, w.good-is) (search built_in_in, search codes_stay, search rules, search (built_in_go, some, less), search rules)
    ]

pub returns-clause-rest : goal.returns-clause-rest
returns-clause-rest c =
    let none : c.args.n - c.loop.counter ≡ 0 = omega arith in
    search (varyings_ended, none)
