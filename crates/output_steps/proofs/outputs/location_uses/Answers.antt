use native.Mathlib.Nat.{sub-zero, sub-add-eq, sub-eq-zero_of_le}
use Rattle.std.proofs.Common.{rules, refl, ◌-◌}
use Rattle.word.specs.Numbers.{number_of}
use Rattle.input_steps.proofs.VaryingLaws.{ahead}
use Rattle.output_steps.proofs.OutputLaws.{left_some, ahead_by, locations_refused, locations_onward, locations_ended}
use Rattle.output_steps.proofs.outputs.location_uses.Goals as goal

pub loop-i-init : goal.loop-i-init
loop-i-init c = rw (sub-zero c.args.varyings.now.n) (search ahead, search rules)

pub returns-in_err-location_use : goal.returns-in_err-location_use
returns-in_err-location_use c = search (rules, locations_refused, left_some)

pub loop-i-preserved : goal.loop-i-preserved
loop-i-preserved c =
    let some = left_some _ _ c.loop-i-test.true in
    rw (sub-add-eq c.args.varyings.now.n c.loop-i._i 1) (
      search (ahead_by, some),
      locations_onward (number_of c.args.number) c.args.past c.args.limit c.args.varyings.now.pack.now (c.args.varyings.now.n - c.loop-i._i) c.loop-i.at _ c.loop-i.invariant.1 _ _ some refl c.location_use.ensures _ _ c.in_ok-location_use.was
          c.varying_width-at.ensures.value,
    )

pub returns : goal.returns
returns c = search (locations_ended, sub-eq-zero_of_le)
