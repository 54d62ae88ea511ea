use Rattle.std.proofs.Common.{rules, refl, ◌+◌, ◌∙◌, ap}
use Rattle.interface.proofs.ReadsWays.{width_there}
use Rattle.stage_lists.specs.Format.{decode_stage}
use Rattle.input_steps.proofs.InputLaws.{inputs_refused, inputs_onward, inputs_ended, locals_left}
use Rattle.input_steps.proofs.VaryingLaws.{here, beside, end_onward, varying_words_lem}
use Rattle.input_steps.proofs.inputs.input_steps.Goals as goal

pub offset_bounds-pack-at : goal.offset_bounds-pack-at
offset_bounds-pack-at c = search (rules, here c.args.varyings.now.pack.now c.args.varyings.now.n c.loop-i._i c.loop-i.at c.loop-i.invariant.0)

pub bounds-pack-at : goal.bounds-pack-at
bounds-pack-at c = here c.args.varyings.now.pack.now c.args.varyings.now.n c.loop-i._i c.loop-i.at c.loop-i.invariant.0

pub overflow_add-at : goal.overflow_add-at
overflow_add-at c = search (rules, here c.args.varyings.now.pack.now c.args.varyings.now.n c.loop-i._i c.loop-i.at c.loop-i.invariant.0)

pub offset_bounds-pack-at-in-loop-i : goal.offset_bounds-pack-at-in-loop-i
offset_bounds-pack-at-in-loop-i c = search (rules, here c.args.varyings.now.pack.now c.args.varyings.now.n c.loop-i._i c.loop-i.at c.loop-i.invariant.0)

pub bounds-pack-at-in-loop-i : goal.bounds-pack-at-in-loop-i
bounds-pack-at-in-loop-i c = beside c.args.varyings.now.pack.now c.args.varyings.now.n c.loop-i._i c.loop-i.at c.loop-i.invariant.0 c.loop-i-test.true

pub returns-in-Err-clause-answer : goal.returns-in-Err-clause-answer
returns-in-Err-clause-answer c =
    let e = c.input_step.ensures in
    let stopped = inputs_refused c.args.stage (decode_stage c.args.inputs.now.words.now).varyings c.args.varyings.now.pack.now c.args.varyings.now.n c.loop-i._i c.loop-i.at c.loop-i.walk _ c.loop-i.invariant.2 c.loop-i-test.true _ (varying_words_lem c.args.varyings.now.pack.now c.loop-i.at _ _ refl refl) _ _ e.answer e.walk _ c.in-Err.is in
    rw stopped (search rules)

pub returns-in-Err-clause-walk : goal.returns-in-Err-clause-walk
returns-in-Err-clause-walk c =
    let e = c.input_step.ensures in
    let stopped = inputs_refused c.args.stage (decode_stage c.args.inputs.now.words.now).varyings c.args.varyings.now.pack.now c.args.varyings.now.n c.loop-i._i c.loop-i.at c.loop-i.walk _ c.loop-i.invariant.2 c.loop-i-test.true _ (varying_words_lem c.args.varyings.now.pack.now c.loop-i.at _ _ refl refl) _ _ e.answer e.walk _ c.in-Err.is in
    rw stopped

pub overflow_add-at-in-loop-i : goal.overflow_add-at-in-loop-i
overflow_add-at-in-loop-i c = search (rules, here c.args.varyings.now.pack.now c.args.varyings.now.n c.loop-i._i c.loop-i.at c.loop-i.invariant.0)

pub loop-i-preserved : goal.loop-i-preserved
loop-i-preserved c =
    let e = c.input_step.ensures in
    let next = ap (λ w. c.loop-i.at + w) (c.varying_width-at.ensures.value ∙ width_there c.args.varyings.now.pack.now c.loop-i.at _ refl) in (
      end_onward c.args.varyings.now.pack.now c.args.varyings.now.n c.loop-i._i c.loop-i.at c.loop-i.invariant.0 c.loop-i-test.true _ next,
      locals_left c.args.stage (decode_stage c.args.inputs.now.words.now).varyings _ c.loop-i.walk _ c.args.varyings.now.n c.loop-i._i e.walk c.loop-i-test.true c.loop-i.invariant.1,
      inputs_onward c.args.stage (decode_stage c.args.inputs.now.words.now).varyings c.args.varyings.now.pack.now c.args.varyings.now.n c.loop-i._i c.loop-i.at c.loop-i.walk _ c.loop-i.invariant.2 c.loop-i-test.true _ (varying_words_lem c.args.varyings.now.pack.now c.loop-i.at _ _ refl refl) _ _ e.answer e.walk _ _ c.in_default.is next,
    )

pub returns-clause-answer : goal.returns-clause-answer
returns-clause-answer c = rw (inputs_ended c.args.stage (decode_stage c.args.inputs.now.words.now).varyings c.args.varyings.now.pack.now c.args.varyings.now.n c.loop-i._i c.loop-i.at c.loop-i.walk _ c.loop-i.invariant.2 c.loop-i-test.false)

pub returns-clause-walk : goal.returns-clause-walk
returns-clause-walk c = rw (inputs_ended c.args.stage (decode_stage c.args.inputs.now.words.now).varyings c.args.varyings.now.pack.now c.args.varyings.now.n c.loop-i._i c.loop-i.at c.loop-i.walk _ c.loop-i.invariant.2 c.loop-i-test.false)
