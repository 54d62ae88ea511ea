use Rattle.std.proofs.lemmas.Result.{err_from_is_err_and}
use Rattle.stage_lists.specs.Format.{decode_stage}
use Rattle.interface.specs.Format.{decode, interface_of}
use Rattle.output_steps.specs.Inner.Stands.{meant}
use Rattle.stage.proofs.JudgeLaws.{inputs_refused, inputs_went, walk_is}
use Rattle.stage.proofs.judge.judge.Goals as goal

pub returns-in_err-met-clause-answer : goal.returns-in_err-met-clause-answer
returns-in_err-met-clause-answer c =
    let p = err_from_is_err_and c.from_residual-in_err-met.result c.from_residual-in_err-met.ensures.1 in
    rw (p.1, p.2) (inputs_refused c.args.request (interface_of (decode c.args.entry.now.point.pack.now)) (meant c.args.entry.now.point) (decode_stage c.args.inputs.now.words.now) c.size_step.result c.size_step.ensures _ c.inputs.ensures _ c.in_ok-size_step.was c.input_steps-met.result.0 _ c.input_steps-met.ensures.answer c.input_steps-met.ensures.walk _ c.in_err-met.was)

pub returns-in_err-after_inputs-clause-answer : goal.returns-in_err-after_inputs-clause-answer
returns-in_err-after_inputs-clause-answer c =
    let p = err_from_is_err_and c.from_residual-in_err-after_inputs.result c.from_residual-in_err-after_inputs.ensures.1 in
    rw (p.1, p.2) (inputs_went c.args.request (interface_of (decode c.args.entry.now.point.pack.now)) (meant c.args.entry.now.point) (decode_stage c.args.inputs.now.words.now) c.size_step.result c.size_step.ensures _ c.inputs.ensures _ c.in_ok-size_step.was c.input_steps-met.result.0 _ c.input_steps-met.ensures.answer c.input_steps-met.ensures.walk _ _ c.in_ok-met.was c.in_err-after_inputs.ensures)

pub returns-clause-answer : goal.returns-clause-answer
returns-clause-answer c = inputs_went c.args.request (interface_of (decode c.args.entry.now.point.pack.now)) (meant c.args.entry.now.point) (decode_stage c.args.inputs.now.words.now) c.size_step.result c.size_step.ensures _ c.inputs.ensures _ c.in_ok-size_step.was c.input_steps-met.result.0 _ c.input_steps-met.ensures.answer c.input_steps-met.ensures.walk _ _ c.in_ok-met.was c.in_ok-after_inputs.ensures

pub returns-clause-walk : goal.returns-clause-walk
returns-clause-walk c = walk_is c.args.request (interface_of (decode c.args.entry.now.point.pack.now)) (meant c.args.entry.now.point) (decode_stage c.args.inputs.now.words.now) c.size_step.result c.size_step.ensures _ c.inputs.ensures _ c.in_ok-size_step.was c.input_steps-met.result.0 _ c.input_steps-met.ensures.answer c.input_steps-met.ensures.walk
