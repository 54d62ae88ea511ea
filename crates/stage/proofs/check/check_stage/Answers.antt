use Rattle.std.proofs.lemmas.Result.{err_from_is_err_and}
use Rattle.pack_check.proofs.Errors.{error_some, refusal_number}
use Rattle.stage.proofs.RunLaws.{stage_pack}
use Rattle.stage.proofs.check.check_stage.Goals as goal

pub returns-in_err-index_pack : goal.returns-in_err-index_pack
returns-in_err-index_pack c =
    let p = err_from_is_err_and c.from_residual.result c.from_residual.ensures.1 in
    let error = c.in_err-index_pack.field-0.0 in
    rw (p.1, p.2) (stage_pack c.args.pack.now c.args.name.now c.args.codes _ _ _ _ _ _ c.in_err-index_pack.ensures.number (error_some error) (refusal_number error))
