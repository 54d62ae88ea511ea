use Rattle.std.proofs.Common.{refl}
use Rattle.std.proofs.lemmas.Result.{err_from_is_err_and}
use Rattle.interface.specs.Format.{decode}
use Rattle.entry_points.proofs.ReadsChoice.{pack_refused}
use Rattle.entry_points.proofs.choose.finalize_entry_point_name.Goals as goal

pub returns-in_err-index_pack : goal.returns-in_err-index_pack
returns-in_err-index_pack c =
    let p = err_from_is_err_and c.from_residual.result c.from_residual.ensures.1 in
    rw (p.1, p.2) (pack_refused (decode c.args.pack.now) c.args.stage _ c.in_err-index_pack.ensures.number _ _ refl refl)
