use Rattle.std.proofs.lemmas.Result.{err_from_is_err_and}
use Rattle.formats.proofs.FormatLaws.{format_refused}
use Rattle.formats.proofs.formats.vertex_format.Goals as goal

pub returns-in_err-from_vertex_format : goal.returns-in_err-from_vertex_format
returns-in_err-from_vertex_format c =
    let p = err_from_is_err_and c.from_residual.result c.from_residual.ensures.1 in
    rw (p.1, p.2) (format_refused _ c.from_vertex_format.result _ c.from_vertex_format.ensures c.in_err-from_vertex_format.was)
