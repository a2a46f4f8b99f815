use Rattle.std.proofs.Common.{[], ◌∷◌}
use Rattle.host_script.proofs.Replays.{if_err_of, front_more}
use Rattle.host_script.proofs.writing.write_line.Goals as goal

pub returns-in_err-write_text-clause-err : goal.returns-in_err-write_text-clause-err
returns-in_err-write_text-clause-err g c =
    let cut = c.in_err-write_text.ensures.err in
    if_err_of _ c.from_residual.result c.from_residual.ensures.1 (cut.0, rw (← c.as_bytes.ensures.value) (front_more _ _ c.as_bytes.result.now (10 ∷ []) cut.1))
