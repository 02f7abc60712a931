use Rattle.std.proofs.Common.{◌≡◌, rules, Err}
use Rattle.station.proofs.Laws.{progress_applied, progress_refused}
use Rattle.station.proofs.tell_progress.Goals as goal

pub returns-in_err-progress : goal.returns-in_err-progress
returns-in_err-progress c =
    let e : c.from_residual.result ≡ Err c.in_err-progress.field-0.0 = search rules in
    rw e (progress_refused _ _ _ c.in_err-progress.was)

pub returns : goal.returns
returns c = progress_applied _ _ _ _ c.in_ok-progress.was c.write_progress.ensures
