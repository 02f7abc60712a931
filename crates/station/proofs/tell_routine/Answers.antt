use Rattle.std.proofs.Common.{◌≡◌, rules, Err}
use Rattle.station.proofs.Laws.{routine_found, routine_refused}
use Rattle.station.proofs.tell_routine.Goals as goal

pub returns-in_err-routine : goal.returns-in_err-routine
returns-in_err-routine c =
    let e : c.from_residual.result ≡ Err c.in_err-routine.field-0.0 = search rules in
    rw e (routine_refused _ _ _ c.in_err-routine.was)

pub returns : goal.returns
returns c = routine_found _ _ _ _ c.in_ok-routine.was c.write_routine.ensures
