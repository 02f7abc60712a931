use Rattle.std.proofs.Common.{◌≡◌, rules, Err, ◌∙◌}
use Rattle.plan.proofs.Laws.{room_refused}
use Rattle.plan.proofs.with_room.Goals as goal

pub returns-in_err-c : goal.returns-in_err-c
returns-in_err-c c =
    let e : c.from_residual.result ≡ Err c.in_err-c.field-0.0 = search rules in
    e ∙ room_refused _ _ _ _ c.in_err-c.was
