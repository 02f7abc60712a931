use Rattle.std.proofs.Common.{◌≡◌, rules, Err, ◌∙◌}
use Rattle.station.proofs.Laws.{untold_accepted, untold_refused}
use Rattle.station.proofs.unstored.Goals as goal

pub returns-in_err-survey : goal.returns-in_err-survey
returns-in_err-survey c =
    let e : c.from_residual.result ≡ Err c.in_err-survey.field-0.0 = search rules in
    e ∙ untold_refused _ _ _ c.survey.ensures c.in_err-survey.was

pub returns : goal.returns
returns c = untold_accepted _ _ _ c.survey.ensures c.in_ok-survey.was
