use Rattle.std.proofs.Common.{◌≡◌, rules, Err, ◌∙◌}
use Rattle.survey.proofs.Laws.{survey_no}
use Rattle.survey.proofs.survey.Goals as goal

pub returns-in_err-check_records : goal.returns-in_err-check_records
returns-in_err-check_records c =
    let e : c.from_residual.result ≡ Err c.in_err-check_records.field-0.0 = search rules in
    e ∙ survey_no _ _ _ c.check_records.ensures _ c.in_err-check_records.was c.read_header-h.ensures
