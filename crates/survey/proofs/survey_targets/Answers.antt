use Rattle.std.proofs.Common.{◌≡◌, rules, Err, ◌∙◌}
use Rattle.survey.proofs.Laws.{targets_refused, targets_counted}
use Rattle.survey.proofs.survey_targets.Goals as goal

pub returns-in_err-check_targets : goal.returns-in_err-check_targets
returns-in_err-check_targets c =
    let e : c.from_residual.result ≡ Err c.in_err-check_targets.field-0.0 = search rules in
    λ room start. e ∙ targets_refused _ _ _ _ c.args.n _ _ _ c.tally_by-t.ensures.value c.check_targets.ensures _ c.in_err-check_targets.was room start

pub returns : goal.returns
returns c =
    λ room start. targets_counted _ _ _ _ c.args.n _ _ _ c.tally_by-t.ensures.value c.check_targets.ensures c.in_ok-check_targets.field-0 _ c.in_ok-check_targets.was c.counts_by.ensures room start
