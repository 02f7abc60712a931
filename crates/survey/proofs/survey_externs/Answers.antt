use Rattle.survey.proofs.Laws.{externs_fit}
use Rattle.survey.proofs.survey_externs.Goals as goal

pub returns : goal.returns
returns c =
    externs_fit _ _ _ _ _ _ c.collect.ensures.value c.ok_or.ensures.value c.in_ok-n.n _ _ _ c.in_ok-n.was c.collect.ensures.codes_after c.requires.0 c.requires.1 c.survey_targets.ensures
