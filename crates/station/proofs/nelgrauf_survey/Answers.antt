use Rattle.station.proofs.Laws.{survey_told}
use Rattle.station.proofs.nelgrauf_survey.Goals as goal

pub returns : goal.returns
returns c = survey_told _ _ _ _ _ _ c.survey.ensures c.tell_counts.ensures c.code.ensures
