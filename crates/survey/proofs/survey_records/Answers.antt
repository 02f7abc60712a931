use Rattle.std.proofs.Common.{sym, ◌∙◌}
use Rattle.survey.specs.TableLaws.{few_cleared, many_cleared}
use Rattle.survey.proofs.survey_records.Goals as goal

pub survey_in-requires-clause-room : goal.survey_in-requires-clause-room
survey_in-requires-clause-room c = few_cleared c.args.h (sym c.few_records.ensures ∙ c.if-few_records.true)

pub survey_in-requires-else-few_records-clause-room : goal.survey_in-requires-else-few_records-clause-room
survey_in-requires-else-few_records-clause-room c = many_cleared c.args.h (sym c.few_records.ensures ∙ c.if-few_records.false)
