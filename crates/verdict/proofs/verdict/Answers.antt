use borrow.Author.Tests.{le-leb}
use Rattle.verdict.proofs.Laws.{not_long}
use Rattle.verdict.proofs.verdict.Goals as goal

pub returns-then-f-le-MOST_BYTES : goal.returns-then-f-le-MOST_BYTES
returns-then-f-le-MOST_BYTES c = not_long _ _ _ (le-leb _ _ c.if-f-le-MOST_BYTES.true) c.survey.ensures c.verdict_by.ensures
