use Rattle.verdict.proofs.Laws.{says_refused}
use Rattle.verdict.proofs.verdict_by.Goals as goal

pub returns-in-Err : goal.returns-in-Err
returns-in-Err c = says_refused _ _ c.in-Err.is
