use Rattle.demands.proofs.Laws.{answer_applied, answer_refused}
use Rattle.demands.proofs.write_answer.Goals as goal

pub returns-in-Ok : goal.returns-in-Ok
returns-in-Ok c = answer_applied _ _ _ _ _ _ c.in-Ok.is c.from.ensures c.put.ensures

pub returns-in-Err : goal.returns-in-Err
returns-in-Err c = answer_refused _ _ _ _ _ _ c.in-Err.is c.number.ensures c.put-in-Err.ensures
