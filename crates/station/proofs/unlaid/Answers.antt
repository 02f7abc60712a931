use Rattle.station.proofs.Laws.{unlaid_base, unlaid_file}
use Rattle.station.proofs.unlaid.Goals as goal

pub returns-then-base_ok : goal.returns-then-base_ok
returns-then-base_ok c = unlaid_file _ _ _ c.base_ok.ensures c.if-base_ok.true c.unstored.ensures

pub returns-else-base_ok : goal.returns-else-base_ok
returns-else-base_ok c = unlaid_base _ _ c.base_ok.ensures c.if-base_ok.false
