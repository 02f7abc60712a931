use Rattle.std.proofs.Common.{rules}
use Rattle.lists.proofs.Laws.{outcome_steps}
use Rattle.lists.proofs.put_outcome.Goals as goal

pub returns-in-Passed : goal.returns-in-Passed
returns-in-Passed c = search (rules, outcome_steps)

pub returns-in-Skipped : goal.returns-in-Skipped
returns-in-Skipped c = search (rules, outcome_steps)

pub returns-in-Fixup : goal.returns-in-Fixup
returns-in-Fixup c = search (rules, outcome_steps)
