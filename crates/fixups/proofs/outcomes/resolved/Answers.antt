use Rattle.fixups.proofs.Laws.{resolved_offset}
use Rattle.fixups.proofs.outcomes.resolved.Goals as goal

pub returns-in-Home : goal.returns-in-Home
returns-in-Home c = resolved_offset _ _ _ _ _ c.in-Home.is c.fix_at.ensures
