use Rattle.write.proofs.Laws.{write_at}
use Rattle.write.proofs.writable.Goals as goal

pub returns-clause-found : goal.returns-clause-found
returns-clause-found g c = write_at _ _ _ _ c.ok_or.ensures.value c.find.ensures
