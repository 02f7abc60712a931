use Rattle.program.proofs.Laws.{now_holds, is_printed}
use Rattle.program.proofs.loaded.Goals as goal

pub list-requires : goal.list-requires
list-requires c = now_holds _ _ _ _ _ _ _ _ _ _ _ _ _ _ _ _ _ c.requires c.load.ensures.loads

pub returns-clause-printed : goal.returns-clause-printed
returns-clause-printed c = is_printed _ _ _ _ _ _ _ _ _ _ _ _ _ _ _ _ _ c.requires c.load.ensures.loads _ _ _ c.patch.ensures c.list.ensures
