use Rattle.std.proofs.Common.{rules}
use Rattle.image.proofs.Laws.{slot_laid, slot_past}
use Rattle.image.proofs.lay_slot.Goals as goal

pub returns-in-Some : goal.returns-in-Some
returns-in-Some c = search (rules, slot_laid)
