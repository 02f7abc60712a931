use Rattle.le.proofs.Laws.{number_is}
use Rattle.le.proofs.u64_at.Goals as goal

pub returns : goal.returns
returns c = number_is 7 _ _ _ _ c.bytes_at.ensures c.from_le_bytes.ensures
