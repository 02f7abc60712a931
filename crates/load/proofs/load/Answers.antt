use Rattle.load.proofs.Laws.{few_arrays, many_arrays}
use Rattle.load.proofs.load.Goals as goal

pub load_in-requires : goal.load_in-requires
load_in-requires c = few_arrays _ _ _ c.read_header.ensures c.few_records.ensures c.if-few_records.true

pub load_in-requires-else-few_records : goal.load_in-requires-else-few_records
load_in-requires-else-few_records c = many_arrays _ _ _ c.read_header.ensures c.few_records.ensures c.if-few_records.false
