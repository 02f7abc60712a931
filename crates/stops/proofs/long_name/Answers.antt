use Rattle.std.proofs.Common.{rules}
use Rattle.stops.proofs.Laws.{long_ways}
use Rattle.stops.proofs.long_name.Goals as goal

pub overflow_add-result : goal.overflow_add-result
overflow_add-result c = search (rules, long_ways)

pub overflow_sub-result : goal.overflow_sub-result
overflow_sub-result c = search (rules, long_ways)
