use Rattle.std.proofs.Common.{rules}
use Rattle.stops.proofs.Laws.{stops_loop}
use Rattle.stops.proofs.note_stops.Goals as goal

pub loop-b-preserved : goal.loop-b-preserved
loop-b-preserved c = (search (rules, stops_loop), search (rules, stops_loop))
