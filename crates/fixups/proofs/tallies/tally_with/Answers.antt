use Rattle.std.proofs.Common.{rules}
use Rattle.fixups.proofs.Rows.{rows_loop}
use Rattle.fixups.proofs.tallies.tally_with.Goals as goal

pub loop-i-preserved : goal.loop-i-preserved
loop-i-preserved c = record { counted = search (rules, rows_loop); near = search (rules, rows_loop) }
