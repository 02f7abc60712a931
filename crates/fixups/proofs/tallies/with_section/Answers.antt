use Rattle.std.proofs.Common.{rules}
use Rattle.fixups.proofs.Rows.{section_loop}
use Rattle.fixups.proofs.tallies.with_section.Goals as goal

pub loop-k-preserved : goal.loop-k-preserved
loop-k-preserved c = record { counted = search (rules, section_loop); near = search (rules, section_loop) }

pub returns : goal.returns
returns c = search (rules, section_loop)
