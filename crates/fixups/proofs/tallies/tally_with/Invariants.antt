use Rattle.std.proofs.Common.{◌≡◌, ◌*◌, ◌^◌}
use Rattle.object.specs.Section.{relocation_count}
use Rattle.homes.specs.Home.{home_in}
use Rattle.targets.specs.Table.{target_in}
use Rattle.fixups.specs.Outcome.{outcome}
use Rattle.fixups.specs.Tallying.{rows_to, AtMost}
use Rattle.fixups.proofs.tallies.tally_with.Given as goal

abbrev pub invariant-loop-i : goal.invariant-loop-i
invariant-loop-i l = record {
  counted : l.sum ≡ rows_to l.pages (outcome l.r.arch l.r.file.now l.r.header (home_in l.r.homes.now) (target_in l.r.homes.now l.r.undef l.r.codes.now)) (relocation_count l.r.file.now l.r.header) l.i;
  near : AtMost l.sum (2 ^ 32 * l.i);
}
