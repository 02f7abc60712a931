use Rattle.std.proofs.Common.{◌≡◌, ◌+◌, ◌*◌, ◌^◌}
use Rattle.homes.specs.Home.{word_home}
use Rattle.targets.specs.Table.{target_in}
use Rattle.fixups.specs.Outcome.{read_outcome}
use Rattle.fixups.specs.Tallying.{row_to, AtMost}
use Rattle.fixups.proofs.tallies.with_section.Given as goal

abbrev pub invariant-loop-k : goal.invariant-loop-k
invariant-loop-k l = record {
  counted : l.sum ≡ row_to l.pages (read_outcome l.r.arch l.r.file.now (target_in l.r.homes.now l.r.undef l.r.codes.now) l.records (word_home l.word)) l.i l.initial.sum l.k;
  near : AtMost l.sum (2 ^ 32 * l.i + l.k);
}
