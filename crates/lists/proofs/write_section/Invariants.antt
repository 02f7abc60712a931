use Rattle.homes.specs.Home.{word_home}
use Rattle.targets.specs.Table.{target_in}
use Rattle.fixups.specs.Lists.{over_records}
use Rattle.fixups.specs.Outcome.{read_outcome}
use Rattle.lists.specs.Relocations.{fix_bytes_at, skip_bytes_at, Step}
use Rattle.lists.proofs.write_section.Given as goal

abbrev pub invariant-loop-k : goal.invariant-loop-k
invariant-loop-k l =
    Step l.initial.q (over_records (fix_bytes_at l.base.0 (read_outcome l.r.arch l.r.file.now (target_in l.r.homes.now l.r.undef l.r.codes.now) l.records (word_home l.word))) l.i l.k)
    (over_records (skip_bytes_at (read_outcome l.r.arch l.r.file.now (target_in l.r.homes.now l.r.undef l.r.codes.now) l.records (word_home l.word))) l.i l.k)
    l.initial.fixups l.fixups l.initial.skips l.skips l.q l.k
