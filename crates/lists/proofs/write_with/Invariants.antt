use Rattle.std.proofs.Common.{◌*◌, ◌^◌}
use Rattle.object.specs.Section.{relocation_count}
use Rattle.homes.specs.Home.{home_in}
use Rattle.targets.specs.Table.{target_in}
use Rattle.fixups.specs.Lists.{over_sections}
use Rattle.fixups.specs.Outcome.{outcome}
use Rattle.lists.specs.Relocations.{fix_bytes_at, skip_bytes_at, Step}
use Rattle.lists.proofs.Laws.{none}
use Rattle.lists.proofs.write_with.Given as goal

abbrev pub invariant-loop-i : goal.invariant-loop-i
invariant-loop-i l =
    Step none (over_sections (fix_bytes_at l.base.0 (outcome l.r.arch l.r.file.now l.r.header (home_in l.r.homes.now) (target_in l.r.homes.now l.r.undef l.r.codes.now))) (relocation_count l.r.file.now l.r.header) l.i)
    (over_sections (skip_bytes_at (outcome l.r.arch l.r.file.now l.r.header (home_in l.r.homes.now) (target_in l.r.homes.now l.r.undef l.r.codes.now))) (relocation_count l.r.file.now l.r.header) l.i)
    l.initial.fixups l.fixups l.initial.skips l.skips l.q (2 ^ 32 * l.i)
