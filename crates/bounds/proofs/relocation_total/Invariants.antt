use Rattle.std.proofs.Common.{◌≡◌, ◌≤◌, ◌*◌}
use Rattle.util.specs.Prefix.{sum_to}
use Rattle.object.specs.Section.{relocation_count}
use Rattle.bounds.proofs.relocation_total.Given as goal

abbrev pub invariant-loop-i : goal.invariant-loop-i
invariant-loop-i l = record { fits : l.sum ≤ 4294967295 * l.i; is : l.sum ≡ sum_to (relocation_count l.f l.h) l.i }
