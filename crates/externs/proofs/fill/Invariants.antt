use Rattle.std.proofs.Common.{◌≡◌, ◌≤◌}
use Rattle.limits.specs.Limits.{MAX_EXTERNS}
use Rattle.codes.specs.Code.{puts_in}
use Rattle.externs.specs.Externs.{externs_to}
use Rattle.externs.specs.Held.{held}
use Rattle.externs.specs.Spent.{Kept, Spends}
use Rattle.externs.proofs.fill.Given as goal

abbrev pub invariant-loop-i : goal.invariant-loop-i
invariant-loop-i l = record {
  room : l.count ≤ MAX_EXTERNS;
  kept : Kept l.f l.h l.slots l.keys l.count;
  spent : Spends l.f l.h l.initial.codes l.codes (held l.count l.slots);
  list : held l.count l.slots ≡ externs_to l.f l.h (puts_in l.initial.codes) l.i;
}
