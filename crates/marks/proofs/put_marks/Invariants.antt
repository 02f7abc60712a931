use Rattle.std.proofs.Common.{◌≡◌}
use Rattle.le.specs.Le.{splice}
use Rattle.marks.specs.Marks.{mark_bytes}
use Rattle.marks.proofs.put_marks.Given as goal

abbrev pub invariant-loop-w : goal.invariant-loop-w
invariant-loop-w l = l.marks ≡ splice l.initial.marks 0 (mark_bytes l.pages l.w)
