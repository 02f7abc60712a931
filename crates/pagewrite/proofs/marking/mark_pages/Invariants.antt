use Rattle.std.proofs.Common.{◌≡◌, ◌-◌}
use Rattle.pagewrite.specs.Marking.{mark_pages}
use Rattle.pagewrite.proofs.marking.mark_pages.Given as goal

abbrev pub invariant-loop-q : goal.invariant-loop-q
invariant-loop-q l = l.marks ≡ mark_pages l.fn.marks l.fn.p (l.q - l.fn.p)
