use Rattle.nearest.proofs.Laws.{Walk}
use Rattle.nearest.proofs.nearest.Given as goal

abbrev pub invariant-loop-k : goal.invariant-loop-k
invariant-loop-k l = Walk l.symbols l.home l.va l.k l.top l.best
