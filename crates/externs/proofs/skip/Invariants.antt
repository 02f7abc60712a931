use Rattle.externs.specs.Keys.{Skipped}
use Rattle.externs.proofs.skip.Given as goal

abbrev pub invariant-loop-q : goal.invariant-loop-q
invariant-loop-q l = Skipped l.keys l.n l.p l.key l.q
