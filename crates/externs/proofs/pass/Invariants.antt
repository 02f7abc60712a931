use Rattle.externs.specs.Spent.{Passing}
use Rattle.externs.proofs.pass.Given as goal

abbrev pub invariant-loop-q : goal.invariant-loop-q
invariant-loop-q l = Passing l.t l.codes l.k l.q
