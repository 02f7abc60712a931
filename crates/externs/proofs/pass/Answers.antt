use Rattle.std.proofs.Common.{◌/◌, ◌<◌, length, arith, rules}
use Rattle.object.specs.Format.{RELOCATION_SIZE}
use Rattle.externs.proofs.Spending.{pass_loop}
use Rattle.externs.proofs.pass.Goals as goal

pub loop-q-preserved : goal.loop-q-preserved
loop-q-preserved c =
    let low = c.loop-q.invariant.low in
    let in_t : c.loop-q.q < length c.args.t.now / RELOCATION_SIZE = omega arith in
    search (rules, pass_loop)
