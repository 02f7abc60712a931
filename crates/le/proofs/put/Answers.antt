use Rattle.std.proofs.Common.{rules, arith}
use Rattle.le.proofs.Laws.{le_rest, le_step, le_end}
use Rattle.le.proofs.put.Goals as goal

pub loop-i-preserved : goal.loop-i-preserved
loop-i-preserved c =
    let kept = c.loop-i.invariant in
    (le_rest c.args.v c.loop-i.i c.loop-i.w kept.0, le_step _ _ c.args.n c.args.v c.loop-i.i c.loop-i.w _ c.loop-i.b c.room-i-end.ensures c.loop-i-test.true kept.0 kept.1)

pub returns : goal.returns
returns c =
    let room = c.room-i-end.ensures in
    le_end _ _ c.args.n c.args.v c.loop-i.i c.loop-i.b (omega arith) c.loop-i.invariant.1
