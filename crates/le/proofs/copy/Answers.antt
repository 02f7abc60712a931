use Rattle.std.proofs.Common.{rules, arith, refl}
use Rattle.le.proofs.Laws.{put_step}
use Rattle.le.proofs.copy.Goals as goal

pub loop-i-preserved : goal.loop-i-preserved
loop-i-preserved c =
    let there = c.room-i-end.ensures in
    put_step _ _ _ c.loop-i.i _ c.loop-i.b (omega arith) refl c.loop-i.invariant
