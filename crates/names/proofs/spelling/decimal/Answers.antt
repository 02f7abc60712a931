use Rattle.std.proofs.Common.{arith}
use Rattle.names.proofs.Laws.{small_again, small_fits, decimal_again}
use Rattle.names.proofs.spelling.decimal.Goals as goal

pub overflow_mul-sum : goal.overflow_mul-sum
overflow_mul-sum c = let b = small_fits _ _ c.loop-b.invariant.0 (omega arith) in omega arith

pub overflow_add-sum : goal.overflow_add-sum
overflow_add-sum c = let b = small_fits _ _ c.loop-b.invariant.0 (omega arith) in omega arith

pub loop-b-preserved : goal.loop-b-preserved
loop-b-preserved c = (
  small_again c.loop-b.sum c.digit_of.result c.loop-b.b-index c.loop-b.invariant.0 c.digit_of.ensures.upper_bound,
  decimal_again c.args.s.now c.loop-b.b-index c.loop-b.sum c.digit_of.result c.loop-b.invariant.1 c.digit_of.ensures.value,
)
