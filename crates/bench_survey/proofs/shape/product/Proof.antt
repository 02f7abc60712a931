-- A product of two 16-bit numbers fits 32 bits.
use native.Mathlib.Omega.{arith}
use Rattle.bench_survey.proofs.Laws.{product_most}
use Rattle.bench_survey.proofs.shape.product.Statement.{statement}
use Rattle.bench_survey.proofs.shape.product.Tie as tie

pub product_spec : {M : Type 1} → statement M
product_spec =
    tie.close
    (tie.spec
    (λ c. omega (arith, product_most c.args.a c.args.b (omega arith) (omega arith)))
    (λ c. omega (arith, product_most c.args.a c.args.b (omega arith) (omega arith))))
