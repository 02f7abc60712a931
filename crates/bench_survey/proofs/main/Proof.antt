use borrow.Author.Rules.{rules}
use Rattle.bench_survey.proofs.Laws.{zeros_long}
use Rattle.bench_survey.proofs.main.Statement.{statement}
use Rattle.bench_survey.proofs.main.Tie as tie

pub main_spec : {M : Type 1} → statement M
main_spec =
    tie.close
    (tie.spec
    (λ c. search rules)
    (λ c. search rules)
    (λ c. search rules)
    (λ c. zeros_long 4194304)
    (λ c. search rules)
    (λ c. search rules))
