use borrow.Author.Rules.{counted_is, rules}
use Rattle.test_objects.proofs.Laws.{same_long}
use Rattle.test_objects.proofs.main.Statement.{statement}
use Rattle.test_objects.proofs.main.Tie as tie

pub main_spec : {M : Type 1} → statement M
main_spec =
    tie.close
    (tie.spec
    (λ c. same_long 4194304 0)
    (λ c. search rules)
    (λ c. search counted_is)
    (λ c. search rules)
    (λ c. search rules)
    (λ c. search rules))
