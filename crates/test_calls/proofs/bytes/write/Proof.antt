use borrow.Author.Rules.{rules}
use Rattle.test_calls.proofs.Laws.{part_long}
use Rattle.test_calls.proofs.bytes.write.Statement.{statement}
use Rattle.test_calls.proofs.bytes.write.Tie as tie

pub write_spec : {M : Type 1} → statement M
write_spec =
    tie.close
    (tie.spec
    (λ c. search rules)
    (λ c. search rules)
    (λ c. search rules)
    (λ c. search rules)
    (λ c. search (rules, part_long))
    (λ c. search rules)
    (λ c. search rules)
    (λ c. search rules)
    (λ c. search rules)
    (λ c. search rules))
