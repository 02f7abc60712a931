use borrow.Author.Rules.{rules}
use Rattle.codes.proofs.Laws.{one_code}
use Rattle.codes.proofs.put_code.Statement.{statement}
use Rattle.codes.proofs.put_code.Tie as tie

pub put_code_spec : {M : Type 1} → statement M
put_code_spec =
    tie.close
    (tie.spec
    (λ c. search (rules, one_code))
    (λ c. search (rules, one_code))
    (λ c. search (rules, one_code))
    (λ c. search (rules, one_code))
    (λ c. search (rules, one_code)))
