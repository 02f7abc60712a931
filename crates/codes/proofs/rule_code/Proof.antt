use borrow.Author.Rules.{rules}
use Rattle.codes.proofs.Laws.{by_rule_lem}
use Rattle.codes.proofs.rule_code.Statement.{statement}
use Rattle.codes.proofs.rule_code.Tie as tie

pub rule_code_spec : {M : Type 1} → statement M
rule_code_spec =
    tie.close
    (tie.spec
    (λ c. search (rules, by_rule_lem))
    (λ c. search (rules, by_rule_lem))
    (λ c. search (rules, by_rule_lem))
    (λ c. search (rules, by_rule_lem))
    (λ c. search (rules, by_rule_lem))
    (λ c. search (rules, by_rule_lem))
    (λ c. search (rules, by_rule_lem))
    (λ c. search (rules, by_rule_lem))
    (λ c. search (rules, by_rule_lem))
    (λ c. search (rules, by_rule_lem))
    (λ c. search (rules, by_rule_lem))
    (λ c. search (rules, by_rule_lem)))
