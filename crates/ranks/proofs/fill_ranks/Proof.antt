use borrow.Author.Rules.{rules}
use Rattle.ranks.proofs.Laws.{fill_ways}
use Rattle.ranks.proofs.fill_ranks.Statement.{statement}
use Rattle.ranks.proofs.fill_ranks.Tie as tie

pub fill_ranks_spec : {M : Type 1} → statement M
fill_ranks_spec =
    tie.close
    (tie.spec
    (λ c. search (rules, fill_ways))
    (λ c. search (rules, fill_ways))
    (λ c. search (rules, fill_ways))
    (λ c κs. (search rules, search (rules, fill_ways)))
    (λ c. search (rules, fill_ways))
    (λ c. search (rules, fill_ways))
    (λ c. search (rules, fill_ways)))
