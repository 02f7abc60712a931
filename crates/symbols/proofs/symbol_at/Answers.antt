use Rattle.std.proofs.Common.{rules, ◌≡◌, refl, sym}
use Rattle.std.proofs.lemmas.Iterator.{YieldsList-from_range}
use Rattle.std.proofs.lemmas.Iterator.Search.{find_from_yields_List}
use borrow.Author.Tests.{tests}
use Rattle.symbols.specs.Symbol.{lies_at, symbol_count}
use Rattle.symbols.proofs.Laws.{first_told}
use Rattle.symbols.proofs.symbol_at.Goals as goal

pub returns : goal.returns
unfolding lies_at
returns c =
    let n = symbol_count c.args.table.now in
    let p = lies_at c.args.table.now c.args.va in
    first_told p c.find.result (search rules) c.args.from n (find_from_yields_List p _ _ c.find.result c.find.ensures.ran (YieldsList-from_range c.args.from n _ (cc) refl) (λ x b q k. search (rules, tests)))
