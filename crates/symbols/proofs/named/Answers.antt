use Rattle.std.proofs.Common.{rules, ◌≡◌, refl, sym}
use Rattle.std.proofs.lemmas.Iterator.Search.{find_from_yields_List}
use borrow.Author.Tests.{tests}
use Rattle.symbols.specs.Symbol.{has_name, count}
use Rattle.symbols.proofs.Laws.{last_told, YieldsList-from_rev_range}
use Rattle.symbols.proofs.named.Goals as goal

pub returns : goal.returns
returns g c =
    let n = count g.R.Record.WORDS c.args.table.now in
    let p = has_name g.R.Record.WORDS n c.args.file.now c.args.table.now c.args.name.now in
    last_told p c.find.result (search rules) n (find_from_yields_List p _ _ c.find.result c.find.ensures.ran (YieldsList-from_rev_range 0 n (cc)) (λ x b q k. search (rules, tests)))
