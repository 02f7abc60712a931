use Rattle.std.proofs.Common.{arith, ◌<◌, ◌≤◌}
use Rattle.listing.proofs.Laws.{row_put, rest_put}
use Rattle.listing.proofs.Tables.from_symbols.Goals as goal

pub returns-then-from-n : goal.returns-then-from-n
returns-then-from-n c =
    let h : c.args.k < c.args.self.now.counts.symbols = omega arith in
    record { same = c.symbol_at.ensures.same; puts = row_put _ _ _ _ _ _ _ _ h c.symbol_at.ensures.puts }

pub returns-else-from-n : goal.returns-else-from-n
returns-else-from-n c =
    let h : c.args.self.now.counts.symbols ≤ c.args.k = omega arith in
    record { same = c.from_externs.ensures.same; puts = rest_put _ _ _ _ _ _ _ _ h c.from_externs.ensures.puts }
