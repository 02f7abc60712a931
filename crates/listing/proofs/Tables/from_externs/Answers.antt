use Rattle.std.proofs.Common.{arith, ◌<◌, ◌≤◌}
use Rattle.listing.proofs.Laws.{row_put, rest_put}
use Rattle.listing.proofs.Tables.from_externs.Goals as goal

pub returns-then-from-n : goal.returns-then-from-n
returns-then-from-n c =
    let h : c.args.k < c.args.self.now.counts.externs = omega arith in
    record { same = c.extern_at.ensures.same; puts = row_put _ _ _ _ _ _ _ _ h c.extern_at.ensures.puts }

pub returns-else-from-n : goal.returns-else-from-n
returns-else-from-n c =
    let h : c.args.self.now.counts.externs ≤ c.args.k = omega arith in
    record { same = c.from_fixups.ensures.same; puts = rest_put _ _ _ _ _ _ _ _ h c.from_fixups.ensures.puts }
