use Rattle.std.proofs.Common.{[], ◌≡◌, ◌≢◌, ◌∙◌, refl, arith, ◌<◌, ◌≤◌}
use Rattle.listing.proofs.Laws.{row_put, last_put, none_put}
use Rattle.listing.proofs.Tables.from_skips.Goals as goal

pub returns-then-from-n : goal.returns-then-from-n
returns-then-from-n c =
    let h : c.args.k < c.args.self.now.counts.skips = omega arith in
    record { same = c.skip_at.ensures.same; puts = row_put _ _ _ _ _ _ _ _ h c.skip_at.ensures.puts }

pub returns-then-from-n-2 : goal.returns-then-from-n-2
returns-then-from-n-2 c =
    let h : c.args.k ≡ c.args.self.now.counts.skips = omega arith in
    record { same = c.skipped_line.ensures.same; puts = last_put _ _ _ _ _ _ _ _ h c.skipped_line.ensures.puts }

pub returns-else-from-n-2 : goal.returns-else-from-n-2
returns-else-from-n-2 c =
    let d : c.args.k ≢ c.args.self.now.counts.skips = λ e. c.if-from-n-2.false (c.from-else-from-n.ensures ∙ e) in
    let h : c.args.self.now.counts.skips ≤ c.args.k = omega arith in
    record { same = refl; puts = none_put _ _ _ [] _ _ _ 0 d h }
