use Rattle.std.proofs.Common.{◌≡◌, rules, Err}
use borrow.Author.Tests.{le-leb, lt-leb}
use Rattle.station.proofs.Laws.{counts_accepted, counts_short, counts_refused}
use Rattle.station.proofs.tell_counts.Goals as goal

pub returns-in_err-counts : goal.returns-in_err-counts
returns-in_err-counts c =
    let e : c.from_residual.result ≡ Err c.in_err-counts.field-0.0 = search rules in
    rw e (counts_refused _ _ _ c.in_err-counts.was)

pub returns-then-out-lt-COUNTS_BYTES : goal.returns-then-out-lt-COUNTS_BYTES
returns-then-out-lt-COUNTS_BYTES c = counts_short _ _ _ c.in_ok-counts.was (lt-leb _ _ c.if-out-lt-COUNTS_BYTES.true)

pub returns : goal.returns
returns c = counts_accepted _ _ _ _ c.in_ok-counts.was (le-leb _ _ c.if-out-lt-COUNTS_BYTES.false) c.write_counts.ensures
