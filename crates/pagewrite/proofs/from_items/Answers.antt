use Rattle.std.proofs.Common.{◌≡◌, arith, rules, Err}
use Rattle.pagewrite.proofs.Laws.{items_done, items_refused}
use Rattle.pagewrite.proofs.from_items.Goals as goal

pub returns : goal.returns
returns c = items_done _ _ _ _ _ _ _ _ _ _ _ c.align.ensures (omega arith) c.with_capacity.ensures c.in_ok-with_capacity.was c.writezx.ensures

pub returns-in_err-with_capacity : goal.returns-in_err-with_capacity
returns-in_err-with_capacity c =
    let e : c.from_residual.result ≡ Err c.in_err-with_capacity.field-0.0 = search rules in
    items_refused _ _ _ _ _ _ _ _ _ _ c.align.ensures (omega arith) c.with_capacity.ensures c.in_err-with_capacity.was e
