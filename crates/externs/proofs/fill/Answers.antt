use Rattle.std.proofs.Common.{arith, rules}
use Rattle.externs.proofs.Spending.{kept_none, spends_none, externs_none, externs_kept, externs_spent, externs_more}
use Rattle.externs.specs.ExternLaws.{count_room}
use Rattle.externs.proofs.fill.Goals as goal

pub loop-i-init : goal.loop-i-init
loop-i-init c = record { room = omega arith; kept = search (rules, kept_none); spent = search (rules, spends_none); list = search (rules, externs_none) }

pub loop-i-preserved : goal.loop-i-preserved
loop-i-preserved c =
    let held = c.loop-i.invariant in
    let now = c.add_records.ensures in
    record {
      room = search (rules, count_room);
      kept = externs_kept _ _ _ _ _ _ _ _ _ _ _ _ held.kept held.spent held.list now.holds _ c.in_ok-count.was now.left_for;
      spent = externs_spent _ _ _ _ _ _ _ _ _ _ _ _ held.kept held.spent held.list now.holds _ c.in_ok-count.was now.left_for;
      list = externs_more _ _ _ _ _ _ _ _ _ c.add_records.new.keys c.add_records.new.codes _ held.kept held.spent held.list now.holds _ c.in_ok-count.was;
    }
