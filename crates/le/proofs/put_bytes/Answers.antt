use Rattle.std.proofs.Common.{rules, arith, ◌≡◌, length, ap, ◌∙◌}
use Rattle.le.specs.Le.{le, splice, length_le}
use Rattle.le.proofs.Laws.{array_put}
use Rattle.le.proofs.put_bytes.Goals as goal

pub returns-then-b-start : goal.returns-then-b-start
returns-then-b-start g c =
    let same : c.copy_from_slice.new.self ≡ le g.row.N c.args.v = c.copy_from_slice.ensures.after ∙ c.requires in
    let long : length c.copy_from_slice.new.self ≡ g.row.N = ap length same ∙ length_le g.row.N c.args.v in
    array_put c.args.b.now c.args.at c.copy_from_slice.new.self c.min-start.result g.row.N c.min-start.ensures long (omega arith) ∙ ap (splice c.args.b.now c.args.at) same
