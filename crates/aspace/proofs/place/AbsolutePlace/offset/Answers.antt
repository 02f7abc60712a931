use Rattle.std.proofs.Common.{arith, ◌<◌, ◌≤◌, ◌+◌, ◌^◌, max}
use Rattle.aspace.proofs.Places.{offset_below, offset_above, offset_past, offset_in}
use Rattle.util.specs.Pick.{pick_yes, pick_no}
use Rattle.aspace.proofs.place.AbsolutePlace.offset.Goals as goal

pub returns-in_err-offset : goal.returns-in_err-offset
returns-in_err-offset c =
    pick_no _ _ _ _ (offset_below c.args.self.base.0 c.args.self.address.0 c.args.n c.offset.result c.offset.ensures c.in_err-offset.was) c.from_residual.ensures

pub returns-in_err-checked_add : goal.returns-in_err-checked_add
returns-in_err-checked_add c = let h : 2 ^ 64 < c.args.self.address.0 + max c.args.n 1 = omega arith in
    pick_no _ _ _ _ (offset_past c.args.self.base.0 c.args.self.address.0 c.args.n h) c.from_residual-in_err-checked_add.ensures

pub returns : goal.returns
returns c =
    let k = offset_above c.args.self.base.0 c.args.self.address.0 c.args.n c.offset.result c.offset.ensures c.in_ok-offset.offset c.in_ok-offset.was in
    let h : c.args.self.address.0 + max c.args.n 1 ≤ 2 ^ 64 = omega arith in
    pick_yes _ _ _ _ (offset_in c.args.self.base.0 c.args.self.address.0 c.args.n k.0 h) k.1
