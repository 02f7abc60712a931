use Rattle.std.proofs.Common.{rules, arith, ap, length, ◌≤◌, ◌+◌, length-take, length-drop}
use Rattle.arch.specs.declared.RVA.{RVA}
use Rattle.aspace.proofs.Places.{read_there, read_at, read_inside, part_there}
use Rattle.aspace.proofs.reading.bytes.Goals as goal

pub overflow_add-result : goal.overflow_add-result
overflow_add-result g c =
    let h : c.in-Some.offset.0 + c.args.n ≤ length c.args.image.now = read_inside _ _ _ _ _ _ c.storage_ok.ensures _ c.if-not-storage_ok.false c.find.ensures _ c.in-Some.is in
    omega arith

pub slice_bounds-result-end : goal.slice_bounds-result-end
slice_bounds-result-end g c =
    let h : c.in-Some.offset.0 + c.args.n ≤ length c.args.image.now = read_inside _ _ _ _ _ _ c.storage_ok.ensures _ c.if-not-storage_ok.false c.find.ensures _ c.in-Some.is in
    search rules

pub returns-clause-read : goal.returns-clause-read
returns-clause-read g c =
    let h : c.in-Some.offset.0 + c.args.n ≤ length c.args.image.now = read_inside _ _ _ _ _ _ c.storage_ok.ensures _ c.if-not-storage_ok.false c.find.ensures _ c.in-Some.is in (
      read_there _ _ _ _ _ _ c.storage_ok.ensures _ c.if-not-storage_ok.false c.find.ensures _ c.in-Some.is,
      part_there _ _ _ _ (ap (λ (z : RVA). z.0) (read_at _ _ _ _ _ _ c.storage_ok.ensures _ c.if-not-storage_ok.false c.find.ensures _ c.in-Some.is)),
      simp (length-take, length-drop) (omega arith),
    )
