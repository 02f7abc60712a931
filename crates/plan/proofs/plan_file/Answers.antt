use Rattle.std.proofs.Common.{◌≡◌, rules, Err}
use Rattle.plan.proofs.Laws.{plans_no, plans_yes, plans_large}
use Rattle.plan.proofs.plan_file.Goals as goal

pub returns-in_err-check_first-clause-plans : goal.returns-in_err-check_first-clause-plans
returns-in_err-check_first-clause-plans c =
    let e : c.from_residual.result ≡ Err c.in_err-check_first.field-0.0 = search rules in
    rw e (plans_no _ _ _ _ _ _ _ _ c.check_first.ensures c.read_header-h.ensures _ c.in_err-check_first.was)

pub returns-then-pages_fit-clause-plans : goal.returns-then-pages_fit-clause-plans
returns-then-pages_fit-clause-plans c =
    plans_yes _ _ _ _ _ _ _ _ c.check_first.ensures c.read_header-h.ensures c.in_ok-check_first.field-0 _ _ _ _ _ _ _ c.in_ok-check_first.was c.pages_fit.ensures c.if-pages_fit.true
    c.fill_homes-undef.ensures.value c.fill_homes-undef.ensures.homes_after c.fill_codes.ensures c.plan_names.ensures.planned_in

pub returns-else-pages_fit-clause-plans : goal.returns-else-pages_fit-clause-plans
returns-else-pages_fit-clause-plans c =
    plans_large _ _ _ _ _ _ _ _ c.check_first.ensures c.read_header-h.ensures c.in_ok-check_first.field-0 _ _ _ c.in_ok-check_first.was c.pages_fit.ensures c.if-pages_fit.false
    c.fill_homes-undef.ensures.value
