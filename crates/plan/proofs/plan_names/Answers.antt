use Rattle.std.proofs.Common.{◌≡◌, rules, Err}
use Rattle.plan.proofs.Laws.{plan_over}
use Rattle.plan.proofs.plan_names.Goals as goal

pub returns-in_err-n-clause-planned_in : goal.returns-in_err-n-clause-planned_in
returns-in_err-n-clause-planned_in c =
    let e : c.from_residual.result ≡ Err c.in_err-n.field-0.0 = search rules in
    rw e (plan_over _ _ _ _ _ _ _ _ c.collect.ensures.value c.collect.ensures.slots_after c.collect.ensures.codes_after _ c.ok_or.ensures.value _ c.in_err-n.was)
