use Rattle.std.proofs.Common.{◌≡◌, rules, Err}
use Rattle.loading.proofs.Laws.{load_no, load_yes}
use Rattle.loading.proofs.load_with.Goals as goal

pub returns-in_err-counts-clause-loads : goal.returns-in_err-counts-clause-loads
returns-in_err-counts-clause-loads c =
    let e : c.from_residual.result ≡ Err c.in_err-counts.field-0.0 = search rules in
    rw e (load_no _ _ _ _ _ _ _ _ _ c.plan_file.ensures.plans _ c.in_err-counts.was)

pub returns-clause-loads : goal.returns-clause-loads
returns-clause-loads c = load_yes _ _ _ _ _ _ _ _ _ c.plan_file.ensures.plans _ _ _ c.in_ok-counts.was c.write_all.ensures.writes
