use Rattle.std.proofs.Common.{◌≡◌, rules, Err}
use Rattle.patch.proofs.Laws.{patch_yes, patch_no}
use Rattle.patch.proofs.patch.Goals as goal

pub returns : goal.returns
returns c = patch_yes _ _ _ _ _ _ _ c.patch_code.ensures _ c.in_ok-patch_code.was _ _ _ c.fix_count-count.ensures c.portion_of-n.ensures c.apply_portion.ensures

pub returns-in_err-patch_code : goal.returns-in_err-patch_code
returns-in_err-patch_code c =
    let e : c.from_residual.result ≡ Err c.in_err-patch_code.field-0.0 = search rules in
    patch_no _ _ _ _ _ _ _ c.patch_code.ensures _ _ c.in_err-patch_code.was e
