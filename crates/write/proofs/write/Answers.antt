use Rattle.std.proofs.Common.{rules, ◌∙◌, ap}
use Rattle.le.specs.Le.{splice}
use Rattle.aspace.specs.SpaceLaws.{leaves_kept, leaves_new}
use Rattle.write.proofs.write.Goals as goal

pub returns-in_err-offset : goal.returns-in_err-offset
returns-in_err-offset g c = leaves_kept _ _ _ _ _ c.in_err-offset.ensures.refused (search rules)

pub returns : goal.returns
returns g c = leaves_new _ _ _ _ c.in_ok-offset.ensures.written (c.copy.ensures ∙ ap (λ i. splice c.args.image.now i c.args.v.now) c.in_ok-offset.ensures.found)
