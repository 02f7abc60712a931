use Rattle.std.proofs.Common.{rules, ◌∙◌, ap}
use Rattle.le.specs.Le.{le, splice}
use Rattle.aspace.specs.SpaceLaws.{leaves_kept, leaves_new}
use Rattle.write.proofs.write_number.Goals as goal

pub returns-in_err-offset : goal.returns-in_err-offset
returns-in_err-offset g c = leaves_kept _ _ _ _ _ (rw c.BYTES.ensures at c.in_err-offset.ensures.refused) (search rules)

pub returns : goal.returns
returns g c = leaves_new _ _ _ _ (rw c.BYTES.ensures at c.in_ok-offset.ensures.written) (c.put.ensures ∙ ap (λ n. splice c.args.image.now c.in_ok-offset.offset.0 (le n c.args.v)) c.BYTES-2.ensures ∙ ap (λ i. splice c.args.image.now i (le g.W.Width.BYTES c.args.v)) c.in_ok-offset.ensures.found)
