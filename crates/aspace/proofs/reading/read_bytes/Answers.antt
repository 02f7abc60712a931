use Rattle.le.specs.Le.{splice}
use Rattle.std.proofs.Common.{rules, arith, ◌∙◌, ap}
use Rattle.aspace.specs.SpaceLaws.{leaves_kept, leaves_new}
use Rattle.aspace.proofs.Places.{bytes_fit, bytes_short}
use Rattle.aspace.proofs.reading.read_bytes.Goals as goal

pub returns-then-out-n : goal.returns-then-out-n
returns-then-out-n g c = leaves_kept _ _ _ _ _ (bytes_short _ _ _ _ _ _ (omega arith)) (search rules)

pub returns-in_err-bytes : goal.returns-in_err-bytes
returns-in_err-bytes g c = leaves_kept _ _ _ _ _ (bytes_fit _ _ _ _ _ _ (omega arith) _ c.in_err-bytes.ensures.refused) (search rules)

pub returns : goal.returns
returns g c = leaves_new _ _ _ _ (bytes_fit _ _ _ _ _ _ (omega arith) _ c.in_ok-bytes.ensures.read.0) (c.copy.ensures ∙ ap (splice c.args.out.now 0) c.in_ok-bytes.ensures.read.1)
