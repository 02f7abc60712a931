use Rattle.std.proofs.Common.{rules, ◌∙◌}
use Rattle.le.specs.Le.{splice_whole}
use Rattle.aspace.specs.SpaceLaws.{leaves_kept, leaves_new}
use Rattle.aspace.proofs.reading.read_into.Goals as goal

pub returns-in_err-bytes : goal.returns-in_err-bytes
returns-in_err-bytes g c = leaves_kept _ _ _ _ _ c.in_err-bytes.ensures.refused (search rules)

pub returns : goal.returns
returns g c = leaves_new _ _ _ _ c.in_ok-bytes.ensures.read.0 (splice_whole c.args.buf.now _ _ c.in_ok-bytes.ensures.read.2 c.copy.ensures ∙ c.in_ok-bytes.ensures.read.1)
