use Rattle.le.specs.Le.{get}
use Rattle.std.proofs.Common.{rules, ◌∙◌, ap, ◌≤◌}
use Rattle.aspace.proofs.Places.{number_refused, number_read, number_of_part}
use Rattle.aspace.proofs.reading.read_number.Goals as goal

pub returns-in_err-bytes : goal.returns-in_err-bytes
unfolding Rattle.aspace.specs.Places.read_number_there
returns-in_err-bytes g c = rw (← c.BYTES.ensures) (number_refused _ _ _ _ c.in_err-bytes.ensures.refused (search rules))

pub returns : goal.returns
unfolding Rattle.aspace.specs.Places.read_number_there
returns g c =
    let fits : c.BYTES.result ≤ 8 = rw c.BYTES.ensures g.W.Width.fits in
    rw (← c.BYTES.ensures) (number_read _ _ _ c.in_ok-bytes.ensures.read.0 (c.u64_at.ensures ∙ ap (λ l. get 8 l 0) c.in_ok-bytes.ensures.read.1 ∙ number_of_part _ _ _ fits))
