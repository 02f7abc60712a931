use Rattle.std.proofs.Common.{◌≡◌}
use Rattle.le.specs.Le.{splice}
use Rattle.object.specs.Symbol.{auxiliaries_left}
use Rattle.codes.specs.Draft.{drafts_to, some_drafts}
use Rattle.codes.proofs.fill_drafts.Given as goal

abbrev pub invariant-loop-j : goal.invariant-loop-j
invariant-loop-j l = (l.left ≡ auxiliaries_left l.f l.h l.j) × (l.named ≡ some_drafts l.f l.h l.j) × (l.codes ≡ splice l.initial.codes 0 (drafts_to l.f l.h l.j))
