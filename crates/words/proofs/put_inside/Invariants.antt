use Rattle.std.proofs.Common.{◌≡◌, take}
use Rattle.le.specs.Le.{splice}
use Rattle.words.specs.Words.{word_bytes}
use Rattle.words.proofs.put_inside.Given as goal

abbrev pub invariant-loop-i : goal.invariant-loop-i
invariant-loop-i l = l.b ≡ splice l.initial.b l.at (word_bytes (take l.i l.ws))
