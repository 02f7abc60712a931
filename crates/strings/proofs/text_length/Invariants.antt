use Rattle.std.proofs.Common.{◌≡◌, ◌≤◌, ◌+◌, ◌-◌, max, length}
use Rattle.strings.specs.Ascii.{text_in, text_length}
use Rattle.strings.proofs.text_length.Given as goal

abbrev pub invariant-loop-i : goal.invariant-loop-i
invariant-loop-i l = record {
  within : l.i ≤ max l.at (length l.image);
  same : text_length l.image l.marks l.at ≡ (l.i - l.at) + text_in l.image l.marks l.i (length l.image - l.i);
}
