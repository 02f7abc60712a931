use Rattle.std.proofs.Common.{◌≡◌, ◌%◌, ◌^◌}
use Rattle.std.specs.Prelude.{count_ones}
use Rattle.util.specs.Prefix.{sum_to}
use Rattle.marks.specs.Marks.{word_at}
use Rattle.marks.proofs.page_count.Given as goal

abbrev pub invariant-loop-w : goal.invariant-loop-w
invariant-loop-w l = l.sum ≡ sum_to (λ v. count_ones (word_at l.fn.marks v)) l.w % 2 ^ 64
