use Rattle.std.proofs.Common.{rules}
use Rattle.lists.proofs.Laws.{no_rows}
use Rattle.lists.proofs.write_next.Goals as goal

pub returns-then-word_at-eq0 : goal.returns-then-word_at-eq0
returns-then-word_at-eq0 c = search (rules, no_rows)
