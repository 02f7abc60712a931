use Rattle.std.proofs.Common.{rules}
use Rattle.order.proofs.Laws.{read_loop}
use Rattle.order.proofs.text_key.Goals as goal
use Rattle.order.proofs.text_key.Goals.{then-b-ne0, else-b-ne0}

pub loop-i-preserved : goal.loop-i-preserved
loop-i-preserved c = elim c.if-b-ne0.branch [ then-b-ne0 w ↦ rw w.at-is (search (rules, read_loop)) | else-b-ne0 w ↦ rw w.at-is (search (rules, read_loop)) ]
