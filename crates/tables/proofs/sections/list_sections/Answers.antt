use Rattle.std.proofs.Common.{rules}
use Rattle.tables.proofs.Laws.{sections_none, sections_more, sections_same, sections_end}
use Rattle.tables.proofs.sections.list_sections.Goals.{then-is_loaded, else-is_loaded}
use Rattle.tables.proofs.sections.list_sections.Goals as goal

pub loop-i-init : goal.loop-i-init
loop-i-init c = sections_none _ _ _ _ _

pub loop-i-preserved : goal.loop-i-preserved
loop-i-preserved c = elim c.if-is_loaded.branch [
  | then-is_loaded w ↦ rw (w.b-is, w.n-is) (sections_more _ _ _ _ _ _ _ _ _ _ c.loop-i.invariant c.is_loaded.ensures w.if-is_loaded.true w.put_section.ensures)
  | else-is_loaded w ↦ rw (w.b-is, w.n-is) (sections_same _ _ _ _ _ _ _ _ _ c.loop-i.invariant c.is_loaded.ensures w.if-is_loaded.false)
]

pub returns : goal.returns
returns c = search (rules, sections_end)
