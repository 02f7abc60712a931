use Rattle.std.proofs.Common.{rules}
use Rattle.object.specs.SymbolLaws.{left_none, left_past}
use Rattle.symbol_table.proofs.Laws.{symbols_none, symbols_more, symbols_same}
use Rattle.symbol_table.proofs.write_listed.Goals.{then-is_listed, else-is_listed}
use Rattle.symbol_table.proofs.write_listed.Goals as goal

pub loop-j-init : goal.loop-j-init
loop-j-init c = record { left = search (rules, left_none); written = symbols_none _ _ _ _ _ _ }

pub loop-j-preserved : goal.loop-j-preserved
loop-j-preserved c = record {
  left = search (rules, left_past);
  written = elim c.if-is_listed.branch [
    | then-is_listed w ↦ rw (w.b-is, w.n-is) (symbols_more _ _ _ _ _ _ _ _ _ _ _ _ _ c.loop-j.invariant.written c.is_listed.ensures c.loop-j.invariant.left c.read_symbol-s.ensures w.if-is_listed.true w.put_symbol.ensures)
    | else-is_listed w ↦ rw (w.b-is, w.n-is) (symbols_same _ _ _ _ _ _ _ _ _ _ _ _ c.loop-j.invariant.written c.is_listed.ensures c.loop-j.invariant.left c.read_symbol-s.ensures w.if-is_listed.false)
  ];
}
