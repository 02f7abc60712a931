use Rattle.std.proofs.Common.{arith, sym, ◌∙◌}
use Rattle.strings.proofs.Laws.{text_begin, text_more, text_unmapped, text_other, text_end}
use Rattle.strings.proofs.text_length.Goals.{then-probe, else-probe}
use Rattle.strings.proofs.text_length.Goals as goal

pub loop-i-init : goal.loop-i-init
loop-i-init c = record { within = omega arith; same = text_begin _ _ _ }

pub returns-then-not-is_text : goal.returns-then-not-is_text
returns-then-not-is_text c =
    elim c.if-probe.branch [
      | then-probe w ↦ text_other _ _ _ _ w.is_text.result c.loop-i-test.true w.is_text.ensures (sym w.value-is ∙ c.if-not-is_text.true) c.loop-i.invariant.same
      | else-probe w ↦ text_unmapped _ _ _ _ c.probe.result c.loop-i-test.true c.probe.ensures w.if-probe.false c.loop-i.invariant.same
    ]

pub loop-i-preserved : goal.loop-i-preserved
loop-i-preserved c = record {
  within = omega arith;
  same =
      elim c.if-probe.branch [
        | then-probe w ↦ text_more _ _ _ _ c.probe.result w.is_text.result c.loop-i-test.true c.probe.ensures w.if-probe.true w.is_text.ensures (sym w.value-is ∙ c.if-not-is_text.false) c.loop-i.auto.i c.loop-i.invariant.same
        | else-probe w ↦ cc
      ];
}

pub returns : goal.returns
returns c = c.saturating_sub.ensures ∙ text_end _ _ _ _ c.loop-i-test.false c.loop-i.auto.i c.loop-i.invariant.within c.loop-i.invariant.same
