use Rattle.std.proofs.Common.{◌≡◌, rules, refl, eqb}
use Rattle.std.specs.Prelude.{◌||◌}
use Rattle.object.specs.SymbolLaws.{left_past}
use Rattle.codes.specs.Draft.{NAMED}
use Rattle.codes.proofs.Laws.{draft_loop, draft_again, some_again}
use Rattle.codes.proofs.fill_drafts.Goals as goal
use Rattle.codes.proofs.fill_drafts.Goals.{then-named, else-named}

pub loop-j-preserved : goal.loop-j-preserved
loop-j-preserved c =
    let e : c.if-named.named ≡ (c.loop-j.named || eqb c.draft_code-code.result NAMED) =
    elim c.if-named.branch [ then-named w ↦ rw (w.named-is, w.if-named.true) refl | else-named w ↦ rw (w.named-is, w.if-named.false) refl ] in (
      search (rules, draft_loop, left_past),
      some_again c.args.f.now c.args.h c.loop-j.j c.loop-j.left c.draft_code-code.result c.read_symbol-s.result c.loop-j.invariant.0 c.read_symbol-s.ensures c.draft_code-code.ensures c.if-named.named c.loop-j.named c.loop-j.invariant.1 e,
      draft_again c.args.f.now c.args.h c.loop-j.j c.loop-j.left c.draft_code-code.result c.read_symbol-s.result c.loop-j.invariant.0 c.read_symbol-s.ensures c.draft_code-code.ensures c.args.codes.now c.loop-j.codes c.put_code.new.codes c.loop-j.invariant.2 c.put_code.ensures,
    )
