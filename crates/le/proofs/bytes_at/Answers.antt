use Rattle.std.proofs.Common.{rules, arith, ◌≡◌, get_or, length, ◌∙◌, ap}
use Rattle.le.proofs.Laws.{from_fn_gives, rest_at}
use Rattle.le.proofs.bytes_at.Goals as goal

pub returns-in-None-first_chunk : goal.returns-in-None-first_chunk
returns-in-None-first_chunk g c = λ k h.
    let s = c.args.s.now in
    let there = c.in-Some.ensures.lookup.0 in
    from_fn_gives _ _ (λ i. get_or c.in-Some.rest.now i 0) (λ i y q w. (search rules, search rules)) _ 0 c.from_fn.result c.from_fn.ensures.items.each k (omega arith) (omega arith)
    ∙ ap (λ l. get_or l k 0) there.2
    ∙ rest_at s c.args.at c.args.at k (omega arith)
