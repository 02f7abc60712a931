use Rattle.words.proofs.Laws.{words_end}
use Rattle.words.proofs.put_room.Goals as goal

pub returns : goal.returns
returns c = words_end c.args.ws.now c.args.b.now c.loop-i.b c.args.at c.loop-i.i c.room-i-end.result c.room-i-end.ensures c.loop-i.invariant c.loop-i-test.false
