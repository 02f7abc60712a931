use Rattle.std.proofs.Common.{rules}
use Rattle.refusal.specs.Refusal.{leaves_done}
use Rattle.pagemap.proofs.Laws.{read_end, whole_read}
use Rattle.pagemap.proofs.reading.slice_into.Goals as goal

pub returns : goal.returns
returns c =
    let read = c.in_ok-read_code.was in
    leaves_done c.read_code.result _ _ _ _ _ c.read_code.ensures read
    (whole_read c.args.image.now c.args.buf.now c.copy.new.b c.args.start.0 (read_end _ _ c.read_code.result _ _ c.read_code.ensures read) c.copy.ensures)
