use Rattle.strings.proofs.Laws.{ascii_short, ascii_text}
use Rattle.strings.proofs.read_ascii.Goals as goal

pub returns-then-length-minimum_length : goal.returns-then-length-minimum_length
returns-then-length-minimum_length g c =
    ascii_short _ _ _ _ _ _ c.storage_ok.ensures _ c.if-not-storage_ok.false c.offset.ensures _ _ c.in-Some.is c.text_length-length.ensures c.if-length-minimum_length.true

pub returns-else-length-minimum_length : goal.returns-else-length-minimum_length
returns-else-length-minimum_length g c =
    ascii_text _ _ _ _ _ _ c.storage_ok.ensures _ c.if-not-storage_ok.false c.offset.ensures _ _ c.in-Some.is c.text_length-length.ensures c.if-length-minimum_length.false
