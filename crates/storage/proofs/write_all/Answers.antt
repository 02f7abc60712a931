use Rattle.std.proofs.Common.{refl}
use Rattle.storage.proofs.Laws.{stored_is}
use Rattle.storage.proofs.write_all.Goals as goal

pub returns-clause-writes : goal.returns-clause-writes
returns-clause-writes c =
    stored_is _ _ c.read_header-h.ensures c.undef_start-start.ensures.value c.offset_word-undef.ensures c.page_word-pages.ensures c.by_machine-arch.ensures c.words-names.ensures refl
    c.write_layout.ensures c.write_names.ensures c.write_relocations.ensures
