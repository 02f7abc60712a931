use Rattle.std.proofs.Common.{arith}
use Rattle.survey.proofs.Laws.{room_low}
use Rattle.load.proofs.load_in.Goals as goal

pub whole_as_slice-load_with : goal.whole_as_slice-load_with
whole_as_slice-load_with c = λ c'. let r = (room_low _ _ _ c'.requires).0 in omega arith

pub whole_as_slice-load_with-2 : goal.whole_as_slice-load_with-2
whole_as_slice-load_with-2 c = λ c'. let r = (room_low _ _ _ c'.requires).1 in omega arith
