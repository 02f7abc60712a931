use Rattle.std.proofs.Common.{arith}
use Rattle.survey.proofs.Laws.{room_low}
use Rattle.survey.proofs.survey_in.Goals as goal

pub whole_as_slice-survey_with : goal.whole_as_slice-survey_with
whole_as_slice-survey_with c = λ c'. let r = (room_low c'.args.h _ _ c'.requires.room).0 in omega arith

pub whole_as_slice-survey_with-2 : goal.whole_as_slice-survey_with-2
whole_as_slice-survey_with-2 c = λ c'. let r = (room_low c'.args.h _ _ c'.requires.room).1 in omega arith
