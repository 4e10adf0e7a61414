-- The worked examples of answers are computed.
use Rattle.std.proofs.Common.{refl}
use Rattle.run_model.specs.WorkedAnswers.{WorkedAnswers}

pub worked_answers : WorkedAnswers
worked_answers = record {
  each = refl;
  later = refl;
  one = refl;
  none_read = refl;
  none_made = refl;
  asked = refl;
  unasked = refl;
}
