use Rattle.trace_model.proofs.EncodingLemmas.{encoding_as_long}
use Rattle.trace_model.proofs.laws.encodings_are_as_long.Goals as goal

pub returns : goal.returns
returns c = encoding_as_long
