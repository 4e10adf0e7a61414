use Rattle.stream_laws.proofs.SentLemmas.{sent_streams_come}
use Rattle.stream_laws.proofs.laws.sent_streams_come.Goals as goal

pub returns : goal.returns
returns c = sent_streams_come
