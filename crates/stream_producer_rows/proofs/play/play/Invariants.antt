-- The producer has taken so many bytes.
use Rattle.std.proofs.Common.{◌≡◌, ◌+◌, ◌-◌, ◌≤◌, length}
use Rattle.chunk_plain.specs.contracts.plain_words.PlainTableWords.TheImpl.{ghosts as plain}
use Rattle.stream_frames.specs.Values.{feeding_of}
use Rattle.stream_producer.specs.Feeding.{IsFeeding}
use Rattle.stream_producer_rows.proofs.play.play.Given as goal

abbrev pub invariant-loop-fed : goal.invariant-loop-fed
invariant-loop-fed l = record {
  feeding : IsFeeding plain.means l.producer;
  counted : (feeding_of l.producer.reader).at + length (feeding_of l.producer.reader).have ≡ l.fed;
  within : l.fed ≤ length l.stream;
}

abbrev pub decreases-loop-fed : goal.decreases-loop-fed
decreases-loop-fed l = length l.stream - l.fed
