-- The words in front were passed over.
use Rattle.std.proofs.Common.{◌≡◌, drop}
use Rattle.scenario_text.specs.Pieces.{pieces}
use Rattle.scenario_text.proofs.raw_chunk.payload_word.Given as goal

abbrev pub invariant-loop : goal.invariant-loop
invariant-loop l = pieces 32 l.rest ≡ drop l.counter (pieces 32 l.fn.line)
