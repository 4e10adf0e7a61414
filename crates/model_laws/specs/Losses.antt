-- Losses change no shape: what a writer's calls emit is a function of the calls that it was asked to do.
use Rattle.std.specs.Prelude.{◌≡◌, true, List, [], ◌∷◌}
use Rattle.trace_model.specs.Calls.{Call, Begun, Number, Bytes, Nested, Ended, GivenUp, Finished, Flushed}
use Rattle.trace_model.specs.Packets.{packets_of, emissions_of, begun_count, is_writing, open_count, newest_length}

-- What a writer was asked to write, of the calls that are noted: each packet as if it had been kept. That a packet was
-- dropped or given up is noted where it happened, and flushes come between packets.
abbrev pub written_calls : List Call → List Call
written_calls [] = []
written_calls (Begun kept ∷ calls) = Begun true ∷ written_calls calls
written_calls (GivenUp ∷ calls) = written_calls calls
written_calls (Flushed ∷ calls) = written_calls calls
written_calls (Number field value ∷ calls) = Number field value ∷ written_calls calls
written_calls (Bytes field text times ∷ calls) = Bytes field text times ∷ written_calls calls
written_calls (Nested field ∷ calls) = Nested field ∷ written_calls calls
written_calls (Ended ∷ calls) = Ended ∷ written_calls calls
written_calls (Finished ∷ calls) = Finished ∷ written_calls calls

-- the noted calls are the asked ones, with packets lost and flushes between packets
abbrev pub Loses : List Call → List Call → Type 0
Loses asked noted = written_calls noted ≡ written_calls asked

-- the same packets are emitted, as many are begun, and the newest is as long, has as many open messages and is finished or not
pub record HasShapeOf (asked noted : List Call) : Type 0 where
  pub emitted : emissions_of noted ≡ emissions_of asked
  pub begun : begun_count noted ≡ begun_count asked
  pub writing : is_writing (packets_of noted) ≡ is_writing (packets_of asked)
  pub depth : open_count (packets_of noted) ≡ open_count (packets_of asked)
  pub long : newest_length (packets_of noted) ≡ newest_length (packets_of asked)

-- Drops and giving up change neither which packets are emitted nor their fields.
abbrev pub LossesChangeNoShape : Type 0
LossesChangeNoShape = (asked noted : List Call) → Loses asked noted → HasShapeOf asked noted
