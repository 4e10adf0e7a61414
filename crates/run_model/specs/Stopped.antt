-- A scenario that was run on threads up to a write that failed, in the reads of its lines or in those of the end.
use Rattle.std.specs.Prelude.{◌≡◌, ◌⊎◌, ℕ, suc, ◌<◌, false, List, [], ◌∷◌, ◌++◌, length}
use Rattle.std.specs.List.{flat_map}
use Rattle.trace_model.specs.Buffers.{Buffer}
use Rattle.trace_model.specs.Counts.{last_count}
use Rattle.trace_model.specs.Delivery.{Delivered}
use Rattle.trace_model.specs.History as model
use Rattle.chunk_plain.specs.Setup.{Setup}
use Rattle.chunk_plain.specs.Views.{ServiceView}
use Rattle.chunk_plain.specs.World.{World}
use Rattle.chunk_plain.specs.Histories.{history_of}
use Rattle.chunk_plain.specs.Plain.{first_world}
use Rattle.scenario_text.specs.declared.scenario.LineKind.TheVariants as line
use Rattle.scenario_text.specs.Scenario.{Parts}
use Rattle.service_core.specs.Reading.{noted_read}
use Rattle.service_core.specs.Taking.{noted_more}
use Rattle.replay_model.specs.Played.{buffers_of}
use Rattle.thread_service.specs.Reading.{GoesUnread}
use Rattle.thread_service.specs.Settling.{TakesAllOut}
use Rattle.run_model.specs.Lines.{PlaysSome}
use Rattle.run_model.specs.Reads.{GoesUpTo, ReadsUpTo}
use Rattle.run_model.specs.Settled.{HasDoneAll, HasClosedAll, ReadsTo}

-- A write failed in the reads of the lines: they went as far as this record, and nothing was read behind that. No sequence is closed. While the threads
-- ran, the service played its own lines up to that one, in their order, and none behind it; nothing came between them but chunks taken of a producer one
-- of whose writers may ask for help, and answers that were read. What was left then was taken producer by producer in rising number.
pub record StopsInLines (scenario : Parts) (setup : Setup) (world : World) (next : Delivered) : Type 0 where
  pub done : HasDoneAll scenario setup world false
  pub played : PlaysSome setup (buffers_of scenario setup) scenario.lines (first_world setup).service done.stood.service
  pub settles : TakesAllOut setup (length setup.ranges) done.stood.service world.service
  pub stopped : List model.Event
  pub reads : GoesUpTo setup (buffers_of scenario setup) scenario.lines [] stopped next
  pub goes : GoesUnread stopped (history_of world.service)

-- Some of so many buffers are read in rising number, each without limit, and then the next one up to this record. The view knows these reads more, and
-- nothing else.
pub record ReadsSomeTo (setup : Setup) (first : List Buffer) (number : ℕ) (old new : ServiceView) (next : Delivered) : Type 0 where
  pub read : ℕ
  pub fewer : read < number
  pub earlier : List model.Event
  pub between : ServiceView
  pub reads : ReadsTo setup first read earlier old between
  pub ends : ReadsUpTo setup first (line.Read (suc read) last_count) (history_of between) (history_of new) next
  pub view : new ≡ noted_more between (flat_map noted_read (ends.firsts ++ model.Read ends.sequence ends.count ∷ []))

-- One failed in the reads of the end: those of the lines were done, all was taken, then each producer closed, and the buffers read as far
-- as this record.
pub record StopsInEnd (scenario : Parts) (setup : Setup) (world : World) (next : Delivered) : Type 0 where
  pub before : HasClosedAll scenario setup world
  pub reads : ReadsSomeTo setup (buffers_of scenario setup) (length scenario.buffers) before.closed world.service next

-- The scenario was run up to a write that failed, which was that of this record, the next one due.
abbrev pub StopsBefore : Parts → Setup → World → (next : Delivered) → Type 0
StopsBefore scenario setup world next = StopsInLines scenario setup world next ⊎ StopsInEnd scenario setup world next
