-- What the reading of a buffer notes, and what the sink takes.
use Rattle.std.specs.Prelude.{◌≡◌, ℕ, suc, ◌+◌, ◌-◌, ◌≤◌, ◌==◌, List, [], ◌∷◌, ◌++◌, length, drop, if◌then◌else◌}
use Rattle.std.specs.List.{flat_map}
use Rattle.byte_io.specs.Bytes.{Intake, after_told, TakesPart}
use Rattle.trace_base.specs.declared.policy.WriterSpec.{WriterSpec}
use Rattle.trace_model.specs.Buffers.{Buffer}
use Rattle.trace_model.specs.Delivery.{Delivered, trace_of}
use Rattle.trace_model.specs.History as model
use Rattle.trace_model.specs.History.{buffers_after, records_at, records_after, reads_of}
use Rattle.chunk_plain.specs.Setup.{Setup, sequence_of}
use Rattle.chunk_plain.specs.Views.{Noted, Read, ServiceView}
use Rattle.chunk_plain.specs.Histories.{history_of}
use Rattle.service_core.specs.declared.service.ServiceCore.{ServiceCore}
use Rattle.service_core.specs.Agreement.{first_of}
use Rattle.service_core.specs.Routing.{buffer_at}
use Rattle.service_core.specs.Taking.{noted_more}

-- the sequences of the writers of this buffer, in rising id; the first writer has this place
abbrev pub sequences_to : (number place : ℕ) → List WriterSpec → List ℕ
sequences_to number place [] = []
sequences_to number place (spec ∷ specs) =
    if spec.buffer == number then sequence_of place ∷ sequences_to number (suc place) specs else sequences_to number (suc place) specs

-- the reading of the buffer with this number: its sequences in rising id, each with what is left of the limit
abbrev pub reads_in : Setup → List Buffer → (number limit : ℕ) → List model.Event
reads_in setup buffers number limit = reads_of limit (buffer_at buffers (number - 1)) (sequences_to number 0 setup.writers)

-- how a read is noted
abbrev pub noted_read : model.Event → List Noted
noted_read (model.Read sequence limit) = Read sequence limit ∷ []
noted_read _ = []

-- These reads were noted, in their order and nothing else. What the history writes is more by their records.
pub record NotesReads {S : Type 0} (setup : Setup) (core : ServiceCore S) (events : List model.Event) (old new : ServiceView) : Type 0 where
  pub view : new ≡ noted_more old (flat_map noted_read events)
  pub history : history_of new ≡ history_of old ++ events
  pub trace : records_after (first_of setup core) (history_of new)
      ≡ records_after (first_of setup core) (history_of old) ++ records_after core.buffers.items events

-- what a read begins with, and what it comes to: what the service's seat knows, and what the sink has taken
pub record ReadMoment : Type 0 where
  pub view : ServiceView
  pub taken : Intake

-- the moment at which the seat knows this and the sink has taken so much
abbrev pub read_moment : ServiceView → Intake → ReadMoment
read_moment view taken = record { view = view; taken = taken }

-- A buffer was read: its reads were noted, the sink took their records, and so many packets were delivered.
pub record ReadsAll {S : Type 0} (setup : Setup) (core : ServiceCore S) (number limit delivered : ℕ)
    (before after : ReadMoment) : Type 0 where
  pub notes : NotesReads setup core (reads_in setup core.buffers.items number limit) before.view after.view
  pub taken : after.taken
      ≡ after_told before.taken (trace_of (records_after core.buffers.items (reads_in setup core.buffers.items number limit)))
  pub many : delivered ≡ length (records_after core.buffers.items (reads_in setup core.buffers.items number limit))

-- A write failed in a read of one sequence: the sink had taken the records before whole, so many, and took a front part of the next one.
pub record FailsIn (buffers : List Buffer) (sequence limit count : ℕ) (before after : Intake) : Type 0 where
  pub failed : Delivered
  pub later : List Delivered
  pub due : records_at buffers (model.Read sequence limit) ≡ records_at buffers (model.Read sequence count) ++ failed ∷ later
  pub many : length (records_at buffers (model.Read sequence count)) ≡ count
  pub part : TakesPart (after_told before (trace_of (records_at buffers (model.Read sequence count)))) after failed.bytes

-- A write failed in one of the reads of a buffer: the reads before it were noted, then this one with the number that it delivered, and no further one.
pub record FailsAmong {S : Type 0} (setup : Setup) (core : ServiceCore S) (number limit : ℕ) (before after : ReadMoment) : Type 0 where
  pub firsts : List model.Event
  pub sequence : ℕ
  pub left : ℕ
  pub count : ℕ
  pub others : List model.Event
  pub cut : reads_in setup core.buffers.items number limit ≡ firsts ++ model.Read sequence left ∷ others
  pub notes : NotesReads setup core (firsts ++ model.Read sequence count ∷ []) before.view after.view
  pub fails : FailsIn (buffers_after core.buffers.items firsts) sequence left count
      (after_told before.taken (trace_of (records_after core.buffers.items firsts))) after.taken

-- One sequence was read: its read was noted and done, and the sink took its records, so many.
pub record ReadsOne {S : Type 0} (core done : ServiceCore S) (sequence limit delivered : ℕ) (before after : ReadMoment) : Type 0 where
  pub view : after.view ≡ noted_more before.view (Read sequence limit ∷ [])
  pub buffers : done.buffers.items ≡ buffers_after core.buffers.items (model.Read sequence limit ∷ [])
  pub taken : after.taken ≡ after_told before.taken (trace_of (records_at core.buffers.items (model.Read sequence limit)))
  pub many : delivered ≡ length (records_at core.buffers.items (model.Read sequence limit))
  pub most : delivered ≤ limit

-- a write failed in it, and it was noted with the number that it delivered
pub record FailsOne {S : Type 0} (core : ServiceCore S) (sequence limit : ℕ) (before after : ReadMoment) : Type 0 where
  pub count : ℕ
  pub view : after.view ≡ noted_more before.view (Read sequence count ∷ [])
  pub fails : FailsIn core.buffers.items sequence limit count before.taken after.taken

-- how far the reading of a buffer has come: the service as it is then, the place of the next writer, and what is left of the limit
pub record ReadYet (S : Type 0) : Type 0 where
  pub core : ServiceCore S
  pub place : ℕ
  pub left : ℕ

-- the reading has come so far
abbrev pub read_yet : {S : Type 0} → ServiceCore S → (place left : ℕ) → ReadYet S
read_yet core place left = record { core = core; place = place; left = left }

-- These reads of a buffer are done, and those of the writers from this place on are still to come, with so much left of the limit.
pub record ReadsSome {S : Type 0} (setup : Setup) (core : ServiceCore S) (number limit : ℕ) (yet : ReadYet S)
    (before now : ReadMoment) : Type 0 where
  pub events : List model.Event
  pub rest : reads_in setup core.buffers.items number limit
      ≡ events ++ reads_of yet.left (buffer_at yet.core.buffers.items (number - 1))
      (sequences_to number yet.place (drop yet.place setup.writers))
  pub view : now.view ≡ noted_more before.view (flat_map noted_read events)
  pub history : history_of now.view ≡ history_of before.view ++ events
  pub buffers : yet.core.buffers.items ≡ buffers_after core.buffers.items events
  pub taken : now.taken ≡ after_told before.taken (trace_of (records_after core.buffers.items events))
  pub many : length (records_after core.buffers.items events) + yet.left ≡ limit
