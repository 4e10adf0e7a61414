-- What the reading pass knows of the reads of a service.
use Rattle.std.specs.Prelude.{◌≡◌, ◌⊎◌, List, [], ◌++◌}
use Rattle.std.specs.List.{flat_map}
use Rattle.trace_model.specs.Delivery.{Delivered}
use Rattle.trace_model.specs.History as model
use Rattle.trace_model.specs.History.{buffers_after, records_after}
use Rattle.chunk_plain.specs.Setup.{Setup}
use Rattle.atomic_table.specs.Seated.{TableId}
use Rattle.chunk_plain.specs.Views.{ServiceView, asked_in}
use Rattle.chunk_plain.specs.Histories.{history_of}
use Rattle.chunk_words.specs.declared.host.HostTable.{HostTable}
use Rattle.chunk_words.specs.declared.seats.ReadPass.{ReadPass}
use Rattle.chunk_words.specs.Knows.{Desk, Away, with_stage}
use Rattle.chunk_words.specs.Named.{identity_of}
use Rattle.chunk_words.specs.Sits.{Passes, setup_in, known_by_pass}
use Rattle.service_core.specs.declared.service.ServiceCore.{ServiceCore}
use Rattle.service_core.specs.Agreement.{AreKnownNotes, KeepsRest, first_of}
use Rattle.service_core.specs.Reading.{noted_read}
use Rattle.thread_service.specs.declared.service.Service.{Service}
use Rattle.thread_service.specs.Serving.{core_of, view_in, desk_in, Serves}

-- the records that the history in a view writes, from the buffers as the service made them
abbrev pub records_of : {S : Type 0} → Setup → ServiceCore S → ServiceView → List Delivered
records_of setup core view = records_after (first_of setup core) (history_of view)

-- what the pass knows is known whole: each note with what it stands for
abbrev pub IsKnownWhole : ServiceView → Type 0
IsKnownWhole view = AreKnownNotes view view.events

-- The history went on without a read.
pub record GoesUnread (old new : List model.Event) : Type 0 where
  pub others : List model.Event
  pub goes : new ≡ old ++ others
  pub unread : flat_map noted_read others ≡ []

-- The pass knows these reads more, and so their records: the history that it knew went on without a read, and then by them alone. Where
-- there is one of them, the buffers were those that the history before them leads to.
pub record PassReads {S : Type 0} (setup : Setup) (core : ServiceCore S) (events : List model.Event) (old new : ServiceView) : Type 0 where
  pub before : List model.Event
  pub goes : GoesUnread (history_of old) before
  pub history : history_of new ≡ before ++ events
  pub buffers : (events ≡ []) ⊎ (core.buffers.items ≡ buffers_after (first_of setup core) before)
  pub records : records_of setup core new ≡ records_of setup core old ++ records_after core.buffers.items events

-- Between two calls with the pass: it and the service are those of the table, and what the pass knows is known whole.
pub record ServesPassing (table : HostTable) (service : Service) (pass : ReadPass) : Type 0 where
  pub serves : Serves table service
  pub passes : Passes table pass
  pub known : IsKnownWhole (known_by_pass pass)

-- A read with the pass starts there: at the table with this identity, with what pass and service know, and what its seat has of the others.
pub record StartsFrom (id : TableId) (passed before : ServiceView) (desk : Desk) (table : HostTable) (service : Service)
    (pass : ReadPass) : Type 0 where
  pub serving : ServesPassing table service pass
  pub table_is : identity_of table ≡ id
  pub passed_is : known_by_pass pass ≡ passed
  pub view_is : view_in service ≡ before
  pub desk_is : desk_in service ≡ desk

-- And it leaves them so, with what they know of flush requests, the session, and which sequences are closed. What the seat has of the other
-- seats stays, but for where the pass is.
pub record LeavesPassing (table : HostTable) (old : Service) (before : ReadPass) (new : Service) (after : ReadPass) : Type 0 where
  pub serving : ServesPassing table new after
  pub desk : with_stage (desk_in new) Away ≡ with_stage (desk_in old) Away
  pub letters : (view_in new).letters ≡ (view_in old).letters
  pub asked : asked_in (known_by_pass after).letters ≡ asked_in (known_by_pass before).letters
  pub keeps : KeepsRest (setup_in table) (core_of old) (core_of new)
