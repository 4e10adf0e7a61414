-- A table lent for the reading of a buffer with the reading pass: what is known of it behind any calls.
use Rattle.std.specs.Prelude.{◌≡◌, ◌⊎◌, List, ◌++◌}
use Rattle.std.specs.List.{All}
use Rattle.atomic_table.specs.Seated.{TableId}
use Rattle.chunk_plain.specs.Views.{Noted, ServiceView}
use Rattle.chunk_words.specs.declared.host.HostTable.{HostTable}
use Rattle.chunk_words.specs.declared.seats.ServiceSeat.{ServiceSeat}
use Rattle.chunk_words.specs.declared.seats.ReadPass.{ReadPass}
use Rattle.chunk_words.specs.GoesOn.{GoesOn, IsFront, IsReadNote}
use Rattle.chunk_words.specs.Knows.{Desk, Away, with_stage}
use Rattle.chunk_words.specs.Named.{identity_of}
use Rattle.chunk_words.specs.Sits.{Attends, Passes, known_by_service, known_by_pass, desk_by_service}
use Rattle.service_core.specs.Agreement.{AreKnownNotes}

-- The view has these notes more than the earlier one; where they are all reads, each of its notes is known.
pub record KnowsReads (before view : ServiceView) : Type 0 where
  pub rest : List Noted
  pub events : view.events ≡ before.events ++ rest
  pub known : All IsReadNote rest → AreKnownNotes view view.events

-- no read was noted since: the pass knows what it knew, and the service's view went on
pub record NoneRead (passed before pass view : ServiceView) : Type 0 where
  pub same : pass ≡ passed
  pub goes : GoesOn before view

-- Reads were noted: at the first one the service's view had gone on, from the earlier one and from what the pass knew, and the pass knows
-- all that was noted up to the last one.
pub record SomeRead (passed before pass view : ServiceView) : Type 0 where
  pub first : ServiceView
  pub from_pass : GoesOn passed first
  pub from_view : GoesOn before first
  pub further : IsFront first.events pass.events
  pub knows : KnowsReads before pass
  pub goes : GoesOn pass view

-- The seats are those of the table with this identity, and this became of the views since. What the service's seat has of the other seats
-- is as it was, but for where the reading pass is.
pub record PassesOn (id : TableId) (passed before : ServiceView) (desk : Desk) (table : HostTable) (pass : ReadPass)
    (seat : ServiceSeat) : Type 0 where
  pub attends : Attends table seat
  pub passes : Passes table pass
  pub same_table : identity_of table ≡ id
  pub desk_is : with_stage (desk_by_service seat) Away ≡ with_stage desk Away
  pub knows : KnowsReads before (known_by_service seat)
  pub since : NoneRead passed before (known_by_pass pass) (known_by_service seat)
      ⊎ SomeRead passed before (known_by_pass pass) (known_by_service seat)
