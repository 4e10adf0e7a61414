-- What an act of the service leaves of the writers and of the host.
use Rattle.std.proofs.Common.{◌≡◌, ◌∙◌, ℕ, ◌-◌, ◌<◌, true, false, Some, List, [], ◌∷◌, length, sym, ap, subst}
use Rattle.std.specs.Prelude.{slice_index_or}
use Rattle.byte_io.specs.Bytes.{Intake, after_told}
use Rattle.trace_model.specs.Buffers.{Buffer}
use Rattle.trace_model.specs.Delivery.{Delivered, trace_of}
use Rattle.trace_model.specs.History.{records_after}
use Rattle.chunk_plain.specs.Histories.{history_of}
use Rattle.chunk_plain.specs.Meaning.{Meaning, IsServiceStep}
use Rattle.chunk_plain.specs.Setup.{Setup, HasProducer, producer_of, ProducersAreApart}
use Rattle.chunk_plain.specs.Views.{ServiceView, WriterView}
use Rattle.chunk_plain.specs.World.{World}
use Rattle.trace_writer.specs.declared.writer.WriterCore.{WriterCore}
use Rattle.trace_writer.specs.Core.{CoreAgrees}
use Rattle.service_core.specs.declared.service.ServiceCore.{ServiceCore}
use Rattle.service_core.specs.Agreement.{KeepsRest, ServiceAgrees, is_closed, first_of}
use Rattle.service_core.specs.Taking.{Takes, places_of}
use Rattle.service_core.specs.Told.{LeavesNone}
use Rattle.service_core.proofs.AgreeLemmas.{first_stays}
use Rattle.replay_model.specs.Acts.{Collect}
use Rattle.replay_model.specs.Does.{AreOpen, Collects}
use Rattle.replay_model.proofs.PlayLemmas.{plays_one}
use Rattle.replay_host.specs.declared.host.Host.{Host}
use Rattle.replay_host.specs.Playing.{IsHost, HasDone, IsTraceOf}
use Rattle.replay_host.specs.Standing.{IsServed, Stands}
use Rattle.service_core.proofs.QuietLemmas.{adds_quiet, collect_adds}
use Rattle.replay_host.proofs.RowLemmas.{AreLaws}

-- the writers stand where the service made a step
pub served_stands : {T W S : Type 0} (means : Meaning T W S) (old new : T) (cores : List (WriterCore W)) (before after : ServiceCore S) → Stands means old cores before
    → IsServiceStep means old before.seat new after.seat → IsServed means new after → Stands means new cores after
served_stands {T} {W} means old new cores before after stands step served = record {
  many = stands.many ∙ ap (λ (s : Setup). length s.writers) (sym step.setup_stays);
  seated = λ place core at.
      let was = stands.seated place core at in
      let stays = step.writers_stay core.seat was.sits in
      record {
        sits = stays.0;
        place_is = was.place_is;
        agrees = subst (λ (s : Setup). CoreAgrees s place (means.view new core.seat) core) (sym step.setup_stays)
            (subst (λ (v : WriterView). CoreAgrees (means.setup old) place v core) (sym stays.1) was.agrees);
        going = was.going;
      };
  served = served;
}

-- the service as it is behind a step
pub served_is : {T W S : Type 0} (means : Meaning T W S) (old new : T) (before after : ServiceCore S) → IsServed means old before
    → IsServiceStep means old before.seat new after.seat → ServiceAgrees (means.setup old) (means.service_view new after.seat) after
    → IsServed means new after
served_is means old new before after served step agrees = record {
  serves = step.seat_stays;
  agrees = subst (λ (s : Setup). ServiceAgrees s (means.service_view new after.seat) after) (sym step.setup_stays) agrees;
  reads = step.reads_stay served.reads;
}

-- what is kept of the set-up stays right where the same sequences are closed
pub opened_still : {T W S : Type 0} (means : Meaning T W S) (old new : Host T W S) → IsHost means old → Stands means new.table new.writers.items new.helper.service
    → means.setup new.table ≡ means.setup old.table → KeepsRest (means.setup old.table) old.helper.service new.helper.service
    → new.specs ≡ old.specs → new.open_producers ≡ old.open_producers → IsHost means new
opened_still means old new host stands same keeps specs flags = record {
  stands = stands;
  apart = subst ProducersAreApart (sym same) host.apart;
  specs = ap (λ (v : _). v.items) specs ∙ host.specs ∙ ap (λ (s : Setup). s.writers) (sym same);
  producers = ap (λ (v : _). length v.items) flags ∙ host.producers ∙ ap (λ (s : Setup). length s.ranges) (sym same);
  opened = λ producer has said place below of_producer.
      let was : HasProducer (means.setup old.table) producer = subst (λ (s : Setup). HasProducer s producer) same has in
      let flag : slice_index_or old.open_producers.items (producer - 1) false ≡ true = ap (λ (v : _). slice_index_or v.items (producer - 1) false) (sym flags) ∙ said in
      let here : place < length (means.setup old.table).writers = subst (λ (s : Setup). place < length s.writers) same below in
      let mine : producer_of (means.setup old.table) place ≡ producer = ap (λ (s : Setup). producer_of s place) (sym same) ∙ of_producer in
      ap (λ (s : Setup). is_closed s new.helper.service place) same ∙ keeps.closed place here ∙ host.opened producer was flag place here mine;
}

-- an act that writes nothing leaves the trace
pub quiet_writes : (start taken : Intake) (buffers : List Buffer) (old new : ServiceView) → records_after buffers (history_of new) ≡ records_after buffers (history_of old)
    → IsTraceOf start buffers old taken → IsTraceOf start buffers new taken
quiet_writes start taken buffers old new quiet is = is ∙ ap (λ (ds : List Delivered). after_told start (trace_of ds)) (sym quiet)

-- the taking of a producer's chunks, as an act
pub collect_done : {T W S : Type 0} (means : Meaning T W S) → AreLaws means → (producer taken : ℕ) (old new : Host T W S) → IsServed means old.table old.helper.service
    → IsServiceStep means old.table old.helper.service.seat new.table new.helper.service.seat
    → KeepsRest (means.setup old.table) old.helper.service new.helper.service
    → AreOpen (means.setup old.table) producer (means.service_view old.table old.helper.service.seat)
    → Takes (means.setup old.table) (places_of producer 0 (means.setup old.table).writers) taken
    (means.service_view old.table old.helper.service.seat) (means.service_view new.table new.helper.service.seat)
    → ((was : World) → means.told old.table ≡ Some was
    → LeavesNone (means.setup old.table) producer was (means.told new.table) (means.service_view new.table new.helper.service.seat))
    → (intake : Intake) → HasDone means (Collect producer ∷ []) [] old intake new intake
collect_done means laws producer taken old new served step keeps opened takes told intake = record {
  setup_is = step.setup_stays;
  first = first_stays (means.setup old.table) old.helper.service new.helper.service keeps.fields;
  plays = λ was told_was.
      let left = told was told_was in
      let view_was = laws.told_service_view old.table old.helper.service.seat was told_was served.serves in
      let does : Collects (means.setup old.table) producer was left.new = record {
        opened = subst (λ (v : ServiceView). AreOpen (means.setup old.table) producer v) view_was opened;
        writers = left.stands.writers;
        taken = taken;
        takes = subst (λ (v : ServiceView). Takes (means.setup old.table) (places_of producer 0 (means.setup old.table).writers) taken v left.new.service) view_was
            (subst (λ (v : ServiceView). Takes (means.setup old.table) (places_of producer 0 (means.setup old.table).writers) taken
            (means.service_view old.table old.helper.service.seat) v) (sym left.stands.service) takes);
        none_left = left.none_left;
      } in (
        left.new,
        left.told_is,
        plays_one (means.setup old.table) (first_of (means.setup old.table) old.helper.service) (Collect producer) was left.new does (laws.told_owned new.table left.new left.told_is),
      );
  writes = λ start is. quiet_writes start intake (first_of (means.setup old.table) old.helper.service)
      (means.service_view old.table old.helper.service.seat) (means.service_view new.table new.helper.service.seat)
      (adds_quiet (first_of (means.setup old.table) old.helper.service)
      (means.service_view old.table old.helper.service.seat) (means.service_view new.table new.helper.service.seat) served.agrees.known
      (collect_adds (means.setup old.table) old.helper.service producer taken (means.service_view old.table old.helper.service.seat) (means.service_view new.table new.helper.service.seat)
      served.agrees takes)) is;
}
