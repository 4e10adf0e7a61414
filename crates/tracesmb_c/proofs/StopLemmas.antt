-- A session whose writers have ended, once all that they told of is taken and their sequences are closed.
use Rattle.std.proofs.Common.{◌≡◌, ◌∙◌, ℕ, ◌<◌, ◌≤◌, true, false, Option, Some, List, length, sym, ap, subst, arith}
use Rattle.std.specs.Prelude.{slice_get, slice_index_or}
use Rattle.std.proofs.lemmas.Option.{slice_get_within}
use Rattle.trace_base.proofs.Lists.{some_there}
use Rattle.chunk_plain.specs.Setup.{Setup}
use Rattle.chunk_plain.specs.Views.{At, ServiceView, taken_of}
use Rattle.chunk_words.specs.declared.host.HostTable.{HostTable}
use Rattle.chunk_words.specs.declared.seats.ReadPass.{ReadPass}
use Rattle.chunk_words.specs.declared.seats.ServiceSeat.{ServiceSeat}
use Rattle.chunk_words.specs.declared.seats.WriterSeat.{WriterSeat}
use Rattle.chunk_words.specs.Knows.{Tale}
use Rattle.chunk_words.specs.Sits.{Passes, setup_in, known_by_pass}
use Rattle.service_core.specs.declared.service.ServiceCore.{ServiceCore}
use Rattle.service_core.specs.Agreement.{is_closed, KeepsRest}
use Rattle.thread_service.specs.declared.service.Service.{Service}
use Rattle.thread_service.specs.Reading.{IsKnownWhole, records_of}
use Rattle.thread_service.specs.Serving.{Serves, IsOnlySeat, KnowsSame, core_of, view_in, desk_in}
use Rattle.thread_service.specs.Settling.{IsWholeTale}
use Rattle.thread_writer.specs.declared.writer.TraceWriter.{TraceWriter}
use Rattle.thread_writer.specs.Writing as writing
use Rattle.tracesmb_c.specs.declared.session.Counted.{Counted}
use Rattle.tracesmb_c.specs.declared.session.OwnedSession.{OwnedSession}
use Rattle.tracesmb_c.specs.Ending.{AreLeft, IsTold, none_counted}
use Rattle.tracesmb_c.specs.Sessions.{session_table, IsSession, IsEnded, HasEnded, HasStopped, KeepsGiven}
use Rattle.tracesmb_c.proofs.EndLemmas.{settled_seat}
use Rattle.tracesmb_c.proofs.SessionLemmas.{given_still, same_records}

-- The service that heard of the ended writers, took all that they told of, and then closed all sequences.
pub record Stops (table : HostTable) (homes : List (Option TraceWriter)) (seats : List WriterSeat) (counts : List Counted)
    (first heard settled last : Service) : Type 0 where
  pub serves : Serves table last
  pub same : KnowsSame first heard
  pub left : AreLeft table homes seats counts
  pub told : (place : ℕ) (seat : WriterSeat) → slice_get seats place ≡ Some seat → IsTold (length (view_in heard).looks)
      (desk_in heard) place seat
  pub keeps : KeepsRest (setup_in table) (core_of heard) (core_of settled)
  pub own : (view_in settled).commits ≡ (view_in heard).commits
  pub taken : (i : ℕ) (tale : Tale) → At (desk_in heard).told i tale → IsWholeTale (setup_in table) (view_in heard) tale
      → length tale.begun ≤ (taken_of (view_in settled) tale.place).count
  pub specs : (core_of last).specs.items ≡ (core_of settled).specs.items
  pub commits : (view_in last).commits ≡ (view_in settled).commits
  pub rises : (place : ℕ) → (taken_of (view_in settled) place).count ≤ (taken_of (view_in last) place).count
  pub closed : (place : ℕ) → place < length (setup_in table).writers → is_closed (setup_in table) (core_of last) place ≡ true

-- what it keeps of its sequences while it hears
pub only_closed : (setup : Setup) (old new : Service) → IsOnlySeat (core_of old) (core_of new) → (place : ℕ) → is_closed setup
    (core_of new) place ≡ is_closed setup (core_of old) place
only_closed setup old new only place = ap (λ (core : ServiceCore ServiceSeat). is_closed setup core place) only

module _ (old new : OwnedSession) (heard settled : Service) (is : IsSession old) (goes : old.stopped ≡ false)
    (same : session_table new ≡ session_table old)
    (stopped : new.stopped ≡ true) (pass : new.pass ≡ old.pass) (producers : new.producers ≡ old.producers)
    (stops : Stops (session_table old) old.homes.items new.seats.items new.counts.items old.service heard settled new.service) where
  wide : length new.seats.items ≡ length (setup_in (session_table old)).writers
  wide = stops.left.many ∙ (is.goes_on goes).many

  ended : HasEnded new
  ended = record {
    many = wide ∙ ap (λ (t : HostTable). length (setup_in t).writers) (sym same);
    counts = stops.left.counts_many ∙ (is.goes_on goes).many ∙ ap (λ (t : HostTable). length (setup_in t).writers) (sym same);
    each = λ place seat there.
        let inside = slice_get_within new.seats.items place seat there in
        let long = wide in
        subst (λ (t : HostTable). IsEnded t (view_in new.service) place seat (slice_index_or new.counts.items place none_counted))
        (sym same)
        (settled_seat (session_table old) old.homes.items (view_in heard) (view_in settled) (view_in new.service) (desk_in heard) place seat
        (slice_index_or new.counts.items place none_counted) (omega (arith, inside, long)) (stops.left.each place seat there)
        (stops.told place seat there) stops.taken stops.rises);
  }

  pub stopped_session : IsSession new
  stopped_session = record {
    serves = subst (λ (t : HostTable). Serves t new.service) (sym same) stops.serves;
    pass = subst (λ (t : HostTable). Passes t new.pass) (sym same)
        (subst (λ (p : ReadPass). Passes (session_table old) p) (sym pass) is.pass);
    known = subst (λ (p : ReadPass). IsKnownWhole (known_by_pass p)) (sym pass) is.known;
    own = stops.commits ∙ stops.own ∙ ap (λ (v : ServiceView). v.commits) stops.same.view ∙ is.own;
    producers = producers ∙ is.producers ∙ ap (λ (t : HostTable). length (setup_in t).ranges) (sym same);
    goes_on = λ open_still. let wrong : true ≡ false = sym stopped ∙ open_still in absurd (cc);
    ended = λ _. ended;
  }

  pub has_stopped : HasStopped old new
  has_stopped = record {
    stopped = stopped;
    table = same;
    closed = stops.closed;
    seats = λ place writer there.
        let inside = slice_get_within old.homes.items place _ there in
        let many = stops.left.many in
        let seat = some_there new.seats.items place (omega (arith, inside, many)) in
        let left = stops.left.each place seat.0 seat.1 in
        let home : slice_get old.homes.items place ≡ Some (Some left.writer) = left.home in
        let one : left.writer ≡ writer = cc in
        (seat.0, seat.1, left.knows ∙ ap writing.view_in one);
  }

  pub stopped_given : new.torn ≡ old.torn → new.waiting ≡ old.waiting → KeepsGiven old new
  stopped_given torn waiting =
      let specs : (core_of new.service).specs.items ≡ (core_of old.service).specs.items =
      stops.specs ∙ stops.keeps.fields.specs ∙ ap (λ (core : ServiceCore ServiceSeat). core.specs.items) stops.same.only in
      given_still old new
      (ap (λ (t : HostTable). records_of (setup_in t) (core_of new.service) (known_by_pass new.pass)) same
      ∙ ap (λ (p : ReadPass). records_of (setup_in (session_table old)) (core_of new.service) (known_by_pass p)) pass
      ∙ same_records (setup_in (session_table old)) (core_of old.service) (core_of new.service) (known_by_pass old.pass) specs)
      torn waiting
