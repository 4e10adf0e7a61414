-- A session stays one where its service took, noted or closed no more than is said, and where writers go and come.
use Rattle.std.proofs.Common.{◌≡◌, ◌∙◌, ℕ, ◌≤◌, Bool, true, List, map}
use Rattle.std.proofs.Common.{refl, sym, ap, subst, arith}
use Rattle.std.specs.Prelude.{slice_index_or}
use Rattle.trace_buffer.specs.declared.answers.BufferSpec.{BufferSpec}
use Rattle.trace_model.specs.Delivery.{trace_of}
use Rattle.trace_model.specs.History.{records_after}
use Rattle.chunk_plain.specs.Histories.{history_of}
use Rattle.chunk_plain.specs.Setup.{Setup}
use Rattle.chunk_plain.specs.Views.{ServiceView, Taken, none_taken, taken_of}
use Rattle.chunk_words.specs.declared.host.HostTable.{HostTable}
use Rattle.chunk_words.specs.declared.seats.ReadPass.{ReadPass}
use Rattle.chunk_words.specs.declared.seats.WriterSeat.{WriterSeat}
use Rattle.chunk_words.specs.Sits.{Passes, setup_in, known_by_pass}
use Rattle.service_core.specs.declared.service.ServiceCore.{ServiceCore}
use Rattle.service_core.specs.Agreement.{KeepsRest, spec_value}
use Rattle.world_model.specs.FirstBuffers.{first_buffers}
use Rattle.thread_service.specs.declared.service.Service.{Service}
use Rattle.thread_service.specs.Reading.{IsKnownWhole, records_of}
use Rattle.thread_service.specs.Serving.{Serves, core_of, view_in}
use Rattle.tracesmb_c.specs.declared.session.Counted.{Counted}
use Rattle.tracesmb_c.specs.declared.session.OwnedSession.{OwnedSession}
use Rattle.tracesmb_c.specs.declared.waiting.Waiting.{Waiting}
use Rattle.tracesmb_c.specs.Ending.{none_counted}
use Rattle.tracesmb_c.specs.Sessions.{session_table, known_in, IsEnded, IsSession}
use Rattle.tracesmb_c.specs.Sessions.{KeepsGiven, records_in}
use Rattle.tracesmb_c.specs.Waits.{left_in}

-- the session with this service and pass, of which so much waits
abbrev pub served_by : OwnedSession → Service → ReadPass → Waiting → Bool → OwnedSession
served_by session service pass waiting torn = record {
  table = session.table;
  service = service;
  pass = pass;
  homes = session.homes;
  seats = session.seats;
  counts = session.counts;
  producers = session.producers;
  stopped = session.stopped;
  torn = torn;
  waiting = waiting;
}

-- a seat's writer has still ended where no fewer chunks were taken
pub ended_still : (table : HostTable) (old new : ServiceView) (place : ℕ) (seat : WriterSeat) (count : Counted)
    → (taken_of old place).count ≤ (taken_of new place).count → IsEnded table old place seat count → IsEnded table new place seat count
ended_still table old new place seat count rises ended = record {
  sits = ended.sits;
  place_is = ended.place_is;
  between = ended.between;
  none_held = ended.none_held;
  taken = let taken = ended.taken in omega (arith, taken, rises);
  counts = ended.counts;
}

-- a session goes on with a service that kept what is closed, heard of no commit, and has taken no fewer chunks
pub serves_on : (session : OwnedSession) (service : Service) (pass : ReadPass) (waiting : Waiting) (torn : Bool) → IsSession session
    → Serves (session_table session) service → Passes (session_table session) pass → IsKnownWhole (known_by_pass pass)
    → KeepsRest (setup_in (session_table session)) (core_of session.service) (core_of service)
    → (view_in service).commits ≡ (known_in session).commits
    → (session.stopped ≡ true → (place : ℕ) → (taken_of (known_in session) place).count ≤ (taken_of (view_in service) place).count)
    → IsSession (served_by session service pass waiting torn)
serves_on session service pass waiting torn is serves passes known keeps commits rises = record {
  serves = serves;
  pass = passes;
  known = known;
  own = commits ∙ is.own;
  producers = is.producers;
  goes_on = λ open_still.
      let goes = is.goes_on open_still in
      record {
        many = goes.many;
        homes = goes.homes;
        opened = λ place inside. keeps.closed place inside ∙ goes.opened place inside;
        room = goes.room;
      };
  ended = λ stopped.
      let ended = is.ended stopped in
      record {
        many = ended.many;
        counts = ended.counts;
        each = λ place seat there.
            ended_still (session_table session) (known_in session) (view_in service) place seat
            (slice_index_or session.counts.items place none_counted) (rises stopped place) (ended.each place seat there);
      };
}

-- as many were taken where the same was
pub same_taken : (old new : ServiceView) → new.taken ≡ old.taken → (place : ℕ) → (taken_of old place).count ≤ (taken_of new place).count
same_taken old new same place =
    let count : (taken_of new place).count ≡ (taken_of old place).count =
    ap (λ (ts : List Taken). (slice_index_or ts place none_taken).count) same in
    omega (arith, count)

-- ---- what was given

-- the records that a pass knows don't hang on what else the service did
pub same_records : {S : Type 0} (setup : Setup) (core done : ServiceCore S) (view : ServiceView) → done.specs.items ≡ core.specs.items
    → records_of setup done view ≡ records_of setup core view
same_records setup core done view specs =
    ap (λ (made : List BufferSpec). records_after (first_buffers setup 1 (map spec_value made)) (history_of view)) specs

pub given_still : (old new : OwnedSession) → records_in new ≡ records_in old → new.torn ≡ old.torn → new.waiting ≡ old.waiting
    → KeepsGiven old new
given_still old new records torn waiting bytes given = record {
  rest = given.rest;
  trace = ap trace_of records ∙ given.trace;
  waits = λ whole. given.waits (sym torn ∙ whole) ∙ ap left_in (sym waiting);
}

-- the same, by what is said of the table that was lent
pub serves_by : (session : OwnedSession) (table : HostTable) → table ≡ session_table session → (service : Service) (pass : ReadPass)
    (waiting : Waiting) (torn : Bool)
    → IsSession session → Serves table service → Passes table pass → IsKnownWhole (known_by_pass pass)
    → KeepsRest (setup_in table) (core_of session.service) (core_of service)
    → (view_in service).commits ≡ (known_in session).commits
    → (session.stopped ≡ true → (place : ℕ) → (taken_of (known_in session) place).count ≤ (taken_of (view_in service) place).count)
    → IsSession (served_by session service pass waiting torn)
serves_by session table same service pass waiting torn is serves passes known keeps commits rises =
    serves_on session service pass waiting torn is (subst (λ (t : HostTable). Serves t service) same serves)
    (subst (λ (t : HostTable). Passes t pass) same passes)
    known (subst (λ (t : HostTable). KeepsRest (setup_in t) (core_of session.service) (core_of service)) same keeps) commits rises

-- nothing is given where only its service went on
pub serves_given : (session : OwnedSession) (table : HostTable) (service : Service) → KeepsRest (setup_in table) (core_of session.service)
    (core_of service)
    → KeepsGiven session (served_by session service session.pass session.waiting session.torn)
serves_given session table service keeps =
    given_still session (served_by session service session.pass session.waiting session.torn)
    (same_records (setup_in (session_table session)) (core_of session.service) (core_of service)
    (known_by_pass session.pass) keeps.fields.specs) refl refl

-- a session where something else waits
pub waits_on : (session : OwnedSession) (waiting : Waiting) → IsSession session → IsSession
    (served_by session session.service session.pass waiting session.torn)
waits_on session waiting is = record {
  serves = is.serves;
  pass = is.pass;
  known = is.known;
  own = is.own;
  producers = is.producers;
  goes_on = λ open_still.
      let goes = is.goes_on open_still in
      record {
        many = goes.many;
        homes = goes.homes;
        opened = goes.opened;
        room = goes.room;
      };
  ended = λ stopped. let ended = is.ended stopped in record { many = ended.many; counts = ended.counts; each = ended.each };
}
