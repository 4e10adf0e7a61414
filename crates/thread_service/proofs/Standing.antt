-- A seat that attends at a lent table attends at the one that was lent, where it is the same.
use Rattle.std.proofs.Common.{◌≡◌, ◌∙◌, ℕ, ◌+◌, List, Option, Some, None, Ok, refl, sym, ap, subst}
use Rattle.atomic_table.specs.Seated.{TableId}
use Rattle.chunk_plain.specs.Histories.{history_of}
use Rattle.chunk_plain.specs.Setup.{Setup, sequence_of}
use Rattle.chunk_plain.specs.Views.{Letter, ServiceView, asked_in}
use Rattle.trace_model.specs.History as model
use Rattle.trace_model.specs.History.{buffers_after}
use Rattle.chunk_words.specs.declared.host.HostTable.{HostTable}
use Rattle.chunk_words.specs.declared.seats.ReadPass.{ReadPass}
use Rattle.chunk_words.specs.declared.seats.ServiceSeat.{ServiceSeat}
use Rattle.chunk_words.specs.Knows.{Desk}
use Rattle.chunk_words.specs.Named.{identity_of}
use Rattle.chunk_words.specs.Seats.{Waits}
use Rattle.chunk_words.specs.Sits.{Attends, Passes, Remembers, setup_in, known_by_service}
use Rattle.session_core.specs.declared.answers.SessionFault.{SessionFault}
use Rattle.session_core.specs.States.{answered_as}
use Rattle.session_core.specs.Sessions.{SessionValue, left_as, requested}
use Rattle.service_core.specs.declared.service.ServiceCore.{ServiceCore}
use Rattle.service_core.specs.Agreement.{ServiceAgrees, AreKnownNotes, KeepsTaking, first_of}
use Rattle.service_core.specs.Order.{beginning}
use Rattle.service_core.proofs.AgreeLemmas.{agrees_kept}
use Rattle.service_core.proofs.HistoryLemmas.{Grows, all_known_grow, history_stays}
use Rattle.service_core.proofs.OrderLemmas.{lead_grows}
use Rattle.thread_service.specs.declared.service.Service.{Service}
use Rattle.thread_service.specs.Serving.{core_of, view_in, Serves, ServesStill, HasMemory}

pub attends_back : (table behind : HostTable) (seat : ServiceSeat) → identity_of behind ≡ identity_of table → setup_in behind ≡ setup_in table → Attends behind seat → Attends table seat
attends_back table behind seat same setup attends = record {
  joined = attends.joined ∙ same;
  waits = subst (λ (s : Setup). Waits s seat.seat.me) setup attends.waits;
}

pub passes_back : (table behind : HostTable) (pass : ReadPass) → identity_of behind ≡ identity_of table → Passes behind pass → Passes table pass
passes_back table behind pass same passes = record { joined = passes.joined ∙ same; idle = passes.idle }

-- it made as many requests as its seat knows of
abbrev pub Counts : ServiceCore ServiceSeat → Type 0
Counts core = core.session.requests ≡ asked_in (known_by_service core.seat).letters

-- and still does, where neither changed
pub counts_on : (old done : ServiceCore ServiceSeat) → done.session.requests ≡ old.session.requests
    → (known_by_service done.seat).letters ≡ (known_by_service old.seat).letters → Counts old → Counts done
counts_on old done same letters counts = same ∙ counts ∙ sym (ap asked_in letters)

-- before any call it is as it is, and calls one after another leave what each leaves
pub stays_begin : {table : HostTable} {service : Service} → Serves table service → ServesStill table service service
stays_begin serves = record { serves = serves; desk = refl; letters = refl }

pub stays_on : {table : HostTable} {old mid new : Service} → ServesStill table old mid → ServesStill table mid new → ServesStill table old new
stays_on one two = record { serves = two.serves; desk = two.desk ∙ one.desk; letters = two.letters ∙ one.letters }

-- behind a step of its seat at the lent table it is still one of the table
pub still_serves : (id : TableId) (desk : Desk) (table behind : HostTable) (old : Service) (core : ServiceCore ServiceSeat) → HasMemory id desk table old
    → Remembers behind desk core.seat × (identity_of behind ≡ id) → setup_in behind ≡ setup_in table
    → ServiceAgrees (setup_in table) (known_by_service core.seat) core → core.session ≡ (core_of old).session
    → (known_by_service core.seat).letters ≡ (view_in old).letters → Serves table old → ServesStill table old (record { core = core })
still_serves id desk table behind old core memory stays setup agrees session letters serves = record {
  serves = record {
    attends = attends_back table behind core.seat (stays.1 ∙ sym memory.table_is) setup stays.0.attends;
    agrees = agrees;
    asked = counts_on (core_of old) core (ap (λ (s : SessionValue). s.requests) session) letters serves.asked;
  };
  desk = stays.0.desk_is ∙ sym memory.desk_is;
  letters = letters;
}

-- what a service agrees with is its view, whatever else its seat knows
pub agrees_seat : (setup : Setup) (old new : ServiceView) (core : ServiceCore ServiceSeat) (seat : ServiceSeat) → new ≡ old → ServiceAgrees setup old core
    → ServiceAgrees setup new (record core { seat = seat })
agrees_seat setup old new core seat same agrees = subst (λ (v : ServiceView). ServiceAgrees setup v (record core { seat = seat })) (sym same) (record {
  layout = agrees.layout;
  writers = agrees.writers;
  routed = agrees.routed;
  many = agrees.many;
  taken = agrees.taken;
  buffers = agrees.buffers;
  session = agrees.session;
  none_read = agrees.none_read;
  arrived = agrees.arrived;
  known = agrees.known;
  order = agrees.order;
})

module _ (view : ServiceView) (letters : List Letter) where
  -- the view with other requests and answers
  abbrev pub other : ServiceView
  other = record view { letters = letters }

  grows_letters : Grows view other
  grows_letters = record {
    contents = λ q position content is. is;
    looks = λ place position count found is. is;
    commits = λ place committed is. is;
  }

  -- it knows its notes
  pub known_letters : AreKnownNotes view view.events → AreKnownNotes other view.events
  known_letters known = all_known_grow view other view.events grows_letters known

  -- and has their history
  pub history_letters : AreKnownNotes view view.events → history_of other ≡ history_of view
  history_letters known = history_stays view other view.events grows_letters known

  -- a service agrees with it too
  pub agrees_letters : (setup : Setup) (core : ServiceCore ServiceSeat) (seat : ServiceSeat) → ServiceAgrees setup view core → ServiceAgrees setup other (record core { seat = seat })
  agrees_letters setup core seat agrees = record {
    layout = agrees.layout;
    writers = agrees.writers;
    routed = agrees.routed;
    many = agrees.many;
    taken = agrees.taken;
    buffers = agrees.buffers ∙ ap (λ (events : List model.Event). buffers_after (first_of setup core) events) (sym (history_letters agrees.known));
    session = agrees.session;
    none_read = agrees.none_read;
    arrived = agrees.arrived;
    known = known_letters agrees.known;
    order = λ place inside none. lead_grows view other (sequence_of place) beginning _ view.events grows_letters agrees.known (agrees.order place inside none);
  }

-- a service as it is made is one of a table with its set-up
pub made_serves : (table : HostTable) (setup : Setup) (seat : ServiceSeat) (core : ServiceCore ServiceSeat) → core.seat ≡ seat → Attends table seat → setup_in table ≡ setup
    → ServiceAgrees setup (known_by_service seat) core → core.session.requests ≡ asked_in (known_by_service seat).letters → Serves table (record { core = core })
made_serves table setup seat core is attends same agrees counts = record {
  attends = subst (λ (s : ServiceSeat). Attends table s) (sym is) attends;
  agrees = subst (λ (s : Setup). ServiceAgrees s (known_by_service core.seat) core) (sym same)
      (subst (λ (s : ServiceSeat). ServiceAgrees setup (known_by_service s) core) (sym is) agrees);
  asked = subst (λ (s : ServiceSeat). core.session.requests ≡ asked_in (known_by_service s).letters) (sym is) counts;
}

-- the session's own calls leave it one of its table
pub kept_serves : (table : HostTable) (old done : ServiceCore ServiceSeat) → KeepsTaking old done → done.session.requests ≡ old.session.requests
    → Serves table (record { core = old }) → Serves table (record { core = done })
kept_serves table old done keeps same serves = record {
  attends = subst (λ (s : ServiceSeat). Attends table s) (sym keeps.seat) serves.attends;
  agrees = subst (λ (s : ServiceSeat). ServiceAgrees (setup_in table) (known_by_service s) done) (sym keeps.seat)
      (agrees_kept (setup_in table) (known_by_service old.seat) old done keeps serves.agrees);
  asked = counts_on old done same (ap (λ (s : ServiceSeat). (known_by_service s).letters) keeps.seat) serves.asked;
}

-- a refused call leaves the number of requests, as one does that is no request
pub left_requests : (fault : Option SessionFault) (old new : SessionValue) → new.requests ≡ old.requests → (left_as fault old new).requests ≡ old.requests
left_requests None old new same = same
left_requests (Some fault) old new same = refl

-- and one that was answered made one more
pub answered_requests : (fault : Option SessionFault) (flush next : ℕ) (old new : SessionValue) → Ok flush ≡ answered_as fault next
    → new ≡ left_as fault old (requested old) → new.requests ≡ old.requests + 1
answered_requests None flush next old new answer after = ap (λ (s : SessionValue). s.requests) after
answered_requests (Some fault) flush next old new answer after = absurd (cc)
