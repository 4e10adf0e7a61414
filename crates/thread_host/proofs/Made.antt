-- A host as it is made: its service, and its writers.
use Rattle.std.proofs.Common.{◌≡◌, ◌∙◌, ℕ, suc, ◌<◌, not, Bool, false, List, [], ◌∷◌, ◌++◌, length, length-append, map, Some, slice_get, refl, sym, ap, subst, arith}
use Rattle.std.specs.Prelude.{if◌then◌else◌}
use Rattle.std.proofs.lemmas.Option.{slice_get_within}
use Rattle.trace_base.specs.declared.policy.WriterSpec.{WriterSpec}
use Rattle.trace_model.specs.Calls.{Call, Flushed}
use Rattle.scenario_text.specs.declared.scenario.Scenario.{Scenario}
use Rattle.scenario_text.specs.Accepted.{calls_asked}
use Rattle.scenario_text.specs.Scenario.{IsScenario, Parts, parts_of}
use Rattle.scenario_text.proofs.ShortLemmas.{scenario_is_short}
use Rattle.chunk_plain.specs.Plain.{first_world}
use Rattle.chunk_plain.specs.Setup.{sequence_of}
use Rattle.chunk_plain.specs.Views.{At, ServiceView, WriterView, asked_in, newcomer}
use Rattle.run_model.specs.Scraped.{has_part}
use Rattle.chunk_words.specs.declared.host.HostTable.{HostTable}
use Rattle.chunk_words.specs.declared.seats.WriterSeat.{WriterSeat}
use Rattle.chunk_words.specs.Sits.{setup_in}
use Rattle.world_model.specs.FirstBuffers.{payload_at, first_buffers}
use Rattle.trace_buffer.specs.declared.answers.BufferSpec.{BufferSpec}
use Rattle.session_core.specs.declared.answers.SessionState.TheVariants.{Started}
use Rattle.session_core.specs.Sessions.{SessionValue, configured, moved, new_session}
use Rattle.service_core.specs.Agreement.{is_closed, spec_at, spec_value}
use Rattle.replay_host.specs.Asking.{IsReadyFor}
use Rattle.replay_host.specs.Making.{buffer_asked}
use Rattle.replay_host.specs.Lines.{MOST_REQUESTS}
use Rattle.replay_model.specs.Flushes.{requests_in}
use Rattle.replay_host.proofs.MadeLemmas.{all_ready, requests_few}
use Rattle.replay_host.proofs.MakingLemmas.{asked_values}
use Rattle.replay_host.proofs.SetUpLemmas.{asks_well}
use Rattle.thread_service.specs.declared.service.Service.{Service}
use Rattle.thread_service.specs.Serving as serving
use Rattle.thread_service.specs.Serving.{Serves}
use Rattle.thread_writer.specs.declared.writer.TraceWriter.{TraceWriter}
use Rattle.thread_host.specs.Hosts.{AreReady, ClosesNone, IsServed}
use Rattle.thread_host.specs.Making.{IsNewWriter}
use Rattle.thread_host.specs.Tally.{AreHeardInOrder, KeepsAnswers}
use Rattle.thread_host.proofs.KeptAnswers.{answers_none}
use Rattle.thread_host.proofs.Ordered.{none_ordered}

-- ---- writers

-- what is to come for a writer of a scenario without a close is what its lines ask, and a flush
module _ (scenario : Scenario) (is : IsScenario scenario) (none : ClosesNone scenario.lines) where
  newcomer_ready : (size place : ℕ) → place < length scenario.writers.items
      → IsReadyFor size newcomer (calls_asked (suc place) scenario.lines ++ Flushed ∷ [])
  newcomer_ready size place below =
      let calls : List Call = calls_asked (suc place) scenario.lines in
      subst (λ (closed : Bool). IsReadyFor size newcomer (calls ++ (if not closed then Flushed ∷ [] else [])))
      (none (spec_at scenario.writers.items place).producer)
      (all_ready size (parts_of scenario) place (asks_well scenario is place below) (scenario_is_short scenario is))

  -- new writers are ready for the lines
  pub are_ready : (table : HostTable) (writers : List TraceWriter) → (setup_in table).writers ≡ scenario.writers.items
      → length writers ≡ length scenario.writers.items
      → ((place : ℕ) (writer : TraceWriter) → slice_get writers place ≡ Some writer → IsNewWriter table place writer)
      → AreReady scenario.lines table writers
  are_ready table writers laid many new = record {
    many = many ∙ sym (ap (λ (specs : List WriterSpec). length specs) laid);
    each = λ place writer there.
        let inside = slice_get_within writers place writer there in
        let one = new place writer there in
        record {
          writes = one.writes;
          place_is = one.place_is;
          fresh = one.fresh;
          going = one.going;
          ready = subst (λ (view : WriterView). IsReadyFor (payload_at (setup_in table) place) view
              (calls_asked (suc place) scenario.lines ++ Flushed ∷ []))
              (sym one.fresh)
              (newcomer_ready (payload_at (setup_in table) place) place (omega (arith, inside, many)));
        };
  }

-- its requests have numbers of 32 bits
pub requests_fit : (scenario : Scenario) → IsScenario scenario → requests_in scenario.lines < MOST_REQUESTS
requests_fit scenario is = let requests = requests_few scenario.lines in let lines = (scenario_is_short scenario is).few in omega (arith, requests, lines)

-- ---- the service

-- a service of the table with which nothing was noted, whose sequences are open
pub is_served : (scenario : Parts) (table : HostTable) (service : Service) (count : ℕ) → Serves table service
    → (setup_in table).writers ≡ scenario.writers
    → ((place : ℕ) → place < length scenario.writers → is_closed (setup_in table) (serving.core_of service) place ≡ false)
    → (serving.core_of service).specs.items ≡ map buffer_asked scenario.buffers
    → serving.view_in service ≡ (first_world (setup_in table)).service
    → (serving.core_of service).session ≡ moved Started (configured count new_session) → IsServed scenario table service
is_served scenario table service count serves laid opened buffers view session = record {
  serves = serves;
  opened = λ place below. opened place (subst (λ (specs : List WriterSpec). place < length specs) laid below);
  began = ap (λ (specs : List BufferSpec). first_buffers (setup_in table) 1 (map spec_value specs)) buffers
      ∙ ap (first_buffers (setup_in table) 1) (asked_values scenario.buffers);
  own = ap (λ (v : ServiceView). v.commits) view;
  scraped = λ place below other. ap (λ (v : ServiceView). has_part (sequence_of place) v.events) view;
  started = ap (λ (s : SessionValue). s.state) session;
  few = let none = ap (λ (v : ServiceView). asked_in v.letters) view in omega (arith, none);
  in_order = subst (λ (v : ServiceView). AreHeardInOrder v.letters) (sym view) none_ordered;
  kept = subst (λ (v : ServiceView). KeepsAnswers (length (setup_in table).writers) v.letters (serving.core_of service).session) (sym view)
      (answers_none (length (setup_in table).writers) count (serving.core_of service).session table.few_writers session);
}

-- ---- seats

-- the next seat of a list, of which so many came
pub seat_at : (before rest all next : List WriterSeat) (seat : WriterSeat) → before ++ rest ≡ all → rest ≡ seat ∷ next → At all (length before) seat
seat_at before rest all next seat joined is =
    subst (λ (seats : List WriterSeat). At seats (length before) seat) (ap (λ (seats : List WriterSeat). before ++ seats) (sym is) ∙ joined)
    (at_seam before)
  where
    at_seam : (seats : List WriterSeat) → At (seats ++ seat ∷ next) (length seats) seat
    at_seam [] = refl
    at_seam (one ∷ seats) = at_seam seats

pub seat_below : (before rest all next : List WriterSeat) (seat : WriterSeat) → before ++ rest ≡ all → rest ≡ seat ∷ next → length before < length all
seat_below before rest all next seat joined is =
    let whole = ap (λ (seats : List WriterSeat). length seats) joined in
    let parts = length-append before rest in
    let some = ap (λ (seats : List WriterSeat). length seats) is in omega (arith, whole, parts, some)
