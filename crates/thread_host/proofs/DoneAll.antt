-- Once all is taken apart, what the seats knew that were settled is a world in which all is done.
use Rattle.std.proofs.Common.{◌≡◌, ◌∙◌, ℕ, ◌<◌, ◌≤◌, Bool, true, false, List, [], length, refl, sym, subst, arith}
use Rattle.std.proofs.lemmas.List.{length-map}
use Rattle.chunk_plain.specs.Setup.{Setup, producer_of, sequence_of}
use Rattle.std.proofs.Math.Logic.{∥∥₁_map}
use Rattle.chunk_plain.specs.Views.{At, Content, Completed, ServiceView, WriterView, taken_of}
use Rattle.chunk_plain.specs.World.{World, writer}
use Rattle.chunk_plain.specs.Letters.{AreLetters}
use Rattle.chunk_plain.specs.Owned.{IsOwned}
use Rattle.chunk_schedules.specs.Schedules.{IsLed}
use Rattle.chunk_words.specs.Closed.{HasAllSeats, IsAccount, AllTaken, views_of}
use Rattle.chunk_words.specs.Sits.{setup_in, known_by}
use Rattle.scenario_text.specs.Scenario.{Parts}
use Rattle.service_core.specs.Agreement.{KeepsRest, is_closed}
use Rattle.service_core.specs.Order.{LeadTo, beginning}
use Rattle.replay_model.proofs.RawLemmas.{none_committed_yet}
use Rattle.replay_model.proofs.ShutLemmas.{open_is}
use Rattle.replay_model.specs.Does.{is_shut}
use Rattle.run_model.specs.Settled.{HasDoneLines, HasDoneAll, last_flushes}
use Rattle.thread_service.specs.declared.service.Service.{Service}
use Rattle.thread_service.specs.Serving.{core_of, view_in, desk_in, Serves}
use Rattle.thread_host.specs.Finishing.{AreClosedTo}
use Rattle.thread_host.specs.Hosts.{IsSettled}
use Rattle.thread_host.specs.declared.settled.Settled.{Settled}
use Rattle.thread_host.proofs.Parts.{AddsNoPart, none_scraped}
use Rattle.thread_host.proofs.Seating.{HasSeatAt, get_of, seat_at}

-- letters are of writers and service alone
pub same_letters : (one other : World) → one.writers ≡ other.writers → one.service ≡ other.service → AreLetters one → AreLetters other
same_letters one other writers service are =
    let first : AreLetters (record { chunks = other.chunks; writers = one.writers; service = one.service })
    = record { known = are.known; answers = are.answers; heard = are.heard } in
    let second : AreLetters (record { chunks = other.chunks; writers = other.writers; service = one.service }) =
    subst (λ (ws : List WriterView). AreLetters (record { chunks = other.chunks; writers = ws; service = one.service })) writers first in
    subst (λ (v : ServiceView). AreLetters (record { chunks = other.chunks; writers = other.writers; service = v })) service second

-- no sequence was closed when all was settled
pub opened_here : (scenario : Parts) (settled : Settled) → IsSettled scenario settled → (place : ℕ) → place < length (setup_in settled.table).writers
    → is_shut (sequence_of place) (view_in settled.service).events ≡ false
opened_here scenario settled is place inside =
    let setup = setup_in settled.table in
    open_is setup (view_in settled.service) (core_of settled.service) (producer_of setup place) is.served.serves.agrees
    (λ other below same. is.served.opened other below) place inside refl

-- and all are where all producers were
pub closed_here : (scenario : Parts) (settled : Settled) (closed final : Service) → IsSettled scenario settled
    → AreClosedTo (setup_in settled.table) settled.producers closed → KeepsRest (setup_in settled.table) (core_of closed) (core_of final)
    → (place : ℕ) → place < length (setup_in settled.table).writers → is_closed (setup_in settled.table) (core_of final) place ≡ true
closed_here scenario settled closed final is all_closed keeps place inside =
    let most = (is.served.serves.agrees.routed.producers place inside).most in
    let many = is.producers in
    keeps.closed place inside ∙ all_closed place inside (omega (arith, most, many))

module _ (scenario : Parts) (settled : Settled) (is : IsSettled scenario settled) (final : Service) (serves : Serves settled.table final)
    (rises : (place : ℕ) → (taken_of (view_in settled.service) place).count ≤ (taken_of (view_in final) place).count)
    (own : (view_in final).commits ≡ []) (none : AddsNoPart (view_in settled.service) (view_in final)) where
  abbrev setup : Setup
  setup = setup_in settled.table

  abbrev view : ServiceView
  view = view_in final

  abbrev marks : List World
  marks = (desk_in settled.service).marks

  abbrev world : World
  world = record { chunks = []; writers = views_of settled.seats.items; service = view_in final }

  -- each seat has nothing left to do
  pub all_seats : HasAllSeats settled.table (view_in final) settled.seats.items
  all_seats = record {
    count = is.many;
    each = λ place seat at.
        let there = get_of settled.seats.items place seat at in
        let done = is.done place seat there in
        let taken = is.taken place seat there in
        let rise = rises place in (
          done.place_is,
          done.sits,
          record {
            claimed = done.done.between.agrees.claims.unclaimed;
            held = done.done.none_held;
            taken = omega (arith, taken, rise);
          },
        );
  }

  module _ (account : IsAccount (setup_in settled.table) (desk_in settled.service).marks (views_of settled.seats.items) (view_in final))
      (taken : AllTaken (view_in final) (views_of settled.seats.items)) where
    seat_here : (place : ℕ) → place < length (setup_in settled.table).writers → HasSeatAt settled.seats.items place
    seat_here place inside = let many = is.many in seat_at settled.seats.items place (omega (arith, inside, many))

    pub done_here : (place : ℕ) → place < length (setup_in settled.table).writers
        → HasDoneLines (setup_in settled.table) scenario.lines last_flushes place (writer (record { chunks = []; writers = views_of settled.seats.items; service = view_in final }) place)
    done_here place inside =
        let here = seat_here place inside in
        subst (λ (v : WriterView). HasDoneLines setup scenario.lines last_flushes place v) (sym here.view) (is.done place here.seat here.there).done

    pub taken_here : (place : ℕ) → place < length (setup_in settled.table).writers
        → (taken_of (view_in final) place).count ≡ length (writer (record { chunks = []; writers = views_of settled.seats.items; service = view_in final }) place).begun
    taken_here place inside =
        let here = seat_here place inside in
        subst (λ (v : WriterView). (taken_of view place).count ≡ length v.begun) (sym here.view) (taken place (known_by here.seat) here.at)

    pub whole_here : (place : ℕ) → place < length (setup_in settled.table).writers
        → (taken_of (view_in settled.service) place).count
        ≡ length (writer (record { chunks = []; writers = views_of settled.seats.items; service = view_in final }) place).begun
    whole_here place inside =
        let here = seat_here place inside in
        let least = is.taken place here.seat here.there in
        let rise = rises place in
        let all = taken place (known_by here.seat) here.at in
        let same : (taken_of (view_in settled.service) place).count ≡ length (known_by here.seat).begun = omega (arith, least, rise, all) in
        subst (λ (v : WriterView). (taken_of (view_in settled.service) place).count ≡ length v.begun) (sym here.view) same

    -- what a writer has completed it had completed once the threads were done
    pub completed_here : (place : ℕ) → place < length (setup_in settled.table).writers → (id chunk : ℕ) (content : Content)
        → At (writer (record { chunks = []; writers = views_of settled.seats.items; service = view_in final }) place).begun id (Completed chunk content)
        → At (writer is.stood place).begun id (Completed chunk content)
    completed_here place inside id chunk content at =
        let here = seat_here place inside in
        is.completed place here.seat here.there id chunk content (subst (λ (v : WriterView). At v.begun id (Completed chunk content)) here.view at)

    module _ (closed : Bool) (all_closed : (place : ℕ) → place < length (setup_in settled.table).writers
        → is_closed (setup_in settled.table) (core_of final) place ≡ closed) where
      pub order_here : (place : ℕ) → place < length (setup_in settled.table).writers
          → LeadTo (view_in final) (sequence_of place) beginning (view_in final).events
          (record { come = (taken_of (view_in final) place).count; closed = closed; due = [] })
      order_here place inside =
          subst (λ (b : Bool). LeadTo view (sequence_of place) beginning view.events (record { come = (taken_of view place).count; closed = b; due = [] }))
          (all_closed place inside) (serves.agrees.order place inside (none_committed_yet view (sequence_of place) own))

      abbrev pub done_all : HasDoneAll scenario (setup_in settled.table) (record { chunks = []; writers = views_of settled.seats.items; service = view_in final }) closed
      done_all = record {
        setup_is = is.laid;
        many = length-map settled.seats.items known_by ∙ is.many;
        owned = ∥∥₁_map account (λ (one : (other : World) × IsOwned other × IsLed setup marks other × (other.writers ≡ views_of settled.seats.items) × (other.service ≡ view) × AreLetters other).
            (one.0, one.1, one.3, one.4));
        free = serves.agrees.none_read;
        stood = is.stood;
        reached = is.reached;
        leads = ∥∥₁_map account (λ (one : (other : World) × IsOwned other × IsLed setup marks other × (other.writers ≡ views_of settled.seats.items) × (other.service ≡ view) × AreLetters other).
            (one.0, one.2.marked is.number is.stood is.marked, one.3, one.4));
        completed = completed_here;
        writers = done_here;
        taken = taken_here;
        order = order_here;
        scraped = none_scraped setup scenario.lines (view_in settled.service) view none is.served.scraped;
        letters = ∥∥₁_map account (λ (one : (other : World) × IsOwned other × IsLed setup marks other × (other.writers ≡ views_of settled.seats.items) × (other.service ≡ view) × AreLetters other).
            same_letters one.0 world one.3 one.4 one.5);
      }
