-- What the seats of a closed session knew is the account of all that was done: its records are faithful, and each writer's packets are
-- counted once.
use Rattle.std.proofs.Common.{◌≡◌, ◌∙◌, ℕ, ◌+◌, ◌-◌, ◌<◌, ◌≤◌, true, Some, List, [], ◌∷◌, length, map, refl, sym, ap, subst, arith}
use Rattle.std.specs.Prelude.{slice_get, slice_index_or}
use Rattle.std.proofs.Math.Logic.{∥∥₁_elim, ∥∥₁_map, ∥∥₁_prop}
use Rattle.std.proofs.Math.Nat.{ℕ_set}
use Rattle.std.proofs.lemmas.List.{length-map}
use Rattle.std.proofs.lemmas.Option.{slice_get_within, slice_get-get_or}
use Rattle.trace_base.proofs.Lists.{some_there}
use Rattle.trace_base.specs.declared.policy.FullPolicy.{FullPolicy}
use Rattle.trace_base.specs.declared.policy.WriterSpec.{WriterSpec}
use Rattle.trace_model.specs.Balance.{IsBalanced, PacketCounts, counts_of}
use Rattle.trace_model.specs.Buffers.{Buffer, empty_buffer}
use Rattle.trace_model.specs.Calls.{Call}
use Rattle.trace_model.specs.Counts.{last_count}
use Rattle.trace_model.specs.Delivery.{Delivered, IsFaithful, records_of}
use Rattle.trace_model.specs.History.{records_after, state_after}
use Rattle.trace_model.specs.Packets.{begun_count, dropped_at_begin, emissions_of}
use Rattle.trace_model.specs.Sequences.{sequence_in}
use Rattle.chunk_plain.specs.Histories.{history_of}
use Rattle.chunk_plain.specs.Plain.{first_world}
use Rattle.chunk_plain.specs.Setup.{Setup, no_writer, sequence_of}
use Rattle.chunk_plain.specs.Views.{ServiceView, WriterView, newcomer}
use Rattle.chunk_plain.specs.World.{World, writer}
use Rattle.chunk_plain.specs.Letters.{AreLetters}
use Rattle.chunk_plain.specs.Owned.{IsOwned}
use Rattle.chunk_schedules.specs.Moves.{Move}
use Rattle.chunk_schedules.specs.Schedules.{IsSchedule, IsLed}
use Rattle.chunk_words.specs.declared.seats.ServiceSeat.{ServiceSeat}
use Rattle.chunk_words.specs.declared.seats.WriterSeat.{WriterSeat}
use Rattle.chunk_words.specs.Closed.{HasAllSeats, IsAccount, views_of}
use Rattle.chunk_words.specs.GoesOn.{GoesOn}
use Rattle.chunk_words.specs.Sits.{setup_in, known_by, known_by_pass}
use Rattle.service_core.specs.Agreement.{ServiceAgrees, buffer_of, spec_at, spec_value}
use Rattle.service_core.proofs.QuietLemmas.{adds_quiet}
use Rattle.service_core.proofs.RouteLemmas.{at_after}
use Rattle.thread_service.specs.Serving.{core_of}
use Rattle.thread_service.proofs.GoingOn.{goes_adds}
use Rattle.world_model.specs.FirstBuffers.{BufferSpec, first_buffers, sequences_from}
use Rattle.world_model.proofs.MakingLemmas.{first_long}
use Rattle.replay_model.proofs.BalanceLemmas.{first_at}
use Rattle.replay_model.proofs.CountLemmas.{policy_stays}
use Rattle.replay_model.proofs.RawLemmas.{none_committed_yet}
use Rattle.replay_host.proofs.CountingLemmas.{left_is, left_same}
use Rattle.schedule_laws.specs.Laws.{EveryScheduleIsFaithful, ServingIsInOrder}
use Rattle.schedule_laws.specs.ReportLaws.{CountsOnce, EveryPacketIsCounted, buffer_named, counts_at}
use Rattle.schedule_laws.specs.Resting.{IsBetweenCalls, AreOwnInOrder}
use Rattle.trace_buffer.specs.Answers.{state_of}
use Rattle.trace_writer.specs.Agreement.{counted}
use Rattle.thread_host.proofs.Seating.{get_of, seat_at}
use Rattle.tracesmb_c.proofs.OnceLemmas.{delivered_once}
use Rattle.tracesmb_c.specs.declared.closing.Losses.{Losses}
use Rattle.tracesmb_c.specs.declared.session.Counted.{Counted}
use Rattle.tracesmb_c.specs.declared.session.OwnedSession.{OwnedSession}
use Rattle.tracesmb_c.specs.Losing.{buffer_for, losses_at, losses_of}
use Rattle.tracesmb_c.specs.Sessions.{session_table, known_in, records_in, emitted_in, counts_in, counts_told, IsLost, IsSession}
use Rattle.tracesmb_c.specs.Ending.{none_counted}
use Rattle.tracesmb_c.specs.Sessions.{HasEnded}

module _ (session : OwnedSession) (is : IsSession session) (stopped : session.stopped ≡ true) where
  abbrev setup : Setup
  setup = setup_in (session_table session)

  abbrev made : List BufferSpec
  made = map spec_value (core_of session.service).specs.items

  ended : HasEnded session
  ended = is.ended stopped

  -- each seat has nothing left to do
  pub all_seats : HasAllSeats (session_table session) (known_in session) session.seats.items
  all_seats = record {
    count = ended.many;
    each = λ place seat at.
        let done = ended.each place seat (get_of session.seats.items place seat at) in (
          done.place_is,
          done.sits,
          record { claimed = done.between.agrees.claims.unclaimed; held = done.none_held; taken = done.taken },
        );
  }

  -- ---- in a world that a schedule leads to

  module _ (world : World) (moves : List Move)
      (schedule : IsSchedule (setup_in (session_table session)) (first_world (setup_in (session_table session))) moves world)
      (writers : world.writers ≡ views_of session.seats.items) (service : world.service ≡ known_in session) where
    seated : (place : ℕ) (seat : WriterSeat) → slice_get session.seats.items place ≡ Some seat → writer world place ≡ known_by seat
    seated place seat there =
        let inside = slice_get_within session.seats.items place seat there in
        let here = seat_at session.seats.items place inside in
        let at : slice_get session.seats.items place ≡ Some here.seat = here.there in
        let same : here.seat ≡ seat = cc in
        ap (λ (views : List WriterView). slice_index_or views place newcomer) writers ∙ here.view ∙ ap known_by same

    between : (place : ℕ) → place < length setup.writers → IsBetweenCalls (setup_in (session_table session)) place (writer world place)
    between place inside =
        let many = ended.many in
        let here = some_there session.seats.items place (omega (arith, inside, many)) in
        subst (IsBetweenCalls setup place) (sym (seated place here.0 here.1)) (ended.each place here.0 here.1).between

    noted : ServingIsInOrder ServiceSeat → AreOwnInOrder (setup_in (session_table session)) world.service
    noted in_order place inside none =
        in_order setup world.service (core_of session.service)
        (subst (λ (v : ServiceView). ServiceAgrees setup v (core_of session.service)) (sym service) is.serves.agrees) place inside none

    faithful_here : EveryScheduleIsFaithful → ServingIsInOrder ServiceSeat
        → IsFaithful (map (λ (view : WriterView). emissions_of view.calls) world.writers)
        (records_after (first_buffers (setup_in (session_table session)) 1 (map spec_value (core_of session.service).specs.items))
        (history_of world.service))
    faithful_here law in_order =
        let faithful = law setup made moves world (session_table session).laid schedule between (noted in_order) in
        record {
          known = faithful.known;
          told = λ place packets e.
              faithful.told place packets
              (none_committed_yet world.service (sequence_of place) (ap (λ (v : ServiceView). v.commits) service ∙ is.own)) e;
        }

    module _ (counts : EveryPacketIsCounted) (in_order : ServingIsInOrder ServiceSeat) (place : ℕ) (seat : WriterSeat)
        (there : slice_get session.seats.items place ≡ Some seat)
        (few : begun_count (known_by seat).calls ≤ last_count) where
      inside : place < length (setup_in (session_table session)).writers
      inside = let within = slice_get_within session.seats.items place seat there in let many = ended.many in omega (arith, within, many)

      abbrev spec : WriterSpec
      spec = spec_at (setup_in (session_table session)).writers place

      abbrev index : ℕ
      index = buffer_of (setup_in (session_table session)) place - 1

      routed : (1 ≤ buffer_of (setup_in (session_table session)) place) ×
          (buffer_of (setup_in (session_table session)) place ≤ length (core_of session.service).specs.items)
      routed = (is.serves.agrees.routed.least place inside, is.serves.agrees.routed.most place inside)

      at_index : (made_there : BufferSpec) ×
          (slice_get (map spec_value (core_of session.service).specs.items)
          (buffer_of (setup_in (session_table session)) place - 1) ≡ Some made_there)
      at_index =
          let least = routed.0 in
          let most = routed.1 in
          let long = length-map (core_of session.service).specs.items spec_value in
          some_there made index (omega (arith, least, most, long))

      becomes : buffer_for (session_table session) session.service place ≡ state_after
          (buffer_named (setup_in (session_table session)) (spec_at (setup_in (session_table session)).writers place) at_index.0)
          (history_of (known_in session))
      becomes =
          let least = routed.0 in
          let low = slice_get_within made index at_index.0 at_index.1 in
          let long = first_long setup 1 made in
          let number : 1 + index ≡ spec.buffer = omega (arith, least) in
          at_after (first_buffers setup 1 made) index (history_of (known_in session)) (omega (arith, low, long))
          ∙ ap (λ (b : Buffer). state_after b (history_of (known_in session)))
          (first_at setup 1 made index at_index.0 at_index.1
          ∙ ap (λ (n : ℕ). empty_buffer at_index.0.size at_index.0.policy (sequences_from setup n 0 setup.writers)) number)

      -- what the law says of its counts is so of what is told
      told_here : (P : PacketCounts → Type 0)
          → (CountsOnce setup world place spec at_index.0 → P (counts_at setup world place spec at_index.0))
          → P (counts_told session place seat)
      told_here P says =
          let history = history_of (known_in session) in
          let named : Buffer = buffer_named setup spec at_index.0 in
          let calls : List Call = (known_by seat).calls in
          let seat_is = seated place seat there in
          let once = counts setup moves world (session_table session).laid schedule place spec at_index.0
          (slice_get-get_or setup.writers place no_writer inside)
          (between place inside)
          (noted in_order place inside
          (none_committed_yet world.service (sequence_of place) (ap (λ (v : ServiceView). v.commits) service ∙ is.own)))
          (subst (λ (v : WriterView). begun_count v.calls ≤ last_count) (sym seat_is) few) in
          let here : P (counts_of at_index.0.policy calls (sequence_in (state_after named history).sequences (sequence_of place))) =
          subst (λ (v : ServiceView). P
          (counts_of at_index.0.policy calls (sequence_in (state_after named (history_of v)).sequences (sequence_of place)))) service
          (subst (λ (v : WriterView). P
          (counts_of at_index.0.policy v.calls
          (sequence_in (state_after named (history_of world.service)).sequences (sequence_of place)))) seat_is
          (says once)) in
          subst (λ (b : Buffer). P (counts_of b.policy calls (sequence_in b.sequences (sequence_of place)))) (sym becomes)
          (subst (λ (p : FullPolicy). P (counts_of p calls (sequence_in (state_after named history).sequences (sequence_of place))))
          (sym (policy_stays history named)) here)

      balanced_here : IsBalanced (counts_told session place seat)
      balanced_here = told_here IsBalanced (λ once. once.balanced)

      delivered_here : (counts_told session place seat).delivered ≡ length
          (records_of (sequence_of place)
          (records_after (first_buffers (setup_in (session_table session)) 1 (map spec_value (core_of session.service).specs.items))
          (history_of world.service)))
      delivered_here =
          let least = routed.0 in
          told_here (λ (told : PacketCounts). told.delivered ≡ length
          (records_of (sequence_of place) (records_after (first_buffers setup 1 made) (history_of world.service))))
          (λ once. once.records
          ∙ sym (delivered_once setup place spec (slice_get-get_or setup.writers place no_writer inside) made index at_index.0
          (history_of world.service) at_index.1 (omega (arith, least))))

  -- ---- by the account

  abbrev AWorld : Type 0
  AWorld = (world : World) × (moves : List Move) × IsSchedule setup (first_world setup) moves world ×
      (world.writers ≡ views_of session.seats.items) × (world.service ≡ known_in session)

  module _ (marks : List World)
      (account : IsAccount (setup_in (session_table session)) marks (views_of session.seats.items) (known_in session)) where
    led : ∥ AWorld ∥₁
    led = ∥∥₁_elim account ∥∥₁_prop
        (λ (one : (world : World) × IsOwned world × IsLed setup marks world × (world.writers ≡ views_of session.seats.items) ×
        (world.service ≡ known_in session) × AreLetters world).
        ∥∥₁_map one.2.reached
        (λ (goes : (moves : List Move) × IsSchedule setup (first_world setup) moves one.0). let way : AWorld =
        (one.0, goes.0, goes.1, one.3, one.4) in way))

    same_records_read : GoesOn (known_by_pass session.pass) (known_in session)
        → records_after (first_buffers (setup_in (session_table session)) 1 (map spec_value (core_of session.service).specs.items))
        (history_of (known_in session)) ≡ records_in session
    same_records_read goes =
        adds_quiet (first_buffers setup 1 made) (known_by_pass session.pass) (known_in session) is.known
        (goes_adds (known_by_pass session.pass) (known_in session) goes)

    emitted_same : (seats : List WriterSeat) → map (λ (view : WriterView). emissions_of view.calls) (views_of seats) ≡ map
        (λ (seat : WriterSeat). emissions_of (known_by seat).calls) seats
    emitted_same [] = refl
    emitted_same (seat ∷ seats) = ap (λ (all : List (List (List ℕ))). emissions_of (known_by seat).calls ∷ all) (emitted_same seats)

    pub closed_faithful : EveryScheduleIsFaithful → ServingIsInOrder ServiceSeat → GoesOn (known_by_pass session.pass) (known_in session)
        → ∥ IsFaithful (emitted_in session) (records_in session) ∥₁
    closed_faithful law in_order goes =
        ∥∥₁_map led (λ (one : AWorld).
        let faithful = faithful_here one.0 one.1 one.2 one.3 one.4 law in_order in
        subst (λ (records : List Delivered). IsFaithful (emitted_in session) records) (same_records_read goes)
        (subst (λ (v : ServiceView). IsFaithful (emitted_in session) (records_after (first_buffers setup 1 made) (history_of v))) one.4
        (subst (λ (all : List (List (List ℕ))). IsFaithful all (records_after (first_buffers setup 1 made) (history_of one.0.service)))
        (ap (map (λ (view : WriterView). emissions_of view.calls)) one.3 ∙ emitted_same session.seats.items) faithful)))

    pub closed_lost : EveryPacketIsCounted → ServingIsInOrder ServiceSeat → (place : ℕ) (seat : WriterSeat) (one : Losses)
        → slice_get session.seats.items place ≡ Some seat
        → one ≡ losses_at (session_table session) session.service place (slice_index_or session.counts.items place none_counted)
        → begun_count (known_by seat).calls ≤ last_count → GoesOn (known_by_pass session.pass) (known_in session)
        → IsLost session place seat one
    closed_lost counts in_order place seat one there told few goes =
        let count : Counted = slice_index_or session.counts.items place none_counted in
        let done = ended.each place seat there in
        let calls : List Call = (known_by seat).calls in
        let buffer : Buffer = buffer_for (session_table session) session.service place in
        let state = state_of buffer.policy (sequence_in buffer.sequences (sequence_of place)) in
        let sum : (counts_told session place seat).begun ≡ (counts_told session place seat).delivered +
        (counts_told session place seat).dropped
        + (counts_told session place seat).overwritten + (counts_told session place seat).discarded + (counts_told session place seat).cut =
        ∥∥₁_elim led (ℕ_set _ _) (λ (w : AWorld). (balanced_here w.0 w.1 w.2 w.3 w.4 counts in_order place seat there few).sum) in
        let balanced : IsBalanced (counts_told session place seat) = record { sum = sum } in
        let same : counts_in one ≡ counts_told session place seat =
        ap counts_in (told
        ∙ ap losses_of (left_same count.begun count.dropped (counted (begun_count calls)) (counted (dropped_at_begin calls)) state state
        done.counts.begun_is done.counts.dropped_is refl
        ∙ left_is buffer.policy calls (sequence_in buffer.sequences (sequence_of place)) balanced)) in
        let delivered : (counts_told session place seat).delivered ≡ length (records_of (sequence_of place) (records_in session)) =
        ∥∥₁_elim led (ℕ_set _ _) (λ (w : AWorld).
        delivered_here w.0 w.1 w.2 w.3 w.4 counts in_order place seat there few
        ∙ ap (λ (v : ServiceView). length (records_of (sequence_of place) (records_after (first_buffers setup 1 made) (history_of v)))) w.4
        ∙ ap (λ (records : List Delivered). length (records_of (sequence_of place) records)) (same_records_read goes)) in
        record {
          counts = same;
          balanced = subst IsBalanced (sym same) balanced;
          delivered = ap (λ (told : PacketCounts). told.delivered) same ∙ delivered;
        }
