-- A session as it is made.
use Rattle.std.proofs.Common.{◌≡◌, ◌∙◌, ℕ, ◌<◌, true, false, Option, Some, List, [], length, sym, ap, subst, arith}
use Rattle.std.specs.Prelude.{slice_get}
use Rattle.std.proofs.lemmas.Option.{slice_get_within}
use Rattle.trace_base.proofs.Lists.{some_there}
use Rattle.trace_base.specs.declared.policy.WriterSpec.{WriterSpec}
use Rattle.trace_model.specs.Delivery.{trace_of}
use Rattle.chunk_plain.specs.Laying.{setup_of}
use Rattle.chunk_plain.specs.Plain.{first_world}
use Rattle.chunk_plain.specs.Setup.{Setup}
use Rattle.chunk_plain.specs.Views.{ServiceView, WriterView}
use Rattle.chunk_words.specs.Sits.{Passes, setup_in, known_by_pass}
use Rattle.service_core.proofs.MakeLemmas.{ranges_long}
use Rattle.service_core.specs.Agreement.{AreKnownNotes, is_closed}
use Rattle.thread_service.specs.Reading.{records_of}
use Rattle.thread_service.specs.Serving.{Serves, core_of}
use Rattle.thread_writer.specs.declared.writer.TraceWriter.{TraceWriter}
use Rattle.thread_writer.specs.Writing as writing
use Rattle.trace_writer.specs.Core.{in_packet}
use Rattle.tracesmb_c.specs.declared.planning.Plan.{Plan}
use Rattle.tracesmb_c.specs.declared.session.OwnedSession.{OwnedSession}
use Rattle.tracesmb_c.specs.Ending.{HaveRoom}
use Rattle.tracesmb_c.specs.Planning.{IsPlan}
use Rattle.tracesmb_c.specs.Sessions.{session_table, known_in, IsHome, AreHome, IsNewHome, IsSession, IsUntouched, HasGiven}
use Rattle.tracesmb_c.specs.Sessions.{records_in}
use Rattle.tracesmb_c.specs.Waits.{left_in}

-- The parts of a new session.
pub record IsMade (plan : Plan) (session : OwnedSession) : Type 0 where
  pub setup : setup_in (session_table session) ≡ setup_of plan.producers.items plan.writers.items
  pub serves : Serves (session_table session) session.service
  pub pass : Passes (session_table session) session.pass
  pub known : known_by_pass session.pass ≡ (first_world (setup_in (session_table session))).service
  pub view : known_in session ≡ (first_world (setup_in (session_table session))).service
  pub opened : (place : ℕ) → place < length plan.writers.items → is_closed (setup_of plan.producers.items plan.writers.items)
      (core_of session.service) place ≡ false
  pub many : length session.homes.items ≡ length plan.writers.items
  pub homes : (place : ℕ) (home : Option TraceWriter) → slice_get session.homes.items place ≡ Some home → IsNewHome
      (session_table session) plan.writers.items place home
  pub room : HaveRoom (length plan.writers.items) session.seats session.counts
  pub producers : session.producers ≡ length plan.producers.items
  pub goes : session.stopped ≡ false
  pub whole : session.torn ≡ false
  pub none_waits : left_in session.waiting ≡ []

module _ (plan : Plan) (session : OwnedSession) (planned : IsPlan plan) (made : IsMade plan session) where
  laid : (setup_in (session_table session)).writers ≡ plan.writers.items
  laid = ap (λ (s : Setup). s.writers) made.setup

  wide : length (setup_in (session_table session)).writers ≡ length plan.writers.items
  wide = ap (λ (ws : List WriterSpec). length ws) laid

  at_home : AreHome (session_table session) session.homes.items
  at_home place writer there =
      let inside = slice_get_within session.homes.items place (Some writer) there in
      let many = made.many in
      let spec = some_there plan.writers.items place (omega (arith, inside, many)) in
      let new = made.homes place (Some writer) there in
      let is = new.made spec.0 spec.1 in
      let home : Some writer ≡ Some new.writer = new.home_is in
      let same : new.writer ≡ writer = cc in
      subst (IsHome (session_table session) place) same (record {
        writes = is.writes;
        drops = is.policy_is ∙ planned.drops place spec.0 spec.1;
        place_is = is.place_is;
        none_begun = ap (λ (v : WriterView). in_packet v) is.fresh;
        none_held = is.none_held;
      })

  pub new_session : IsSession session
  new_session = record {
    serves = made.serves;
    pass = made.pass;
    known = subst (λ (v : ServiceView). AreKnownNotes v v.events) (sym made.known) tt;
    own = ap (λ (v : ServiceView). v.commits) made.view;
    producers =
        let long = ap (λ (s : Setup). length s.ranges) made.setup in
        let ranges = ranges_long 0 plan.producers.items in
        let is = made.producers in
        omega (arith, long, ranges, is);
    goes_on = λ _. record {
      many = made.many ∙ sym wide;
      homes = at_home;
      opened = λ place inside.
          subst (λ (s : Setup). is_closed s (core_of session.service) place ≡ false) (sym made.setup)
          (made.opened place (let long = wide in omega (arith, inside, long)));
      room = subst (λ (n : ℕ). HaveRoom n session.seats session.counts) (sym wide) made.room;
    };
    ended = λ stopped. let goes = made.goes in let wrong : false ≡ true = sym goes ∙ stopped in absurd (cc);
  }

  none_read : trace_of (records_in session) ≡ []
  none_read = ap (λ (v : ServiceView). trace_of (records_of (setup_in (session_table session)) (core_of session.service) v)) made.known

  pub new_untouched : IsUntouched session
  new_untouched = record {
    goes = made.goes;
    whole = made.whole;
    none_read = none_read;
    service = made.view;
    homes = λ place home there.
        let new = made.homes place home there in
        let inside = slice_get_within session.homes.items place home there in
        let many = made.many in
        let spec = some_there plan.writers.items place (omega (arith, inside, many)) in
        (new.writer, new.home_is, (new.made spec.0 spec.1).fresh);
  }

  pub new_given : HasGiven session []
  new_given = record {
    rest = [];
    trace = none_read;
    waits = λ _. sym made.none_waits;
  }
