-- A session from which a writer goes, and to which it comes back.
use Rattle.std.proofs.Common.{◌≡◌, ◌∙◌, ℕ, zero, suc, ◌+◌, ◌⊎◌, true, false, Option, Some, List, [], ◌∷◌}
use Rattle.std.proofs.Common.{length, length-set, inl, inr, refl, sym, ap, subst, arith}
use Rattle.std.specs.Prelude.{slice_get, slice_set, vec_capacity}
use Rattle.chunk_words.specs.declared.host.HostTable.{HostTable}
use Rattle.chunk_words.specs.declared.seats.ReadPass.{ReadPass}
use Rattle.chunk_words.specs.Sits.{Passes, setup_in, known_by_pass}
use Rattle.service_core.specs.Agreement.{is_closed}
use Rattle.thread_service.specs.declared.service.Service.{Service}
use Rattle.thread_service.specs.Reading.{IsKnownWhole}
use Rattle.thread_service.specs.Serving.{Serves, core_of, view_in}
use Rattle.thread_writer.specs.declared.writer.TraceWriter.{TraceWriter}
use Rattle.tracesmb_c.specs.declared.session.OwnedSession.{OwnedSession}
use Rattle.tracesmb_c.specs.declared.writer.OwnedWriter.{OwnedWriter}
use Rattle.tracesmb_c.specs.Lending.{IsReady, table_of, view_of}
use Rattle.trace_writer.specs.Core.{in_packet, holds_chunk}
use Rattle.thread_writer.specs.Writing.{core_of as writer_core, Writes}
use Rattle.tracesmb_c.specs.Sessions.{session_table, IsHome, IsSession, KeepsOthers}

-- ---- lists

-- what stands in a list of which one element was set
pub get_set : {A : Type 0} (xs : List A) (i j : ℕ) (x y : A) → slice_get (slice_set xs i x) j ≡ Some y → ((j ≡ i) × (x ≡ y)) ⊎
    (slice_get xs j ≡ Some y)
get_set [] i j x y there = inr there
get_set (z ∷ xs) zero zero x y there = let same : x ≡ y = cc in inl (refl, same)
get_set (z ∷ xs) zero (suc j) x y there = inr there
get_set (z ∷ xs) (suc i) zero x y there = inr there
get_set (z ∷ xs) (suc i) (suc j) x y there = deeper (get_set xs i j x y there)
  where
    deeper : ((j ≡ i) × (x ≡ y)) ⊎ (slice_get xs j ≡ Some y) → ((suc j ≡ suc i) × (x ≡ y)) ⊎ (slice_get xs j ≡ Some y)
    deeper (inl is) = inl (ap suc is.0, is.1)
    deeper (inr other) = inr other

-- an element that was there is set back
pub set_back : {A : Type 0} (xs : List A) (i : ℕ) (x y : A) → slice_get xs i ≡ Some x → slice_set (slice_set xs i y) i x ≡ xs
set_back [] i x y there = refl
set_back {A} (z ∷ xs) zero x y there = let same : x ≡ z = cc in ap (λ (w : A). w ∷ xs) same
set_back {A} (z ∷ xs) (suc i) x y there = ap (λ (ws : List A). z ∷ ws) (set_back xs i x y there)

pub set_same : {A : Type 0} (xs : List A) (i : ℕ) (x : A) → slice_get xs i ≡ Some x → slice_set xs i x ≡ xs
set_same [] i x there = refl
set_same {A} (z ∷ xs) zero x there = let same : x ≡ z = cc in ap (λ (w : A). w ∷ xs) same
set_same {A} (z ∷ xs) (suc i) x there = ap (λ (ws : List A). z ∷ ws) (set_same xs i x there)

-- ---- sessions

module _ (old new : OwnedSession) (place : ℕ) (home : Option TraceWriter) (is : IsSession old) (goes : old.stopped ≡ false)
    (others : KeepsOthers old new)
    (homes : new.homes.items ≡ slice_set old.homes.items place home)
    (at_home : (writer : TraceWriter) → home ≡ Some writer → IsHome (session_table old) place writer) where
  table_is : session_table old ≡ session_table new
  table_is = sym others.table

  housed_each : (other : ℕ) (writer : TraceWriter) → slice_get new.homes.items other ≡ Some (Some writer) → IsHome
      (session_table new) other writer
  housed_each other writer there =
      subst (λ (t : HostTable). IsHome t other writer) table_is
      (by_place (get_set old.homes.items place other home (Some writer)
      (subst (λ (hs : List (Option TraceWriter)). slice_get hs other ≡ Some (Some writer)) homes there)))
    where
      by_place : ((other ≡ place) × (home ≡ Some writer)) ⊎ (slice_get old.homes.items other ≡ Some (Some writer)) → IsHome
          (session_table old) other writer
      by_place (inl here) = subst (λ (p : ℕ). IsHome (session_table old) p writer) (sym here.0) (at_home writer here.1)
      by_place (inr before) = (is.goes_on goes).homes other writer before

  pub housed : IsSession new
  housed = record {
    serves = subst (λ (t : HostTable). Serves t new.service) table_is
        (subst (λ (s : Service). Serves (session_table old) s) (sym others.service) is.serves);
    pass = subst (λ (t : HostTable). Passes t new.pass) table_is
        (subst (λ (p : ReadPass). Passes (session_table old) p) (sym others.pass) is.pass);
    known = subst (λ (p : ReadPass). IsKnownWhole (known_by_pass p)) (sym others.pass) is.known;
    own = ap (λ (s : Service). (view_in s).commits) others.service ∙ is.own;
    producers = others.producers ∙ is.producers ∙ ap (λ (t : HostTable). length (setup_in t).ranges) table_is;
    goes_on = λ _.
        let before = is.goes_on goes in
        let wide : length (setup_in (session_table old)).writers ≡ length (setup_in (session_table new)).writers =
        ap (λ (t : HostTable). length (setup_in t).writers) table_is in
        record {
          many = ap (λ (hs : List (Option TraceWriter)). length hs) homes ∙ length-set old.homes.items place home ∙ before.many ∙ wide;
          homes = housed_each;
          opened = λ other inside.
              subst (λ (t : HostTable). is_closed (setup_in t) (core_of new.service) other ≡ false) table_is
              (subst (λ (s : Service). is_closed (setup_in (session_table old)) (core_of s) other ≡ false) (sym others.service)
              (before.opened other (omega (arith, inside, wide))));
          room = record {
            no_seats = ap (λ v. v.items) others.seats ∙ before.room.no_seats;
            no_counts = ap (λ v. v.items) others.counts ∙ before.room.no_counts;
            seats_room = let room = before.room.seats_room in let same = ap (λ v. vec_capacity v) others.seats in omega
                (arith, room, same, wide);
            counts_room = let room = before.room.counts_room in let same = ap (λ v. vec_capacity v) others.counts in omega
                (arith, room, same, wide);
          };
        };
    ended = λ stopped. let wrong : true ≡ false = sym stopped ∙ others.stopped ∙ goes in absurd (cc);
  }

-- the rest is kept where it was kept twice
pub others_on : (old between new : OwnedSession) → KeepsOthers old between → KeepsOthers between new → KeepsOthers old new
others_on old between new first next = record {
  table = next.table ∙ first.table;
  service = next.service ∙ first.service;
  pass = next.pass ∙ first.pass;
  seats = next.seats ∙ first.seats;
  counts = next.counts ∙ first.counts;
  producers = next.producers ∙ first.producers;
  stopped = next.stopped ∙ first.stopped;
  torn = next.torn ∙ first.torn;
  waiting = next.waiting ∙ first.waiting;
}

-- ---- writers

-- one that is home is ready to be lent
pub ready_from_home : (table : HostTable) (place : ℕ) (writer : TraceWriter) (lent : OwnedWriter) → IsHome table place writer
    → lent.writer ≡ writer → table_of lent ≡ table
    → lent.number ≡ place + 1 → IsReady lent
ready_from_home table place writer lent home is same number = record {
  writes = subst (λ (w : TraceWriter). Writes (table_of lent) w) (sym is)
      (subst (λ (t : HostTable). Writes t writer) (sym same) home.writes);
  drops = ap (λ (w : TraceWriter). (writer_core w).writer.route.spec.policy) is ∙ home.drops;
  number_is = number ∙ ap (λ (p : ℕ). p + 1) (sym home.place_is) ∙ ap (λ (w : TraceWriter). (writer_core w).seat.place + 1) (sym is);
}

-- and one that is ready and holds no chunk may be home
pub home_from_ready : (table : HostTable) (place : ℕ) (lent : OwnedWriter) → IsReady lent → table ≡ table_of lent → lent.number ≡ place + 1
    → in_packet (view_of lent) ≡ false → holds_chunk (writer_core lent.writer) ≡ false → IsHome table place lent.writer
home_from_ready table place lent ready same number none_begun none_held = record {
  writes = subst (λ (t : HostTable). Writes t lent.writer) (sym same) ready.writes;
  drops = ready.drops;
  place_is = let is = ready.number_is in omega (arith, is, number);
  none_begun = none_begun;
  none_held = none_held;
}
