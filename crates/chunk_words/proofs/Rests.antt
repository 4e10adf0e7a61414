-- A seat is at rest again where a call of it ends.
use Rattle.std.proofs.Common.{◌≡◌, ℕ, ◌<◌, None, [], length, refl, subst, sym, ap, ◌∙◌, arith}
use Rattle.page_geometry.specs.declared.chunk_header.ChunkHeader.{ChunkHeader}
use Rattle.page_geometry.specs.declared.chunk_state.ChunkState.TheVariants.{Complete}
use Rattle.page_geometry.specs.Header.{packed, unpacked}
use Rattle.page_geometry.specs.PageBits.{HasState}
use Rattle.chunk_plain.specs.Setup.{Setup, spot, producer_of, IsLaid}
use Rattle.chunk_plain.specs.Views.{Held, WriterView, ServiceView}
use Rattle.chunk_plain.specs.Drafts.{draft_at, IsHolding}
use Rattle.chunk_plain.specs.Words.{IsAtRest, IsServing, FindsWritten, LooksAt}
use Rattle.chunk_plain.specs.Steps.{looks_at}
use Rattle.chunk_plain.proofs.LayingLemmas.{chunk_inside}
use Rattle.chunk_words.specs.declared.host.HostTable.{HostTable}
use Rattle.chunk_words.specs.declared.seats.WriterSeat.{WriterSeat}
use Rattle.chunk_words.specs.declared.seats.ServiceSeat.{ServiceSeat}
use Rattle.chunk_words.specs.Knows.{Watch, Nothing, Desk, Knows, Writer, Service, by_service, place_of, view_of, made_of, desk_of, joined_of, service_of}
use Rattle.chunk_words.specs.Moves.{Mine, IsSeen, Peeks, ReadsHeader, Looks, Misses}
use Rattle.chunk_words.specs.Seats.{IsIdle, IsServiceIdle}
use Rattle.chunk_words.specs.Sits.{Sits, Attends}

pub idle_now : (place : ℕ) (old new : Mine) (view : WriterView) → IsIdle place old → new ≡ (Writer (place_of old.0) 0 view, []) → IsIdle place new
idle_now place old new view idle is =
    let same : place_of old.0 ≡ place = ap (λ (m : Mine). place_of m.0) idle in
    let view_is : view_of new.0 ≡ view = ap (λ (m : Mine). view_of m.0) is in
    is ∙ (ap (λ q. let m : Mine = (Writer q 0 view, []) in m) same ∙ ap (λ v. let m : Mine = (Writer place 0 v, []) in m) (sym view_is))

-- the seat has this view, which is one at rest
pub sits_now : (table : HostTable) (old new : WriterSeat) (view : WriterView) → Sits table old → new.seat.table_id ≡ old.seat.table_id → new.place ≡ old.place
    → new.seat.me ≡ (Writer (place_of old.seat.me.0) 0 view, []) → IsAtRest table.layout old.place view → Sits table new
sits_now table old new view sits joined same_place is rests = record {
  joined = joined ∙ sits.joined;
  rests = record {
    idle = subst (λ p. IsIdle p new.seat.me) (sym same_place) (idle_now old.place old.seat.me new.seat.me view sits.rests.idle is);
    rests = subst (λ p. IsAtRest table.layout p (view_of new.seat.me.0)) (sym same_place)
        (subst (IsAtRest table.layout old.place) (sym (ap (λ (m : Mine). view_of m.0) is)) rests);
  };
}

-- the service's seat has this view, which is one between two calls, and this of the other seats
pub attends_as : (table : HostTable) (old new : ServiceSeat) (desk : Desk) (watch : Watch) (view : ServiceView) → Attends table old → new.seat.table_id ≡ old.seat.table_id
    → desk.joined ≡ joined_of old.seat.me.0 → new.seat.me ≡ (Service 0 (made_of old.seat.me.0) desk watch view, []) → IsServing table.layout view → IsSeen view → Attends table new
attends_as table old new desk watch view attends joined same is serving seen =
    let view_is : service_of new.seat.me.0 ≡ view = ap (λ (m : Mine). service_of m.0) is in
    record {
      joined = joined ∙ attends.joined;
      waits = record {
        idle = subst IsServiceIdle (sym is) refl;
        serving = subst (IsServing table.layout) (sym view_is) serving;
        seen = subst IsSeen (sym view_is) seen;
        all_made = ap (λ (m : Mine). made_of m.0) is ∙ attends.waits.all_made;
        none_joined = ap (λ (m : Mine). joined_of m.0) is ∙ (same ∙ attends.waits.none_joined);
      };
    }

-- and nothing changed of the other seats
pub attends_now : (table : HostTable) (old new : ServiceSeat) (watch : Watch) (view : ServiceView) → Attends table old → new.seat.table_id ≡ old.seat.table_id
    → new.seat.me ≡ (Service 0 (made_of old.seat.me.0) (desk_of old.seat.me.0) watch view, []) → IsServing table.layout view → IsSeen view → Attends table new
attends_now table old new watch view attends joined is serving seen = attends_as table old new (desk_of old.seat.me.0) watch view attends joined refl is serving seen

-- so is a chunk that a writer at rest holds
pub held_of_table : (setup : Setup) (place chunk position : ℕ) (view : WriterView) → IsLaid setup → IsAtRest setup place view → IsHolding view chunk position → chunk < length setup.spots
held_of_table setup place chunk position view laid rests holding =
    chunk_inside setup (producer_of setup place) chunk laid (rests.begun position (Held chunk (draft_at view position)) holding)

-- the service attends behind a look
pub attends_looked : (table : HostTable) (old mid new : ServiceSeat) (chunk word header : ℕ) → Attends table old → mid.seat.table_id ≡ old.seat.table_id
    → new.seat.table_id ≡ mid.seat.table_id → Peeks table.layout chunk old.seat.me word mid.seat.me → Looks table.layout chunk word mid.seat.me header new.seat.me
    → Attends table new
attends_looked table old mid new chunk word header attends same_mid same_new peeks looks =
    let known = ap (λ (m : Mine). m.0) peeks.new_is in let serving = attends.waits.serving in
    let step : ServiceView → ServiceView = λ v. looks_at v chunk word (packed (unpacked header)) looks.found in
    attends_now table old new Nothing (step (service_of old.seat.me.0)) attends (same_new ∙ same_mid)
    (looks.serves.new_is ∙ ap (λ (k : Knows). let m : Mine = (by_service 0 Nothing step k, []) in m) known)
    (record { writers = serving.writers; level = serving.level })
    (subst (λ (k : Knows). IsSeen (step (service_of k))) known looks.serves.seen)

-- what it found joins its view, with the page word that was found before
pub looked_at : (setup : Setup) (chunk word header : ℕ) (is : ChunkHeader) (me mid new : Mine) → Peeks setup chunk me word mid → Looks setup chunk word mid header new
    → is ≡ unpacked header → LooksAt setup chunk word is (service_of me.0) (service_of new.0)
looked_at setup chunk word header is me mid new peeks looks same =
    let view : service_of mid.0 ≡ service_of me.0 = ap (λ (m : Mine). service_of m.0) peeks.new_is in
    record {
      seen = peeks.seen;
      found = looks.found;
      finds = subst (λ h. FindsWritten setup chunk word h (service_of me.0) looks.found) (sym same)
          (subst (λ v. FindsWritten setup chunk word (unpacked header) v looks.found) view looks.finds);
      view = ap (λ (m : Mine). service_of m.0) looks.serves.new_is
          ∙ (ap (λ v. looks_at v chunk word (packed (unpacked header)) looks.found) view
          ∙ ap (λ (h : ChunkHeader). looks_at (service_of me.0) chunk word (packed h) looks.found) (sym same));
    }

-- so does a look at a complete chunk that wasn't the one asked for
pub missed_at : (setup : Setup) (chunk word found : ℕ) (is : ChunkHeader) (me mid known new : Mine) → Peeks setup chunk me word mid → ReadsHeader chunk word mid found known
    → Misses chunk word is known new → HasState word (spot setup chunk).place Complete → LooksAt setup chunk word is (service_of me.0) (service_of new.0)
missed_at setup chunk word found is me mid known new peeks reads misses complete = record {
  seen = peeks.seen;
  found = None;
  finds = record {
    some = λ has. absurd (let low = has.low in let high = has.high in let low' = complete.low in let high' = complete.high in omega arith);
    none = λ _. refl;
  };
  view = ap (λ (m : Mine). service_of m.0) misses.serves.new_is
      ∙ ap (λ v. looks_at v chunk word (packed is) None) (ap (λ (m : Mine). service_of m.0) reads.new_is ∙ ap (λ (m : Mine). service_of m.0) peeks.new_is);
}
