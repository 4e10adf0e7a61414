-- What writers leave at their end, one behind another, and what the service has heard of them.
use Rattle.std.proofs.Common.{◌≡◌, ◌∙◌, ℕ, zero, suc, ◌<◌, ◌≤◌, Some, List, [], ◌∷◌, ◌++◌, length, get_or, map, take, drop, refl, sym, ap, subst, arith}
use Rattle.std.specs.Prelude.{slice_get, slice_index_or, slice_set}
use Rattle.std.proofs.lemmas.List.{get_or-set_same, get_or-set_other, map-append}
use Rattle.std.proofs.lemmas.Option.{slice_get_within}
use mathlib.Core.Option.{some-ne-none, some-injective}
use Rattle.atomic_table.proofs.Lists.{at_longer}
use Rattle.chunk_plain.proofs.Lists.{at_seam}
use Rattle.chunk_plain.specs.declared.tokens.TheConstants.{POSITION_LIMIT}
use Rattle.chunk_plain.specs.Histories.{completed_images}
use Rattle.chunk_plain.specs.Owned.{held_count}
use Rattle.chunk_plain.specs.Setup.{producer_of, IsChunkOf}
use Rattle.chunk_plain.specs.Views.{At, BegunChunk, chunk_of, Held, Completed, Content, ServiceView, WriterView, asked_in, newcomer}
use Rattle.chunk_words.specs.declared.host.HostTable.{HostTable}
use Rattle.chunk_words.specs.declared.seats.ServiceSeat.{ServiceSeat}
use Rattle.chunk_words.specs.declared.seats.WriterSeat.{WriterSeat}
use Rattle.chunk_words.specs.Closed.{views_of}
use Rattle.chunk_plain.specs.Letters.{last_flush}
use Rattle.chunk_words.specs.Knows.{Desk, Tale, with_tale}
use Rattle.chunk_words.specs.Sits.{Sits, setup_in, known_by}
use Rattle.scenario_text.specs.declared.scenario.NumberedLine.{NumberedLine}
use Rattle.scenario_text.specs.Scenario.{Parts}
use Rattle.loss_report.specs.declared.counts.SequenceCounts.{SequenceCounts}
use Rattle.service_core.specs.declared.service.ServiceCore.{ServiceCore}
use Rattle.trace_buffer.specs.declared.answers.BufferSpec.{BufferSpec}
use Rattle.world_model.specs.FirstBuffers.{first_buffers}
use Rattle.service_core.specs.Agreement.{spec_value}
use Rattle.replay_model.proofs.ScrapedLemmas.{counted}
use Rattle.replay_host.proofs.MakingLemmas.{pushed_each}
use Rattle.run_model.specs.Settled.{HasDoneLines, last_flushes}
use Rattle.thread_service.specs.declared.service.Service.{Service}
use Rattle.thread_service.specs.Serving as serving
use Rattle.thread_service.specs.Serving.{Serves, IsOnlySeat}
use Rattle.thread_service.specs.Settling.{IsWholeTale}
use Rattle.thread_writer.specs.declared.writer.TraceWriter.{TraceWriter}
use Rattle.thread_writer.specs.Writing.{core_of, view_in}
use Rattle.thread_host.specs.Ending.{begun_counts, no_counts, IsDoneSeat, AreDoneSeats, HasHeard, HasHeardAll}
use Rattle.thread_host.specs.Hosts.{HasPlayed, IsServed}
use Rattle.thread_host.specs.Tally.{AreHeardInOrder, KeepsAnswers, KeepsServing}
use Rattle.thread_host.proofs.Parts.{AddsNoPart, none_scraped}

-- ---- lists

-- the first element of what is left
pub left_first : {A : Type 0} (xs ys : List A) (x : A) → 0 < length xs → x ≡ get_or xs 0 x → ys ≡ take 0 xs ++ drop 1 xs → xs ≡ x ∷ ys
left_first [] ys x some is rest = absurd (omega (arith, some))
left_first (y ∷ xs) ys x some is rest = let first : y ≡ x = sym is in let others : xs ≡ ys = sym rest in cc

-- ---- the service, of which nothing changed but its seat

pub only_both : (old mid new : ServiceCore ServiceSeat) → IsOnlySeat old mid → IsOnlySeat mid new → IsOnlySeat old new
only_both old mid new first second = ap (λ (core : ServiceCore ServiceSeat). record core { seat = old.seat }) second ∙ first

-- it is served on
pub served_on : (scenario : Parts) (table : HostTable) (old new : Service) → IsServed scenario table old → Serves table new
    → KeepsServing (setup_in table) (serving.core_of old) (serving.core_of new) → (serving.view_in new).commits ≡ (serving.view_in old).commits
    → AddsNoPart (serving.view_in old) (serving.view_in new) → asked_in (serving.view_in new).letters ≡ asked_in (serving.view_in old).letters
    → AreHeardInOrder (serving.view_in new).letters
    → KeepsAnswers (length (setup_in table).writers) (serving.view_in new).letters (serving.core_of new).session → IsServed scenario table new
served_on scenario table old new served serves keeps own none asked in_order kept = record {
  serves = serves;
  opened = λ place inside. keeps.closed place inside ∙ served.opened place inside;
  began = ap (λ (specs : List BufferSpec). first_buffers (setup_in table) 1 (map spec_value specs)) keeps.specs ∙ served.began;
  own = own ∙ served.own;
  scraped = none_scraped (setup_in table) scenario.lines (serving.view_in old) (serving.view_in new) none served.scraped;
  started = keeps.session.state ∙ served.started;
  few = let few = served.few in omega (arith, asked, few);
  in_order = in_order;
  kept = kept;
}

-- ---- one writer

-- the seat that a writer leaves
pub done_seat : (lines : List NumberedLine) (table : HostTable) (place : ℕ) (writer : TraceWriter) (seat : WriterSeat) (counts : SequenceCounts)
    → HasPlayed lines last_flushes table place writer → Sits table seat → known_by seat ≡ view_in writer → seat.place ≡ (core_of writer).seat.place
    → counts ≡ begun_counts (view_in writer).calls → IsDoneSeat lines table place seat counts
done_seat lines table place writer seat counts played sits knows same counted_ = record {
  sits = sits;
  place_is = same ∙ played.place_is;
  done = subst (λ (v : WriterView). HasDoneLines (setup_in table) lines last_flushes place v) (sym knows) played.done;
  counts_are = counted_ ∙ ap (λ (v : WriterView). begun_counts v.calls) (sym knows);
}

few_begun : (begun : List BegunChunk) → held_count begun ≡ 0 → length (completed_images begun) ≤ POSITION_LIMIT → length begun ≤ POSITION_LIMIT
few_begun begun none few = let all = counted begun in omega (arith, all, none, few)

-- what the service hears of it
pub heard_last : (lines : List NumberedLine) (table : HostTable) (place : ℕ) (view : ServiceView) (desk : Desk) (writer : TraceWriter) (seat : WriterSeat)
    → HasPlayed lines last_flushes table place writer → known_by seat ≡ view_in writer → length (completed_images (view_in writer).begun) ≤ POSITION_LIMIT
    → HasHeard (length view.looks) (with_tale desk view (core_of writer).seat.place (view_in writer).begun (last_flush (view_in writer).letters.answers)) place seat
heard_last lines table place view desk writer seat played knows few =
    let begun = (view_in writer).begun in
    let tale : Tale = record { place = (core_of writer).seat.place; looks = length view.looks; begun = begun; flush = last_flush (view_in writer).letters.answers } in
    record {
      number = length desk.told;
      tale = tale;
      told = at_seam desk.told [] tale;
      place_is = played.place_is;
      begun_is = ap (λ (v : WriterView). v.begun) (sym knows);
      flush_is = ap (λ (v : WriterView). last_flush v.letters.answers) (sym knows);
      heard = omega arith;
      few = subst (λ (v : WriterView). length v.begun ≤ POSITION_LIMIT) (sym knows) (few_begun begun played.done.none_held few);
    }

-- and what it had heard before
heard_more : (looks : ℕ) (desk : Desk) (view : ServiceView) (number : ℕ) (begun : List BegunChunk) (flush place : ℕ) (seat : WriterSeat) → HasHeard looks desk place seat
    → HasHeard looks (with_tale desk view number begun flush) place seat
heard_more looks desk view number begun flush place seat heard = record {
  number = heard.number;
  tale = heard.tale;
  told = at_longer desk.told (record { place = number; looks = length view.looks; begun = begun; flush = flush } ∷ []) heard.number heard.tale heard.told;
  place_is = heard.place_is;
  begun_is = heard.begun_is;
  flush_is = heard.flush_is;
  heard = heard.heard;
  few = heard.few;
}

-- ---- one behind another

pub heard_all : (looks : ℕ) (desk : Desk) (view : ServiceView) (number : ℕ) (begun : List BegunChunk) (flush : ℕ) (seats : List WriterSeat) (seat : WriterSeat)
    → HasHeardAll looks desk seats → HasHeard looks (with_tale desk view number begun flush) (length seats) seat
    → HasHeardAll looks (with_tale desk view number begun flush) (seats ++ seat ∷ [])
heard_all looks desk view number begun flush seats seat before last =
    pushed_each (HasHeard looks (with_tale desk view number begun flush)) seats seat
    (λ place other there. heard_more looks desk view number begun flush place other (before place other there)) last

pub done_all : (lines : List NumberedLine) (table : HostTable) (seats : List WriterSeat) (seat : WriterSeat) (sequences : List SequenceCounts) (counts : SequenceCounts)
    → length seats < length sequences → AreDoneSeats lines table seats sequences → IsDoneSeat lines table (length seats) seat counts
    → AreDoneSeats lines table (seats ++ seat ∷ []) (slice_set sequences (length seats) counts)
done_all lines table seats seat sequences counts room before last =
    let written : List SequenceCounts = slice_set sequences (length seats) counts in
    pushed_each (λ (place : ℕ) (other : WriterSeat). IsDoneSeat lines table place other (get_or written place no_counts)) seats seat
    (λ place other there.
    let inside = slice_get_within seats place other there in
    subst (IsDoneSeat lines table place other)
    (sym (get_or-set_other sequences (length seats) place counts no_counts (λ same. absurd (omega (arith, same, inside)))))
    (before place other there))
    (subst (IsDoneSeat lines table (length seats) seat) (sym (get_or-set_same sequences (length seats) counts no_counts room)) last)

-- what the seats know, behind those before them, is what their writers knew
pub know_last : (seats : List WriterSeat) (gone : List TraceWriter) (seat : WriterSeat) (writer : TraceWriter) → views_of seats ≡ map view_in gone
    → known_by seat ≡ view_in writer → views_of (seats ++ seat ∷ []) ≡ map view_in (gone ++ writer ∷ [])
know_last seats gone seat writer before last =
    map-append known_by seats (seat ∷ [])
    ∙ ap (λ (views : List WriterView). views ++ known_by seat ∷ []) before
    ∙ ap (λ (view : WriterView). map view_in gone ++ view ∷ []) last
    ∙ sym (map-append view_in gone (writer ∷ []))

-- ---- what is taken of what was heard

complete : (begun : List BegunChunk) → held_count begun ≡ 0 → (id : ℕ) → id < length begun → (chunk : ℕ) × (content : Content) × At begun id (Completed chunk content)
complete [] none id inside = absurd (omega (arith, inside))
complete (Held chunk draft ∷ begun) none id inside = absurd (omega (arith, none))
complete (Completed chunk content ∷ begun) none zero inside = (chunk, content, refl)
complete (Completed chunk content ∷ begun) none (suc id) inside = complete begun none id (omega (arith, inside))

-- a tale of a writer that has done its lines is one of all that it has begun
pub whole_tale : (lines : List NumberedLine) (table : HostTable) (view : ServiceView) (desk : Desk) (place : ℕ) (seat : WriterSeat) (counts : SequenceCounts)
    → place < length (setup_in table).writers → IsDoneSeat lines table place seat counts → (heard : HasHeard (length view.looks) desk place seat)
    → IsWholeTale (setup_in table) view heard.tale
whole_tale lines table view desk place seat counts inside done heard =
    let here : heard.tale.place ≡ place = heard.place_is in
    let setup = setup_in table in
    record {
      inside = subst (λ (p : ℕ). p < length setup.writers) (sym here) inside;
      heard = heard.heard;
      complete = subst (λ (begun : List BegunChunk). (id : ℕ) → id < length begun → (chunk : ℕ) × (content : Content) × At begun id (Completed chunk content))
          (sym heard.begun_is) (complete (known_by seat).begun done.done.none_held);
      own = subst (λ (begun : List BegunChunk). (id : ℕ) (entry : BegunChunk) → At begun id entry → IsChunkOf setup (producer_of setup heard.tale.place) (chunk_of entry))
          (sym heard.begun_is)
          (subst (λ (p : ℕ). (id : ℕ) (entry : BegunChunk) → At (known_by seat).begun id entry → IsChunkOf setup (producer_of setup p) (chunk_of entry))
          (done.place_is ∙ sym here) done.sits.rests.rests.begun);
      few = subst (λ (begun : List BegunChunk). length begun ≤ POSITION_LIMIT) (sym heard.begun_is) heard.few;
    }

-- ---- seats and their views

pub get_of : {A : Type 0} (xs : List A) (i : ℕ) (x : A) → At xs i x → slice_get xs i ≡ Some x
get_of [] i x at = absurd (some-ne-none x (sym at))
get_of (y ∷ xs) zero x at = ap (λ z. Some z) (some-injective y x at)
get_of (y ∷ xs) (suc i) x at = get_of xs i x at

-- the seat at a place, and what it knows
pub record HasSeatAt (seats : List WriterSeat) (place : ℕ) : Type 0 where
  pub seat : WriterSeat
  pub there : slice_get seats place ≡ Some seat
  pub view : slice_index_or (views_of seats) place newcomer ≡ known_by seat
  pub at : At (views_of seats) place (known_by seat)

pub seat_at : (seats : List WriterSeat) (place : ℕ) → place < length seats → HasSeatAt seats place
seat_at [] place inside = absurd (omega (arith, inside))
seat_at (seat ∷ seats) zero inside = record { seat = seat; there = refl; view = refl; at = refl }
seat_at (seat ∷ seats) (suc place) inside =
    let rest = seat_at seats place (omega (arith, inside)) in record { seat = rest.seat; there = rest.there; view = rest.view; at = rest.at }
