-- What writers leave at the end of a session, and that it is all taken.
use Rattle.std.proofs.Common.{◌≡◌, ◌∙◌, ℕ, ◌<◌, ◌≤◌, Option, Some, List, [], ◌∷◌, ◌++◌, length, length-append, sym, ap}
use Rattle.std.proofs.Common.{subst, arith}
use Rattle.std.specs.Prelude.{slice_get, slice_index_or}
use Rattle.std.proofs.lemmas.List.{get_or_append_left}
use Rattle.std.proofs.lemmas.Option.{slice_get_within}
use Rattle.std.proofs.Math.Seq.{get_or-append_seam}
use Rattle.atomic_table.proofs.Lists.{at_longer}
use Rattle.trace_base.proofs.Lists.{get_seam}
use Rattle.chunk_plain.proofs.Lists.{at_seam}
use Rattle.chunk_plain.specs.declared.tokens.TheConstants.{POSITION_LIMIT}
use Rattle.chunk_plain.specs.Histories.{completed_images}
use Rattle.chunk_plain.specs.Owned.{held_count}
use Rattle.chunk_plain.specs.Setup.{producer_of, IsChunkOf}
use Rattle.chunk_plain.specs.Views.{At, BegunChunk, chunk_of, Completed, Content, ServiceView, WriterView, taken_of}
use Rattle.chunk_words.specs.declared.host.HostTable.{HostTable}
use Rattle.chunk_words.specs.declared.seats.WriterSeat.{WriterSeat}
use Rattle.chunk_words.specs.Knows.{Desk, Tale, with_tale}
use Rattle.chunk_words.specs.Sits.{setup_in, known_by}
use Rattle.replay_model.proofs.ScrapedLemmas.{counted as counted_chunks}
use Rattle.replay_model.proofs.StaysLemmas.{completed_at}
use Rattle.replay_host.proofs.MakingLemmas.{pushed_each}
use Rattle.thread_service.specs.Settling.{IsWholeTale}
use Rattle.thread_writer.specs.declared.writer.TraceWriter.{TraceWriter}
use Rattle.tracesmb_c.specs.declared.session.Counted.{Counted}
use Rattle.tracesmb_c.specs.Ending.{IsLeft, IsTold, none_counted}
use Rattle.tracesmb_c.specs.Sessions.{IsEnded}

-- ---- one behind another

-- it stands at its place among all
pub next_there : {A : Type 0} (all gone left rest : List A) (one : A) (place : ℕ) → gone ++ left ≡ all → length gone ≡ place
    → left ≡ one ∷ rest
    → slice_get all place ≡ Some one
next_there {A} all gone left rest one place is many first =
    subst (λ (n : ℕ). slice_get all n ≡ Some one) many
    (subst (λ (xs : List A). slice_get xs (length gone) ≡ Some one) (ap (λ (xs : List A). gone ++ xs) (sym first) ∙ is)
    (get_seam gone rest one))

pub some_left : {A : Type 0} (all gone left : List A) (place many : ℕ) → gone ++ left ≡ all → length gone ≡ place → many ≡ length all
    → place < many
    → 0 < length left
some_left {A} all gone left place many is gone_is all_is below =
    let sum = ap (λ (xs : List A). length xs) is in
    let parts = length-append gone left in
    omega (arith, sum, parts, gone_is, all_is, below)

-- ---- what the writers left

pub left_next : (table : HostTable) (homes : List (Option TraceWriter)) (seats : List WriterSeat) (seat : WriterSeat)
    (counts : List Counted) (count : Counted)
    → length counts ≡ length seats
    → ((place : ℕ) (other : WriterSeat) → slice_get seats place ≡ Some other → IsLeft table homes place other
    (slice_index_or counts place none_counted))
    → IsLeft table homes (length seats) seat count
    → (place : ℕ) (other : WriterSeat) → slice_get (seats ++ seat ∷ []) place ≡ Some other
    → IsLeft table homes place other (slice_index_or (counts ++ count ∷ []) place none_counted)
left_next table homes seats seat counts count many before last =
    pushed_each (λ (place : ℕ) (other : WriterSeat). IsLeft table homes place other
    (slice_index_or (counts ++ count ∷ []) place none_counted)) seats seat
    (λ place other there.
    let inside = slice_get_within seats place other there in
    subst (IsLeft table homes place other) (sym (get_or_append_left counts (count ∷ []) none_counted place (omega (arith, inside, many))))
    (before place other there))
    (subst (IsLeft table homes (length seats) seat)
    (sym (get_or-append_seam counts count [] none_counted) ∙ ap
    (λ (n : ℕ). slice_index_or (counts ++ count ∷ []) n none_counted) many) last)

-- ---- what they told

few_begun : (begun : List BegunChunk) → held_count begun ≡ 0 → length (completed_images begun) ≤ POSITION_LIMIT
    → length begun ≤ POSITION_LIMIT
few_begun begun none few = let all = counted_chunks begun in omega (arith, all, none, few)

-- the last one told of all that it has begun
pub told_last : (view : ServiceView) (desk : Desk) (number place flush : ℕ) (writer : WriterView) (seat : WriterSeat) → number ≡ place
    → known_by seat ≡ writer
    → held_count writer.begun ≡ 0 → length (completed_images writer.begun) ≤ POSITION_LIMIT
    → IsTold (length view.looks) (with_tale desk view number writer.begun flush) place seat
told_last view desk number place flush writer seat is knows none few =
    let tale : Tale = record { place = number; looks = length view.looks; begun = writer.begun; flush = flush } in
    record {
      number = length desk.told;
      tale = tale;
      told = at_seam desk.told [] tale;
      place_is = is;
      begun_is = ap (λ (v : WriterView). v.begun) (sym knows);
      heard = omega arith;
      few = subst (λ (v : WriterView). length v.begun ≤ POSITION_LIMIT) (sym knows) (few_begun writer.begun none few);
    }

told_more : (looks : ℕ) (desk : Desk) (view : ServiceView) (number : ℕ) (begun : List BegunChunk) (flush place : ℕ) (seat : WriterSeat)
    → IsTold looks desk place seat
    → IsTold looks (with_tale desk view number begun flush) place seat
told_more looks desk view number begun flush place seat told = record {
  number = told.number;
  tale = told.tale;
  told = at_longer desk.told
      (record { place = number; looks = length view.looks; begun = begun; flush = flush } ∷ []) told.number told.tale told.told;
  place_is = told.place_is;
  begun_is = told.begun_is;
  heard = told.heard;
  few = told.few;
}

pub told_next : (looks : ℕ) (desk : Desk) (view : ServiceView) (number : ℕ) (begun : List BegunChunk) (flush : ℕ) (seats : List WriterSeat)
    (seat : WriterSeat)
    → ((place : ℕ) (other : WriterSeat) → slice_get seats place ≡ Some other → IsTold looks desk place other)
    → IsTold looks (with_tale desk view number begun flush) (length seats) seat
    → (place : ℕ) (other : WriterSeat) → slice_get (seats ++ seat ∷ []) place ≡ Some other → IsTold looks
    (with_tale desk view number begun flush) place other
told_next looks desk view number begun flush seats seat before last =
    pushed_each (IsTold looks (with_tale desk view number begun flush)) seats seat
    (λ place other there. told_more looks desk view number begun flush place other (before place other there)) last

-- ---- and that it is all taken

pub whole_tale : (table : HostTable) (homes : List (Option TraceWriter)) (view : ServiceView) (desk : Desk) (place : ℕ) (seat : WriterSeat)
    (count : Counted)
    → place < length (setup_in table).writers → IsLeft table homes place seat count → (told : IsTold (length view.looks) desk place seat)
    → IsWholeTale (setup_in table) view told.tale
whole_tale table homes view desk place seat count inside left told =
    let here : told.tale.place ≡ place = told.place_is in
    let setup = setup_in table in
    record {
      inside = subst (λ (p : ℕ). p < length setup.writers) (sym here) inside;
      heard = told.heard;
      complete = subst (λ (begun : List BegunChunk). (id : ℕ) → id < length begun → (chunk : ℕ) × (content : Content) × At begun id
          (Completed chunk content))
          (sym told.begun_is) (completed_at (known_by seat).begun left.none_held);
      own = subst (λ (begun : List BegunChunk). (id : ℕ) (entry : BegunChunk) → At begun id entry → IsChunkOf setup
          (producer_of setup told.tale.place) (chunk_of entry))
          (sym told.begun_is)
          (subst (λ (p : ℕ). (id : ℕ) (entry : BegunChunk) → At (known_by seat).begun id entry → IsChunkOf setup (producer_of setup p)
          (chunk_of entry))
          (left.place_is ∙ sym here) left.sits.rests.rests.begun);
      few = subst (λ (begun : List BegunChunk). length begun ≤ POSITION_LIMIT) (sym told.begun_is) told.few;
    }

-- A seat that was left has ended, where the service then took what it was told of, and went on.
pub settled_seat : (table : HostTable) (homes : List (Option TraceWriter)) (heard settled view : ServiceView) (desk : Desk) (place : ℕ)
    (seat : WriterSeat) (count : Counted)
    → place < length (setup_in table).writers → IsLeft table homes place seat count → IsTold (length heard.looks) desk place seat
    → ((i : ℕ) (tale : Tale) → At desk.told i tale → IsWholeTale (setup_in table) heard tale → length tale.begun ≤
    (taken_of settled tale.place).count)
    → ((other : ℕ) → (taken_of settled other).count ≤ (taken_of view other).count)
    → IsEnded table view place seat count
settled_seat table homes heard settled view desk place seat count inside left told taken rises =
    let all = taken told.number told.tale told.told (whole_tale table homes heard desk place seat count inside left told) in
    let here : length (known_by seat).begun ≤ (taken_of settled place).count =
    subst (λ (begun : List BegunChunk). length begun ≤ (taken_of settled place).count) told.begun_is
    (subst (λ (p : ℕ). length told.tale.begun ≤ (taken_of settled p).count) told.place_is all) in
    let rise = rises place in
    record {
      sits = left.sits;
      place_is = left.place_is;
      between = left.between;
      none_held = left.none_held;
      taken = omega (arith, here, rise);
      counts = left.counts;
    }
