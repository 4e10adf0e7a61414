-- What a writer had cut when it flushed stays cut so, whatever is done later.
use Rattle.std.proofs.Common.{◌≡◌, ◌∙◌, ℕ, zero, suc, ◌+◌, ◌<◌, ◌⊎◌, inl, inr, Bool, true, false, List, [], ◌∷◌, ◌++◌, length, drop, get_or, Some, refl, sym, ap, subst, arith, append_assoc, length-append}
use Rattle.std.specs.Prelude.{slice_get, MatchBool}
use Rattle.std.proofs.lemmas.Bool.{cases_eq}
use Rattle.std.proofs.lemmas.Option.{slice_get_within, same_Some}
use Rattle.trace_model.specs.Buffers.{Buffer}
use Rattle.trace_model.specs.Calls.{Call, Flushed}
use Rattle.trace_model.specs.Cut.{CutsInto}
use Rattle.trace_model.specs.Images.{Image}
use Rattle.trace_model.specs.Packets.{Packet, packets_of, is_writing}
use Rattle.trace_model.specs.Pages.{Page}
use Rattle.trace_model.proofs.PageLemmas.{images_long}
use Rattle.delivery_laws.specs.FlushLaws.{IsFlushed}
use Rattle.delivery_laws.proofs.CompleteLemmas.{full_at}
use Rattle.delivery_laws.proofs.WrittenPackets.{are_full}
use Rattle.chunk_plain.specs.Plain.{first_world}
use Rattle.chunk_plain.specs.Setup.{Setup, sequence_of}
use Rattle.chunk_plain.specs.Views.{At, BegunChunk, Held, Completed, Content, WriterView, newcomer}
use Rattle.chunk_plain.specs.World.{World, writer}
use Rattle.chunk_plain.specs.Owned.{IsOwned, held_count}
use Rattle.chunk_plain.specs.Histories.{completed_images}
use Rattle.chunk_plain.proofs.MadeLemmas.{first_owned}
use Rattle.world_model.specs.FirstBuffers.{payload_at}
use Rattle.world_model.proofs.OwnLemmas.{page_of}
use Rattle.replay_model.specs.Acts.{Act, Ask, Request, Answer, Collect, Scrape, CloseProducer, ReadAll, CommitRaw}
use Rattle.trace_writer.specs.Answered.{KeepsCompleted}
use Rattle.trace_writer.proofs.holding.Answering.{keeps_on}
use Rattle.replay_model.specs.Does.{Does, Asks, Wrote}
use Rattle.replay_model.specs.ActNotes.{ActNote}
use Rattle.replay_model.specs.FlushLaws.{EveryFlushStaysCut}
use Rattle.replay_model.specs.Played.{buffers_of}
use Rattle.replay_model.specs.Plays.{Plays}
use Rattle.replay_model.proofs.AccountLemmas.{has_written}
use Rattle.replay_model.proofs.EndLemmas.{flush_done}
use Rattle.replay_model.proofs.FirstLemmas.{small_payload, first_stands}
use Rattle.replay_model.proofs.OwnedLemmas.{owned_itself, named}
use Rattle.replay_model.proofs.PageLemmas.{pages_same, begins_as}
use Rattle.replay_model.proofs.PlayedLemmas.{plays_stand}
use Rattle.replay_model.proofs.PlayedOnLemmas.{HasMore, flush_calls, flush_packets, plays_more}
use Rattle.replay_model.proofs.ScrapedLemmas.{counted}
use Rattle.replay_model.proofs.StandsLemmas.{Stands, stands_does, works_others}

-- ---- chunks that were completed

keeps_view : (old new : WriterView) → new ≡ old → KeepsCompleted old.begun new.begun
keeps_view old new same id chunk content at = subst (λ (v : WriterView). At v.begun id (Completed chunk content)) (sym same) at

keeps_writers : (old new : World) (p : ℕ) → new.writers ≡ old.writers → KeepsCompleted (writer old p).begun (writer new p).begun
keeps_writers old new p same = keeps_view (writer old p) (writer new p) (ap (λ (ws : List WriterView). get_or ws p newcomer) same)

asks_keeps : (setup : Setup) (place p : ℕ) (call : Call) (old new : World) → Asks setup place call old new → KeepsCompleted (writer old p).begun (writer new p).begun
asks_keeps setup place p call old new asks = by_place (cases_eq p place)
  where
    by_place : (p ≡ place) ⊎ (p ≡ place → ⊥) → KeepsCompleted (writer old p).begun (writer new p).begun
    by_place (inl same) = subst (λ (n : ℕ). KeepsCompleted (writer old n).begun (writer new n).begun) (sym same) asks.keeps
    by_place (inr differs) = keeps_view (writer old p) (writer new p) (works_others setup place old new asks.works p differs)

answer_keeps : (setup : Setup) (place p : ℕ) (old new : World) (b : Bool) → MatchBool b (new ≡ old) (Asks setup place Flushed old new)
    → KeepsCompleted (writer old p).begun (writer new p).begun
answer_keeps setup place p old new true same = keeps_writers old new p (ap (λ (w : World). w.writers) same)
answer_keeps setup place p old new false asks = asks_keeps setup place p Flushed old new asks

does_keeps : (setup : Setup) (buffers : List Buffer) (act : Act) (old new : World) (p : ℕ) → Does setup buffers act old new
    → KeepsCompleted (writer old p).begun (writer new p).begun
does_keeps setup buffers (Ask place call) old new p does = asks_keeps setup place p call old new does
does_keeps setup buffers Request old new p does = keeps_writers old new p (ap (λ (w : World). w.writers) does)
does_keeps setup buffers (Answer place) old new p does = answer_keeps setup place p old new (is_writing (packets_of (writer old place).calls)) does
does_keeps setup buffers (Collect producer) old new p does = keeps_writers old new p does.writers
does_keeps setup buffers (Scrape producer) old new p does = keeps_writers old new p does.writers
does_keeps setup buffers (CloseProducer producer) old new p does = keeps_writers old new p does.writers
does_keeps setup buffers (ReadAll buffer limit) old new p does = keeps_writers old new p does.writers
does_keeps setup buffers (CommitRaw place chunk) old new p does = keeps_writers old new p does.writers

-- whatever is done, completed chunks have what they had
pub plays_keeps : (setup : Setup) (buffers : List Buffer) (acts : List Act) (old new : World) (notes : List ActNote) (p : ℕ) → Plays setup buffers acts old new notes
    → KeepsCompleted (writer old p).begun (writer new p).begun
plays_keeps setup buffers [] old new notes p plays = keeps_writers old new p (ap (λ (w : World). w.writers) plays.0)
plays_keeps setup buffers (act ∷ acts) old new notes p plays =
    keeps_on (writer old p).begun (writer plays.0 p).begun (writer new p).begun (does_keeps setup buffers act old plays.0 p plays.2)
    (plays_keeps setup buffers acts plays.0 new plays.1 p plays.5)

-- a read changes no writer
pub read_keeps : (setup : Setup) (buffers : List Buffer) (buffer limit : ℕ) (old new : World) (p : ℕ) → Does setup buffers (ReadAll buffer limit) old new
    → KeepsCompleted (writer old p).begun (writer new p).begun
read_keeps setup buffers buffer limit old new p does = keeps_writers old new p does.writers

-- where none is held, each chunk is completed
pub completed_at : (begun : List BegunChunk) → held_count begun ≡ 0 → (i : ℕ) → i < length begun → (chunk : ℕ) × (content : Content) × At begun i (Completed chunk content)
completed_at [] none i low = absurd (omega (arith, low))
completed_at (Held chunk draft ∷ begun) none i low = absurd (omega (arith, none))
completed_at (Completed chunk content ∷ begun) none zero low = (chunk, content, refl)
completed_at (Completed chunk content ∷ begun) none (suc i) low = completed_at begun none i (omega (arith, low))

-- ---- pages

-- What a flush left, seen from a later world of which it is known that the writer has still what it had completed and noted.
module _ (setup : Setup) (place : ℕ) (asked answered last : World) (answers : Asks setup place Flushed asked answered) (owned_then : ∥ IsOwned answered ∥₁)
    (now : Wrote setup place (writer last place)) (owned_now : ∥ IsOwned last ∥₁)
    (keeps : KeepsCompleted (writer answered place).begun (writer last place).begun)
    (calls_on : HasMore (writer answered place).calls (writer last place).calls) where
  abbrev size : ℕ
  size = payload_at setup place

  abbrev before : List Call
  before = (writer asked place).calls

  abbrev then : Wrote setup place (writer answered place)
  then = answers.wrote

  abbrev pages_then : List Page
  pages_then = answers.wrote.cut.cut.pages

  abbrev pages_now : List Page
  pages_now = now.cut.cut.pages

  calls_then : (writer answered place).calls ≡ before ++ Flushed ∷ []
  calls_then = flush_calls setup place asked answered answers

  calls_now : (writer last place).calls ≡ before ++ Flushed ∷ calls_on.0
  calls_now = calls_on.1 ∙ ap (λ (cs : List Call). cs ++ calls_on.0) calls_then ∙ append_assoc before (Flushed ∷ []) calls_on.0

  cut_then : CutsInto size (packets_of before) pages_then
  cut_then =
      subst (λ (ps : List Packet). CutsInto size ps pages_then) (ap packets_of calls_then ∙ flush_packets before) then.cut.cut.cut

  pub many_then : length (completed_images (writer answered place).begun) ≡ length (answers.wrote.cut.cut.pages)
  many_then =
      let none = flush_done setup place asked answered answers in
      let all = counted (writer answered place).begun in
      let begun = then.begun in
      let images = ap (λ (xs : List Image). length xs) then.cut.cut.images_are in
      let both = length-append (completed_images (writer answered place).begun) then.held in
      let long = images_long (sequence_of place) 0 pages_then in
      omega (arith, none, all, begun, images, both, long)

  page_stays : (i : ℕ) (page : Page) → slice_get pages_then i ≡ Some page → slice_get pages_now i ≡ Some page
  page_stays i page get =
      let low = slice_get_within pages_then i page get in
      let many = many_then in
      let all = counted (writer answered place).begun in
      let entry = completed_at (writer answered place).begun (flush_done setup place asked answered answers) i (omega (arith, low, many, all)) in
      let own = page_of size place i entry.0 (writer answered place) then.held then.cut entry.1 entry.2
      (named answered (owned_itself answered owned_then) place i entry.0 entry.1 entry.2) in
      let there = keeps i entry.0 entry.1 entry.2 in
      let later = page_of size place i entry.0 (writer last place) now.held now.cut entry.1 there (named last (owned_itself last owned_now) place i entry.0 entry.1 there) in
      let first : own.page ≡ page = same_Some own.page page (sym own.get ∙ get) in
      let same : later.page ≡ own.page =
      pages_same size (place + 2) i later.page own.page now.cut.small
      (full_at size pages_now i later.page (are_full size pages_now now.cut.cut.cut.full) later.get)
      (full_at size pages_then i own.page (are_full size pages_then then.cut.cut.cut.full) own.get)
      (sym later.image ∙ own.image) (sym later.patches ∙ own.patches) in
      later.get ∙ ap (λ (p : Page). Some p) (same ∙ first)

  pub is_flushed : IsFlushed (payload_at setup place) (writer last place).calls now.cut.cut.pages (writer asked place).calls answers.wrote.cut.cut.pages
  is_flushed = record {
    behind = calls_on.0;
    calls_are = calls_now;
    more = drop (length pages_then) pages_now;
    pages_are = begins_as pages_then pages_now page_stays;
    cut = cut_then;
  }

pub every_flush_stays_cut : EveryFlushStaysCut
every_flush_stays_cut scenario setup is_setup acts later asked answered last notes more plays place inside answers owned on =
    let buffers : List Buffer = buffers_of scenario setup in
    let stood = plays_stand setup buffers acts (first_world setup) asked notes plays (first_stands setup (small_payload scenario setup is_setup)) ∣ first_owned setup ∣₁ in
    let then : Stands setup answered = stands_does setup buffers (Ask place Flushed) asked answered answers owned stood.0 in
    let now = plays_stand setup buffers later answered last more on then owned in
    let keeps = plays_keeps setup buffers later answered last more place on in
    let calls_on = plays_more setup buffers later answered last more place on in
    record {
      wrote = has_written setup last now.1 place (now.0.wrote place inside);
      pages = answers.wrote.cut.cut.pages;
      count_is = sym (many_then setup place asked answered last answers owned (now.0.wrote place inside) now.1 keeps calls_on);
      flushed = is_flushed setup place asked answered last answers owned (now.0.wrote place inside) now.1 keeps calls_on;
    }
