-- Calls asked one behind another.
use Rattle.std.proofs.Common.{◌≡◌, ◌∙◌, ℕ, ◌-◌, ◌<◌, ◌==◌, Bool, true, false, List, [], ◌∷◌, ◌++◌, length, get_or, refl, sym, ap, subst, append_assoc, append-nil, arith, cond}
use Rattle.std.specs.Prelude.{slice_index_or}
use Rattle.std.proofs.lemmas.List.{map-append}
use Rattle.std.proofs.lemmas.Option.{slice_get-get_or, slice_get_within, same_Some}
use Rattle.trace_model.specs.Buffers.{Buffer}
use Rattle.trace_model.specs.Calls.{Call}
use Rattle.model_laws.specs.Losses.{Loses}
use Rattle.chunk_plain.specs.Meaning.{Meaning}
use Rattle.chunk_plain.specs.Setup.{Setup, HasProducer, producer_of, ProducersAreApart}
use Rattle.chunk_plain.specs.Views.{WriterView}
use Rattle.trace_writer.specs.declared.writer.WriterCore.{WriterCore}
use Rattle.replay_model.specs.Acts.{Act, Ask, asks}
use Rattle.replay_model.specs.ActNotes.{ActNote}
use Rattle.replay_model.specs.Plays.{Plays}
use Rattle.replay_model.proofs.PlayLemmas.{plays_one, plays_both}
use Rattle.replay_host.specs.declared.host.Host.{Host}
use Rattle.replay_host.specs.Asking.{IsReadyFor, AreReady, KeepsService, DoesAsk}
use Rattle.service_core.specs.Agreement.{is_closed}
use Rattle.replay_host.specs.Playing.{IsHost, HasPlayed, HasAsked, KeepsBooks, asked_all}
use Rattle.replay_host.specs.Standing.{Stands}
use Rattle.world_model.specs.FirstBuffers.{payload_at}
use Rattle.replay_host.proofs.KeepLemmas.{keeps_nothing, keeps_each}
use Rattle.replay_host.proofs.RowLemmas.{AreLaws}

-- ---- what was played

pub played_none : {T W S : Type 0} (means : Meaning T W S) (buffers : List Buffer) (table : T) → HasPlayed means buffers [] table table []
played_none means buffers table was told = (was, told, (refl, refl))

pub played_both : {T W S : Type 0} (means : Meaning T W S) (buffers : List Buffer) (acts others : List Act) (old mid new : T) (notes more : List ActNote)
    → means.setup mid ≡ means.setup old → HasPlayed means buffers acts old mid notes → HasPlayed means buffers others mid new more
    → HasPlayed means buffers (acts ++ others) old new (notes ++ more)
played_both means buffers acts others old mid new notes more same first second was told =
    let middle = first was told in
    let last = second middle.0 middle.1 in (
      last.0,
      last.1,
      plays_both (means.setup old) buffers acts others was middle.0 last.0 notes more middle.2
          (subst (λ (s : Setup). Plays s buffers others middle.0 last.0 more) same last.2),
    )

pub played_ask : {T W S : Type 0} (means : Meaning T W S) → AreLaws means → (buffers : List Buffer) (place : ℕ) (call : Call) (old new : T)
    → DoesAsk means place call old new → HasPlayed means buffers (Ask place call ∷ []) old new []
played_ask means laws buffers place call old new does was told =
    let one = does was told in
    (one.0, one.1, plays_one (means.setup old) buffers (Ask place call) was one.0 one.2 (laws.told_owned new one.0 one.1))

-- ---- what comes next

-- two lists of calls in one
all_both : (b : Bool) (xs ys coming : List Call) → cond b ((xs ++ ys) ++ coming) coming ≡ cond b (xs ++ cond b (ys ++ coming) coming) (cond b (ys ++ coming) coming)
all_both true xs ys coming = append_assoc xs ys coming
all_both false xs ys coming = refl

all_none : (b : Bool) (coming : List Call) → cond b ([] ++ coming) coming ≡ coming
all_none true coming = refl
all_none false coming = refl

pub ready_both : {T W S : Type 0} (means : Meaning T W S) (table : T) (cores : List (WriterCore W)) (place : ℕ) (xs ys : List Call) (coming : ℕ → List Call)
    → AreReady means table cores (asked_all place (xs ++ ys) coming) → AreReady means table cores (asked_all place xs (asked_all place ys coming))
ready_both means table cores place xs ys coming ready other core at =
    subst (λ (calls : List Call). IsReadyFor (payload_at (means.setup table) other) (means.view table core.seat) calls) (all_both (other == place) xs ys (coming other)) (ready other core at)

pub ready_none : {T W S : Type 0} (means : Meaning T W S) (table : T) (cores : List (WriterCore W)) (place : ℕ) (coming : ℕ → List Call)
    → AreReady means table cores (asked_all place [] coming) → AreReady means table cores coming
ready_none means table cores place coming ready other core at =
    subst (λ (calls : List Call). IsReadyFor (payload_at (means.setup table) other) (means.view table core.seat) calls) (all_none (other == place) (coming other)) (ready other core at)

-- ---- one writer's calls

pub asked_none : {T W S : Type 0} (means : Meaning T W S) (place : ℕ) (host : Host T W S) → HasAsked means place [] host host
asked_none means place host = record {
  service = keeps_nothing means host.table host.helper.service;
  books = record { flushes = refl; specs = refl; opened = refl };
  ready = λ coming ready. ready_none means host.table host.writers.items place coming ready;
  plays = λ buffers. played_none means buffers host.table;
  many = refl;
  own = λ was is before behind asked loses.
      subst (λ (cs : List Call). Loses cs (means.view host.table is.seat).calls) (sym (append-nil asked))
      (subst (λ (c : WriterCore _). Loses asked (means.view host.table c.seat).calls) (same_Some was is (sym before ∙ behind)) loses);
  others = λ other was is apart before behind. ap (λ (c : WriterCore _). (means.view host.table c.seat).calls) (same_Some _ _ (sym behind ∙ before));
}

pub asked_both : {T W S : Type 0} (means : Meaning T W S) (place : ℕ) (xs ys : List Call) (old mid new : Host T W S)
    → HasAsked means place xs old mid → HasAsked means place ys mid new → HasAsked means place (xs ++ ys) old new
asked_both {T} {W} {S} means place xs ys old mid new first second = record {
  service = keeps_each means old.table mid.table new.table old.helper.service mid.helper.service new.helper.service first.service second.service;
  books = record {
    flushes = second.books.flushes ∙ first.books.flushes;
    specs = second.books.specs ∙ first.books.specs;
    opened = second.books.opened ∙ first.books.opened;
  };
  ready = λ coming ready. second.ready coming (first.ready (asked_all place ys coming) (ready_both means old.table old.writers.items place xs ys coming ready));
  plays = λ buffers. subst (λ (acts : List Act). HasPlayed means buffers acts old.table new.table []) (sym (map-append (Ask place) xs ys))
      (played_both means buffers (asks place xs) (asks place ys) old.table mid.table new.table [] [] first.service.setup_is (first.plays buffers) (second.plays buffers));
  many = second.many ∙ first.many;
  own = λ was is before behind asked loses.
      let inside = slice_get_within old.writers.items place was before in
      let more = first.many in
      let there : place < length mid.writers.items = omega (arith, inside, more) in
      let middle : WriterCore W = get_or mid.writers.items place was in
      let at = slice_get-get_or mid.writers.items place was there in
      subst (λ (cs : List Call). Loses cs (means.view new.table is.seat).calls) (append_assoc asked xs ys)
      (second.own middle is at behind (asked ++ xs) (first.own was middle before at asked loses));
  others = λ other was is apart before behind.
      let inside = slice_get_within old.writers.items other was before in
      let more = first.many in
      let there : other < length mid.writers.items = omega (arith, inside, more) in
      let middle : WriterCore W = get_or mid.writers.items other was in
      let at = slice_get-get_or mid.writers.items other was there in
      second.others other middle is apart at behind ∙ first.others other was middle apart before at;
}

-- ---- the host

-- where the writers and the service stand, and the service has closed nothing, what is kept of the set-up is right still
pub host_still : {T W S : Type 0} (means : Meaning T W S) (old new : Host T W S) → IsHost means old → Stands means new.table new.writers.items new.helper.service
    → KeepsService means old.table old.helper.service new.table new.helper.service → KeepsBooks old new → IsHost means new
host_still {T} {W} {S} means old new host stands kept books = record {
  stands = stands;
  apart = subst ProducersAreApart (sym kept.setup_is) host.apart;
  specs = ap (λ (v : _). v.items) books.specs ∙ host.specs ∙ ap (λ (s : Setup). s.writers) (sym kept.setup_is);
  producers = ap (λ (v : _). length v.items) books.opened ∙ host.producers ∙ ap (λ (s : Setup). length s.ranges) (sym kept.setup_is);
  opened = λ producer has said place below of_producer.
      let was : HasProducer (means.setup old.table) producer = subst (λ (s : Setup). HasProducer s producer) kept.setup_is has in
      let flag : slice_index_or old.open_producers.items (producer - 1) false ≡ true = ap (λ (v : _). slice_index_or v.items (producer - 1) false) (sym books.opened) ∙ said in
      let here : place < length (means.setup old.table).writers = subst (λ (s : Setup). place < length s.writers) kept.setup_is below in
      let mine : producer_of (means.setup old.table) place ≡ producer = ap (λ (s : Setup). producer_of s place) (sym kept.setup_is) ∙ of_producer in
      ap (λ (s : Setup). is_closed s new.helper.service place) kept.setup_is ∙ kept.keeps.closed place here ∙ host.opened producer was flag place here mine;
}

-- the call that comes next
pub call_next : (b : Bool) (size : ℕ) (view : WriterView) (call : Call) (coming : List Call) → b ≡ true
    → IsReadyFor size view (cond b ((call ∷ []) ++ coming) coming) → IsReadyFor size view (call ∷ coming)
call_next b size view call coming is ready = subst (λ (x : Bool). IsReadyFor size view (cond x (call ∷ coming) coming)) is ready

-- of several calls, the first one, where the choice is made
pub ready_own : (b : Bool) (size : ℕ) (view : WriterView) (call : Call) (calls coming : List Call)
    → IsReadyFor size view (cond b ((call ∷ calls) ++ coming) coming) → b ≡ true → IsReadyFor size view (call ∷ (calls ++ coming))
ready_own b size view call calls coming ready is = subst (λ (x : Bool). IsReadyFor size view (cond x (call ∷ (calls ++ coming)) coming)) is ready
