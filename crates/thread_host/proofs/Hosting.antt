-- The service and the writers of a host, as a run names them and as it leaves them.
use Rattle.std.proofs.Common.{◌≡◌, ◌∙◌, ℕ, ◌+◌, ◌-◌, ◌<◌, ◌≤◌, Option, Some, None, List, [], ◌∷◌, ◌++◌, length, length-append, take, drop, sym, subst, arith}
use Rattle.std.specs.Prelude.{IsSomeAnd, slice_index_or}
use native.Mathlib.Decide.{dec_lt}
use mathlib.Core.Logic.{dite}
use Rattle.std.proofs.Math.Seq.{take-append_seam, get_or-append_right}
use Rattle.std.proofs.lemmas.List.{get_or_append_left}
use Rattle.std.proofs.lemmas.Option.{slice_get-get_or, slice_get_within, get_or_from_slice_get}
use Rattle.trace_model.specs.Calls.{Flushed}
use Rattle.chunk_plain.specs.Setup.{Setup}
use Rattle.chunk_words.specs.declared.host.HostTable.{HostTable}
use Rattle.chunk_words.specs.Named.{identity_of}
use Rattle.chunk_words.specs.Seats.{Waits}
use Rattle.chunk_words.specs.Sits.{setup_in}
use Rattle.scenario_text.specs.declared.scenario.NumberedLine.{NumberedLine}
use Rattle.service_core.specs.Agreement.{ServiceAgrees}
use Rattle.service_core.specs.Scraping.{TakesAndScrapes}
use Rattle.service_core.specs.Taking.{Takes, places_of}
use Rattle.service_core.proofs.AnswerLemmas.{takes_own}
use Rattle.replay_host.proofs.ScrapedLemmas.{scrapes_own}
use Rattle.thread_service.specs.declared.service.Service.{Service}
use Rattle.thread_service.specs.Serving as serving
use Rattle.thread_service.specs.Serving.{Serves}
use Rattle.thread_writer.specs.declared.writer.TraceWriter.{TraceWriter}
use Rattle.thread_host.specs.Hosts.{IsReady, HasPlayed, AreReady, AreReadyFrom, HavePlayed, HavePlayedFrom}
use Rattle.thread_host.specs.Keeping.{HasOwn, ServesNamed}

-- a service serves by what the table's seats know of it
pub serves_named : (table : HostTable) (service : Service) → Serves table service → ServesNamed (identity_of table) (setup_in table) service
serves_named table service serves other named = record {
  attends = record {
    joined = serves.attends.joined ∙ sym named.identity;
    waits = subst (λ (s : Setup). Waits s service.core.seat.seat.me) (sym named.setup_is) serves.attends.waits;
  };
  agrees = subst (λ (s : Setup). ServiceAgrees s (serving.view_in service) service.core) (sym named.setup_is) serves.agrees;
  asked = serves.asked;
}

-- no image comes by a commit where chunks are taken
pub collect_own : (setup : Setup) (producer taken : ℕ) (old new : Service)
    → Takes setup (places_of producer 0 setup.writers) taken (serving.view_in old) (serving.view_in new) → HasOwn old → HasOwn new
collect_own setup producer taken old new takes own =
    takes_own setup (places_of producer 0 setup.writers) taken (serving.view_in old) (serving.view_in new) takes ∙ own

pub scrape_own : (setup : Setup) (producer taken : ℕ) (old new : Service)
    → TakesAndScrapes setup producer taken (serving.view_in old) (serving.view_in new) → HasOwn old → HasOwn new
scrape_own setup producer taken old new scrapes own = scrapes_own setup producer taken (serving.view_in old) (serving.view_in new) scrapes ∙ own

-- writers by their place
none_before : (place : ℕ) → 0 + place ≡ place
none_before place = omega arith

pub ready_from : (lines : List NumberedLine) (table : HostTable) (writers : List TraceWriter) → AreReady lines table writers
    → AreReadyFrom lines table 0 writers
ready_from lines table writers ready =
    let few = table.few_writers in
    let many = ready.many in
    record {
      room = omega (arith, few, many);
      each = λ place any below.
          subst (λ (at : ℕ). IsReady lines table at (slice_index_or writers place any)) (sym (none_before place))
          (ready.each place (slice_index_or writers place any) (slice_get-get_or writers place any below));
    }

pub all_played : (lines : List NumberedLine) (table : HostTable) (old new : List TraceWriter) → length old ≡ length (setup_in table).writers
    → HavePlayedFrom lines table 0 old new → HavePlayed lines (Flushed ∷ []) table new
all_played lines table old new many played = record {
  many = played.many ∙ many;
  each = λ place writer there.
      subst (HasPlayed lines (Flushed ∷ []) table place) (get_or_from_slice_get new place writer writer there)
      (subst (λ (at : ℕ). HasPlayed lines (Flushed ∷ []) table at (slice_index_or new place writer)) (none_before place)
      (played.each place writer (subst (λ (count : ℕ). place < count) played.many (slice_get_within new place writer there))));
}

-- and so have the writers of two lists, one behind the other, which begin at such places
pub both_played : (lines : List NumberedLine) (table : HostTable) (from behind : ℕ) (firsts rests first rest : List TraceWriter) → behind ≡ from + length firsts
    → HavePlayedFrom lines table from firsts first → HavePlayedFrom lines table behind rests rest
    → HavePlayedFrom lines table from (firsts ++ rests) (first ++ rest)
both_played lines table from behind firsts rests first rest at one two =
    let before = length-append firsts rests in let after = length-append first rest in
    let front = one.many in let back = two.many in
    record {
      many = omega (arith, before, after, front, back);
      each = λ index any below. dite (dec_lt index (length first))
          (λ inside. subst (HasPlayed lines (Flushed ∷ []) table (from + index)) (sym (get_or_append_left first rest any index inside))
          (one.each index any (omega (arith, inside, front))))
          (λ outside.
          let beyond : length first ≤ index = omega (arith, outside) in
          let place : behind + (index - length first) ≡ from + index = omega (arith, at, front, beyond) in
          subst (HasPlayed lines (Flushed ∷ []) table (from + index)) (sym (get_or-append_right first rest index any beyond))
          (subst (λ (n : ℕ). HasPlayed lines (Flushed ∷ []) table n (slice_index_or rest (index - length first) any)) place
          (two.each (index - length first) any (omega (arith, below, before, front, beyond)))));
    }

-- ---- what is away for a while

-- what is held of the one that is there
pub held_of : {A : Type 0} (P : A → Type 0) (o : Option A) (one : A) → IsSomeAnd o P → o ≡ Some one → P one
held_of P o one holds is = subst (λ other. IsSomeAnd other P) is holds

pub never_none : {A : Type 0} (P : A → Type 0) (o : Option A) → IsSomeAnd o P → o ≡ None → ⊥
never_none P o holds is = subst (λ other. IsSomeAnd other P) is holds

-- what a slice of the whole list was lent for comes back as the list
pub given_back : {A : Type 0} (new old : List A) (n : ℕ) → length new ≡ n → take n (new ++ drop (length new) old) ≡ new
given_back new old n many = subst (λ count. take count (new ++ drop (length new) old) ≡ new) many (take-append_seam new (drop (length new) old))
