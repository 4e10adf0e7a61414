-- What writers have written and the service has noted stays as it should, act by act.
use Rattle.std.proofs.Common.{◌≡◌, ◌≢◌, ◌∙◌, ℕ, ◌+◌, ◌<◌, ◌⊎◌, Bool, true, false, List, length, get_or, sym, ap, subst, inl, inr, cond}
use Rattle.std.specs.Prelude.{◌==◌, MatchBool}
use Rattle.std.proofs.lemmas.Bool.{cases_eq}
use Rattle.trace_model.specs.Buffers.{Buffer}
use Rattle.trace_model.specs.Calls.{Call, Flushed}
use Rattle.trace_model.specs.History.{buffers_after}
use Rattle.trace_model.specs.Packets.{packets_of, is_writing}
use Rattle.chunk_plain.specs.Setup.{Setup}
use Rattle.chunk_plain.specs.Steps.{notes_commit}
use Rattle.chunk_plain.specs.Views.{ServiceView, WriterView, newcomer}
use Rattle.chunk_plain.specs.World.{World, writer}
use Rattle.chunk_plain.specs.Histories.{history_of}
use Rattle.chunk_plain.specs.Owned.{IsOwned}
use Rattle.service_core.specs.Agreement.{buffer_of}
use Rattle.service_core.specs.Reading.{reads_in}
use Rattle.service_core.specs.Taking.{places_of}
use Rattle.replay_model.specs.Acts.{Act, Ask, Request, Answer, Collect, Scrape, CloseProducer, ReadAll, CommitRaw}
use Rattle.replay_model.specs.Does.{Does, LeavesRest, Collects, Closes, Tries, Gains, Again, Ends, Works, Alone, Helped, Tried, Lost, Asks, Wrote, AreOpen}
use Rattle.replay_model.specs.Raws.{raw_commit}
use Rattle.replay_model.proofs.SortedLemmas.{IsSorted, sorted_takes, sorted_closes, sorted_reads, sorted_committed, open_places_fit}
use Rattle.replay_model.proofs.ScrapedLemmas.{sorted_scrapes}

pub sorted_collects : (setup : Setup) (producer : ℕ) (old new : World) → IsSorted setup old.service → Collects setup producer old new → IsSorted setup new.service
sorted_collects setup producer old new sorted collects =
    (sorted_takes setup (places_of producer 0 setup.writers) collects.taken old.service new.service sorted (open_places_fit setup producer old.service collects.opened) collects.takes).0

sorted_closed : (setup : Setup) (producer : ℕ) (old new : World) → IsSorted setup old.service → Closes setup producer old new → IsSorted setup new.service
sorted_closed setup producer old new sorted closes =
    let between : ServiceView = closes.closes.between in
    let mid = sorted_takes setup (places_of producer 0 setup.writers) closes.taken old.service between sorted (open_places_fit setup producer old.service closes.opened) closes.closes.takes in
    let opened : AreOpen setup producer between = λ place inside mine. mid.1 (place + 2) ∙ closes.opened place inside mine in
    subst (IsSorted setup) (sym closes.closes.view) (sorted_closes setup producer between mid.0 opened)

-- a taking leaves all writers
taken_others : (setup : Setup) (producer : ℕ) (old new : World) → Collects setup producer old new → (other : ℕ) → writer new other ≡ writer old other
taken_others setup producer old new collects other = ap (λ (ws : List WriterView). get_or ws other newcomer) collects.writers

-- a writer's work leaves the other writers, and the notes in order
tries_others : (setup : Setup) (place : ℕ) {call : Call} {left : ℕ} {stopped : Bool} (old new : World) → Tries setup place call left stopped old new → (other : ℕ) → other ≢ place
    → writer new other ≡ writer old other
tries_others setup place old new (Gains left chunk _ _ leaves claims) other differs = leaves.writers other differs
tries_others setup place old new (Again left stopped _ asking freed _ round vain holds collects owned rest) other differs =
    tries_others setup place freed new rest other differs ∙ taken_others setup _ asking freed collects other ∙ round.leaves.writers other differs
tries_others setup place old new (Ends _ _ round vain) other differs = round.leaves.writers other differs

pub works_others : (setup : Setup) (place : ℕ) {call : Call} {stopped : Bool} (old new : World) → Works setup place call stopped old new → (other : ℕ) → other ≢ place
    → writer new other ≡ writer old other
works_others setup place old new (Alone _ _ leaves) other differs = leaves.writers other differs
works_others setup place old new (Helped stopped _ before asking freed _ may stalls leaves round out collects owned some rest) other differs =
    works_others setup place freed new rest other differs ∙ taken_others setup _ asking freed collects other
    ∙ round.leaves.writers other differs ∙ leaves.writers other differs
works_others setup place old new (Tried stopped _ before gained _ tries may policy leaves tried rest) other differs =
    works_others setup place gained new rest other differs ∙ tries_others setup place before gained tried other differs ∙ leaves.writers other differs
works_others setup place old new (Lost _ before last _ may losing leaves tried ends asked) other differs =
    ends.writers other differs ∙ tries_others setup place before last tried other differs ∙ leaves.writers other differs

pub own_sorted : (setup : Setup) {place : ℕ} (old new : World) → LeavesRest place old new → IsSorted setup old.service → IsSorted setup new.service
own_sorted setup old new leaves sorted = subst (IsSorted setup) (sym leaves.service) sorted

pub tries_sorted : (setup : Setup) (place : ℕ) {call : Call} {left : ℕ} {stopped : Bool} (old new : World) → Tries setup place call left stopped old new → IsSorted setup old.service
    → IsSorted setup new.service
tries_sorted setup place old new (Gains left chunk _ _ leaves claims) sorted = own_sorted setup old new leaves sorted
tries_sorted setup place old new (Again left stopped _ asking freed _ round vain holds collects owned rest) sorted =
    tries_sorted setup place freed new rest (sorted_collects setup _ asking freed (own_sorted setup old asking round.leaves sorted) collects)
tries_sorted setup place old new (Ends _ _ round vain) sorted = own_sorted setup old new round.leaves sorted

pub works_sorted : (setup : Setup) (place : ℕ) {call : Call} {stopped : Bool} (old new : World) → Works setup place call stopped old new → IsSorted setup old.service
    → IsSorted setup new.service
works_sorted setup place old new (Alone _ _ leaves) sorted = own_sorted setup old new leaves sorted
works_sorted setup place old new (Helped stopped _ before asking freed _ may stalls leaves round out collects owned some rest) sorted =
    works_sorted setup place freed new rest
    (sorted_collects setup _ asking freed (own_sorted setup before asking round.leaves (own_sorted setup old before leaves sorted)) collects)
works_sorted setup place old new (Tried stopped _ before gained _ tries may policy leaves tried rest) sorted =
    works_sorted setup place gained new rest (tries_sorted setup place before gained tried (own_sorted setup old before leaves sorted))
works_sorted setup place old new (Lost _ before last _ may losing leaves tried ends asked) sorted =
    own_sorted setup last new ends (tries_sorted setup place before last tried (own_sorted setup old before leaves sorted))

-- Each writer has written what it was asked for, and the notes on each sequence are in order.
pub record Stands (setup : Setup) (world : World) : Type 0 where
  pub sorted : IsSorted setup world.service
  pub wrote : (place : ℕ) → place < length setup.writers → Wrote setup place (writer world place)

same_writers : (setup : Setup) (old new : World) → new.writers ≡ old.writers → ((place : ℕ) → place < length setup.writers → Wrote setup place (writer old place))
    → (place : ℕ) → place < length setup.writers → Wrote setup place (writer new place)
same_writers setup old new is wrote place inside =
    subst (Wrote setup place) (sym (ap (λ (ws : List WriterView). get_or ws place newcomer) is)) (wrote place inside)

stands_asks : (setup : Setup) (place : ℕ) (call : Call) (old new : World) → Asks setup place call old new → Stands setup old → Stands setup new
stands_asks setup place call old new asks stands = record {
  sorted = works_sorted setup place old new asks.works stands.sorted;
  wrote = λ other inside. by_place other inside (cases_eq other place);
}
  where
    by_place : (other : ℕ) → other < length setup.writers → (other ≡ place) ⊎ (other ≡ place → ⊥) → Wrote setup other (writer new other)
    by_place other inside (inl same) = subst (λ (p : ℕ). Wrote setup p (writer new p)) (sym same) asks.wrote
    by_place other inside (inr differs) = subst (Wrote setup other) (sym (works_others setup place old new asks.works other differs)) (stands.wrote other inside)

stands_answer : (setup : Setup) (place : ℕ) (old new : World) (b : Bool) → MatchBool b (new ≡ old) (Asks setup place Flushed old new) → Stands setup old → Stands setup new
stands_answer setup place old new true same stands = subst (Stands setup) (sym same) stands
stands_answer setup place old new false asks stands = stands_asks setup place Flushed old new asks stands

pub stands_does : (setup : Setup) (buffers : List Buffer) (act : Act) (old new : World) → Does setup buffers act old new → ∥ IsOwned new ∥₁ → Stands setup old → Stands setup new
stands_does setup buffers (Ask place call) old new does owned stands = stands_asks setup place call old new does stands
stands_does setup buffers Request old new does owned stands = subst (Stands setup) (sym does) stands
stands_does setup buffers (Answer place) old new does owned stands = stands_answer setup place old new (is_writing (packets_of (writer old place).calls)) does stands
stands_does setup buffers (Collect producer) old new does owned stands =
    record { sorted = sorted_collects setup producer old new stands.sorted does; wrote = same_writers setup old new does.writers stands.wrote }
stands_does setup buffers (Scrape producer) old new does owned stands =
    let wrote = same_writers setup old new does.writers stands.wrote in
    record { sorted = sorted_scrapes setup producer old new stands.sorted does; wrote = wrote }
stands_does setup buffers (CloseProducer producer) old new does owned stands =
    record { sorted = sorted_closed setup producer old new stands.sorted does; wrote = same_writers setup old new does.writers stands.wrote }
stands_does setup buffers (ReadAll buffer limit) old new does owned stands = record {
  sorted = subst (IsSorted setup) (sym does.notes) (sorted_reads setup old.service (reads_in setup (buffers_after buffers (history_of old.service)) buffer limit) stands.sorted);
  wrote = same_writers setup old new does.writers stands.wrote;
}
stands_does setup buffers (CommitRaw place chunk) old new does owned stands = record {
  sorted = subst (IsSorted setup) (sym does.notes) (by_target (buffer_of setup place == chunk.buffer));
  wrote = same_writers setup old new does.writers stands.wrote;
}
  where
    by_target : (own : Bool) → IsSorted setup (cond own (notes_commit old.service (raw_commit setup place chunk)) old.service)
    by_target true = sorted_committed setup old.service (raw_commit setup place chunk) stands.sorted
    by_target false = stands.sorted
