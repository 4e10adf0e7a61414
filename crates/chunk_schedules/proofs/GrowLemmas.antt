-- What was noted and claimed before a schedule stands first among what is behind it.
use Rattle.std.proofs.Common.{◌≡◌, ◌∙◌, ℕ, true, false, List, [], ◌∷◌, ◌++◌, length, set, refl, sym, ap, append_assoc, append-nil}
use Rattle.chunk_plain.specs.Setup.{Setup}
use Rattle.chunk_plain.specs.Views.{Ask, Noted, Commit, ServiceView, WriterView, newcomer}
use Rattle.chunk_plain.specs.World.{World, Status, Unclaimed, Claimed, Stamped, Writing, Ready, Reading, status, writer}
use Rattle.chunk_plain.specs.Steps.{claims}
use Rattle.chunk_plain.proofs.Lists.{changed}
use Rattle.chunk_schedules.specs.Moves.{Move, Claims, Stamps, Begins, SetsHeader, Publishes, Completes, Calls, Looks, Takes, Learns, Releases, Notes, Commits, HearsOf, Answers, Requests, ReadsAnswer, MayMove, IsWriter, claimed_in, behind}
use Rattle.chunk_schedules.specs.Schedules.{IsSchedule}

-- the new world has more events noted, and more claims of the writer at this place
pub record HasGrown (old new : World) (place : ℕ) : Type 0 where
  pub events : List Noted
  pub events_are : new.service.events ≡ old.service.events ++ events
  pub asks : List Ask
  pub asks_are : (writer new place).asked ≡ (writer old place).asked ++ asks

-- a move of one writer, which makes these claims more
writer_grows : (world : World) (mover place : ℕ) (view : WriterView) (asks : List Ask) (chunks : List Status) → IsWriter world mover
    → view.asked ≡ (writer world mover).asked ++ asks
    → HasGrown world (record world { chunks = chunks; writers = set world.writers mover view }) place
writer_grows world mover place view asks chunks inside is =
    let more =
    changed (λ (known : WriterView). (made : List Ask) × (known.asked ≡ (writer world place).asked ++ made)) world.writers mover place view newcomer inside
    (λ same. (asks, is ∙ ap (λ (k : ℕ). (writer world k).asked ++ asks) (sym same)))
    (λ _. ([], sym (append-nil (writer world place).asked))) in
    record {
      events = [];
      events_are = sym (append-nil world.service.events);
      asks = more.0;
      asks_are = more.1;
    }

-- a move of the service, which notes these events more
service_grows : (world : World) (place : ℕ) (view : ServiceView) (noted : List Noted) (chunks : List Status) → view.events ≡ world.service.events ++ noted
    → HasGrown world (record world { chunks = chunks; service = view }) place
service_grows world place view noted chunks is = record {
  events = noted;
  events_are = is;
  asks = [];
  asks_are = sym (append-nil (writer world place).asked);
}

claims_grow : (world : World) (mover about found place : ℕ) → IsWriter world mover → (is : Status) → HasGrown world (claimed_in world mover about found is) place
claims_grow world mover about found place inside Unclaimed =
    let ask : Ask = record { chunk = about; found = found; won = true; calls = length (writer world mover).calls } in
    writer_grows world mover place (claims (writer world mover) about found true) (ask ∷ []) (set world.chunks about (Claimed mover)) inside refl
claims_grow world mover about found place inside (Claimed other) =
    let ask : Ask = record { chunk = about; found = found; won = false; calls = length (writer world mover).calls } in
    writer_grows world mover place (claims (writer world mover) about found false) (ask ∷ []) world.chunks inside refl
claims_grow world mover about found place inside (Stamped other position) =
    let ask : Ask = record { chunk = about; found = found; won = false; calls = length (writer world mover).calls } in
    writer_grows world mover place (claims (writer world mover) about found false) (ask ∷ []) world.chunks inside refl
claims_grow world mover about found place inside (Writing other position draft) =
    let ask : Ask = record { chunk = about; found = found; won = false; calls = length (writer world mover).calls } in
    writer_grows world mover place (claims (writer world mover) about found false) (ask ∷ []) world.chunks inside refl
claims_grow world mover about found place inside (Ready other position content) =
    let ask : Ask = record { chunk = about; found = found; won = false; calls = length (writer world mover).calls } in
    writer_grows world mover place (claims (writer world mover) about found false) (ask ∷ []) world.chunks inside refl
claims_grow world mover about found place inside (Reading other position content) =
    let ask : Ask = record { chunk = about; found = found; won = false; calls = length (writer world mover).calls } in
    writer_grows world mover place (claims (writer world mover) about found false) (ask ∷ []) world.chunks inside refl

grows : (setup : Setup) (world : World) (move : Move) (place : ℕ) → MayMove setup world move → HasGrown world (behind world move) place
grows setup world (Claims mover about found) place may = claims_grow world mover about found place may.0 (status world about)
grows setup world (Stamps mover about) place may = writer_grows world mover place _ [] _ may.0 (sym (append-nil (writer world mover).asked))
grows setup world (Begins mover about words) place may = writer_grows world mover place _ [] _ may.0 (sym (append-nil (writer world mover).asked))
grows setup world (SetsHeader mover about position head) place may = writer_grows world mover place _ [] _ may.0 (sym (append-nil (writer world mover).asked))
grows setup world (Publishes mover about position index word) place may = writer_grows world mover place _ [] _ may.0 (sym (append-nil (writer world mover).asked))
grows setup world (Completes mover about position content) place may = writer_grows world mover place _ [] _ may.0 (sym (append-nil (writer world mover).asked))
grows setup world (Calls mover call) place may = writer_grows world mover place _ [] _ may (sym (append-nil (writer world mover).asked))
grows setup world (Looks about word header found) place may = service_grows world place _ [] _ (sym (append-nil world.service.events))
grows setup world (Takes mover about word header) place may = service_grows world place _ [] _ (sym (append-nil world.service.events))
grows setup world (Learns mover about content) place may = service_grows world place _ [] _ (sym (append-nil world.service.events))
grows setup world (Releases about) place may = service_grows world place _ [] _ (sym (append-nil world.service.events))
grows setup world (Notes event) place may = service_grows world place _ (event ∷ []) _ refl
grows setup world (Commits committed) place may = service_grows world place _ (Commit (length world.service.commits) ∷ []) _ refl
grows setup world (HearsOf mover requests) place may = writer_grows world mover place _ [] _ may.0 (sym (append-nil (writer world mover).asked))
grows setup world (Answers mover flush chunks) place may = writer_grows world mover place _ [] _ may.0 (sym (append-nil (writer world mover).asked))
grows setup world Requests place may = service_grows world place _ [] _ (sym (append-nil world.service.events))
grows setup world (ReadsAnswer mover flush chunks) place may = service_grows world place _ [] _ (sym (append-nil world.service.events))

pub grown_along : (setup : Setup) (old new : World) (moves : List Move) (place : ℕ) → IsSchedule setup old moves new → HasGrown old new place
grown_along setup old new [] place same = record {
  events = [];
  events_are = ap (λ (world : World). world.service.events) same ∙ sym (append-nil old.service.events);
  asks = [];
  asks_are = ap (λ (world : World). (writer world place).asked) same ∙ sym (append-nil (writer old place).asked);
}
grown_along setup old new (move ∷ moves) place schedule =
    let one = grows setup old move place schedule.0 in
    let rest = grown_along setup (behind old move) new moves place schedule.1 in
    record {
      events = one.events ++ rest.events;
      events_are = rest.events_are ∙ (ap (λ (l : List Noted). l ++ rest.events) one.events_are ∙ append_assoc old.service.events one.events rest.events);
      asks = one.asks ++ rest.asks;
      asks_are = rest.asks_are ∙ (ap (λ (l : List Ask). l ++ rest.asks) one.asks_are ∙ append_assoc (writer old place).asked one.asks rest.asks);
    }
