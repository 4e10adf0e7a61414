-- What the last reading of answers leaves, once the writers have told of all.
use Rattle.std.proofs.Common.{◌≡◌, ◌∙◌, ℕ, zero, suc, ◌≤◌, Option, Some, List, [], ◌∷◌, length, map, refl, sym, ap, subst, arith}
use Rattle.std.specs.Prelude.{slice_get}
use Rattle.std.specs.Option.{IsSomeAnd}
use Rattle.std.proofs.lemmas.Option.{same_Some}
use Rattle.chunk_plain.specs.Letters.{last_flush}
use Rattle.chunk_plain.specs.Setup.{Setup}
use Rattle.chunk_plain.specs.Views.{ServiceView, WriterView}
use Rattle.chunk_words.specs.declared.host.HostTable.{HostTable}
use Rattle.chunk_words.specs.declared.seats.ServiceSeat.{ServiceSeat}
use Rattle.chunk_words.specs.declared.seats.WriterSeat.{WriterSeat}
use Rattle.chunk_words.specs.Closed.{views_of}
use Rattle.chunk_words.specs.Knows.{Tale}
use Rattle.chunk_words.specs.Sits.{setup_in, known_by, known_by_service}
use Rattle.scenario_text.specs.Scenario.{Parts}
use Rattle.service_core.specs.declared.service.ServiceCore.{ServiceCore}
use Rattle.service_core.specs.Agreement.{KeepsRest, KeepsTaking}
use Rattle.replay_model.specs.Flushes.{requests_in}
use Rattle.thread_service.specs.declared.service.Service.{Service}
use Rattle.thread_service.specs.Serving as serving
use Rattle.thread_service.specs.Serving.{IsOnlySeat}
use Rattle.thread_service.specs.Settling.{IsWholeTale}
use Rattle.thread_writer.specs.declared.writer.TraceWriter.{TraceWriter}
use Rattle.thread_writer.specs.Writing.{view_in}
use Rattle.thread_host.specs.Hosts.{HaveAnswered}
use Rattle.thread_host.specs.Tally.{IsTally, KeepsAnswers, KeepsServing, KeepsSession}
use Rattle.thread_host.specs.declared.tally.Tally.{Tally}
use Rattle.thread_host.proofs.Hosting.{held_of}
use Rattle.thread_host.proofs.KeptAnswers.{answers_same}
use Rattle.thread_host.proofs.ReadAnswers.{only_serving, rest_serving, serving_both, taking_serving}

-- the tally of the host, which is there
pub tally_there : (scenario : Parts) (table : HostTable) (services : Option Service) (service : Service) (tallies : Option Tally) (tally : Tally)
    → IsSomeAnd tallies (λ (one : Tally). IsSomeAnd services (λ (other : Service).
    IsTally (requests_in scenario.lines) (length (setup_in table).writers) (serving.view_in other).letters one))
    → services ≡ Some service → tallies ≡ Some tally
    → IsTally (requests_in scenario.lines) (length (setup_in table).writers) (serving.view_in service).letters tally
tally_there scenario table services service tallies tally holds here there =
    held_of (λ (other : Service). IsTally (requests_in scenario.lines) (length (setup_in table).writers) (serving.view_in other).letters tally) services service
    (held_of (λ (one : Tally). IsSomeAnd services (λ (other : Service).
    IsTally (requests_in scenario.lines) (length (setup_in table).writers) (serving.view_in other).letters one)) tallies tally holds there) here

-- all the steps of settling leave the service, but for what it takes and the answers that it keeps
pub settle_keeps : (setup : Setup) (first ended read compared marked last : ServiceCore ServiceSeat) → IsOnlySeat first ended
    → KeepsTaking (record ended { seat = read.seat }) read → KeepsSession ended.session read.session → IsOnlySeat read compared → IsOnlySeat compared marked
    → KeepsRest setup marked last → KeepsServing setup first last
settle_keeps setup first ended read compared marked last ends reads session compares marks settles =
    serving_both setup first ended last (only_serving setup first ended ends)
    (serving_both setup ended read last (taking_serving setup ended read reads session)
    (serving_both setup read compared last (only_serving setup read compared compares)
    (serving_both setup compared marked last (only_serving setup compared marked marks) (rest_serving setup marked last settles))))

-- and the answers that it keeps are those that were read, where the reading keeps them so
pub settle_answers : (setup : Setup) (writers : ℕ) (first ended read compared marked last : ServiceCore ServiceSeat) → IsOnlySeat first ended
    → IsOnlySeat read compared → IsOnlySeat compared marked → KeepsRest setup marked last
    → (known_by_service ended.seat).letters ≡ (known_by_service first.seat).letters → (known_by_service last.seat).letters ≡ (known_by_service read.seat).letters
    → (KeepsAnswers writers (known_by_service ended.seat).letters ended.session → KeepsAnswers writers (known_by_service read.seat).letters read.session)
    → KeepsAnswers writers (known_by_service first.seat).letters first.session → KeepsAnswers writers (known_by_service last.seat).letters last.session
settle_answers setup writers first ended read compared marked last ends compares marks settles before behind reads was =
    answers_same writers (known_by_service read.seat).letters (known_by_service last.seat).letters read.session last.session behind
    (settles.fields.session ∙ ap (λ (core : ServiceCore ServiceSeat). core.session) marks ∙ ap (λ (core : ServiceCore ServiceSeat). core.session) compares)
    (reads (answers_same writers (known_by_service first.seat).letters (known_by_service ended.seat).letters first.session ended.session before
    (ap (λ (core : ServiceCore ServiceSeat). core.session) ends) was))

-- a tale is whole still
pub tale_still : (setup : Setup) (old new : ServiceView) (tale : Tale) → length old.looks ≡ length new.looks → IsWholeTale setup old tale → IsWholeTale setup new tale
tale_still setup old new tale same whole = record {
  inside = whole.inside;
  heard = let low = whole.heard in omega (arith, same, low);
  complete = whole.complete;
  own = whole.own;
  few = whole.few;
}

-- the writer of a seat
same_view : (seats : List WriterSeat) (writers : List TraceWriter) (place : ℕ) (seat : WriterSeat) → views_of seats ≡ map view_in writers → slice_get seats place ≡ Some seat
    → (writer : TraceWriter) × (slice_get writers place ≡ Some writer) × (known_by seat ≡ view_in writer)
same_view [] writers place seat same there = absurd (cc)
same_view (one ∷ seats) [] place seat same there = absurd (let long = ap (λ (vs : List WriterView). length vs) same in omega (arith, long))
same_view (one ∷ seats) (writer ∷ writers) zero seat same there =
    let is = same_Some one seat there in
    let first : known_by one ≡ view_in writer = head same in
    (writer, refl, sym (ap known_by is) ∙ first)
  where
    head : known_by one ∷ views_of seats ≡ view_in writer ∷ map view_in writers → known_by one ≡ view_in writer
    head e = cc
same_view (one ∷ seats) (writer ∷ writers) (suc place) seat same there = same_view seats writers place seat (rest same) there
  where
    rest : known_by one ∷ views_of seats ≡ view_in writer ∷ map view_in writers → views_of seats ≡ map view_in writers
    rest e = cc

-- what the writer of a seat has answered
pub answered_seat : (requests : ℕ) (writers : List TraceWriter) (seats : List WriterSeat) (place : ℕ) (seat : WriterSeat) → views_of seats ≡ map view_in writers
    → slice_get seats place ≡ Some seat → HaveAnswered requests writers → requests ≤ last_flush (known_by seat).letters.answers
answered_seat requests writers seats place seat same there have =
    let here = same_view seats writers place seat same there in
    subst (λ (v : WriterView). requests ≤ last_flush v.letters.answers) (sym here.2) (have place here.0 here.1)
