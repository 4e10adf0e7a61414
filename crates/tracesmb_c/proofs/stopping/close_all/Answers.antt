-- One producer is closed behind another.
use Rattle.std.proofs.Common.{◌≡◌, ◌∙◌, ℕ, ◌+◌, ◌-◌, ◌<◌, true, length, ap, arith}
use borrow.Author.Count.{below_more}
use Rattle.chunk_plain.specs.Setup.{producer_of, sequence_of}
use Rattle.chunk_plain.specs.Views.{ServiceView}
use Rattle.chunk_words.specs.Sits.{setup_in, known_by_service}
use Rattle.service_core.specs.Agreement.{buffer_of, is_closed}
use Rattle.service_core.specs.Routing.{is_closed_at}
use Rattle.service_core.specs.Taking.{places_of}
use Rattle.service_core.proofs.AnswerLemmas.{takes_own}
use Rattle.service_core.proofs.QuietLemmas.{places_below}
use Rattle.service_core.proofs.RoomLemmas.{takes_grow}
use Rattle.thread_service.specs.Serving.{core_of, view_in}
use Rattle.tracesmb_c.proofs.SessionLemmas.{same_taken}
use Rattle.tracesmb_c.proofs.stopping.close_all.Goals as goal

pub close_producer-taken-requires-clause-open : goal.close_producer-taken-requires-clause-open
close_producer-taken-requires-clause-open c place inside same = c.producers.invariant.opened place inside (omega (arith, same))

pub producers-init : goal.producers-init
producers-init c =
    let keeps = c.stop-stopped.ensures.keeps in
    record {
      serves = c.stop-stopped.ensures.serves c.args.table.now c.requires.serves;
      specs = keeps.specs;
      commits = ap (λ seat. (known_by_service seat).commits) keeps.seat;
      rises = same_taken (view_in c.args.service.now) (view_in c.stop-stopped.new.self)
          (ap (λ seat. (known_by_service seat).taken) keeps.seat);
      opened = λ place inside some.
          ap (λ bs. is_closed_at bs (buffer_of (setup_in c.args.table.now) place - 1) (sequence_of place)) keeps.buffers
          ∙ c.requires.opened place inside;
      closed = λ index below. absurd (omega (arith, below));
    }

pub producers-preserved : goal.producers-preserved
producers-preserved c =
    let setup = setup_in c.args.table.now in
    let i = c.producers.invariant in
    let number : ℕ = c.producers.index + 1 in
    let old = view_in c.producers.service in
    let new = view_in c.close_producer-taken.new.self in
    let closes = c.close_producer-taken.ensures.closes in
    let last = c.close_producer-taken.ensures.takes in
    let many = i.serves.agrees.many in
    record {
      serves = c.close_producer-taken.ensures.stays.serves;
      specs = closes.fields.specs ∙ i.specs;
      commits = ap (λ (v : ServiceView). v.commits) last.view
          ∙ takes_own setup (places_of number 0 setup.writers) c.close_producer-taken.result old last.between last.takes ∙ i.commits;
      rises = λ place.
          let before = i.rises place in
          let rises = takes_grow setup (places_of number 0 setup.writers) c.close_producer-taken.result old last.between
          (places_below number 0 setup.writers (length old.taken) (omega (arith, many))) last.takes place in
          let behind = same_taken last.between new (ap (λ (v : ServiceView). v.taken) last.view) place in
          omega (arith, before, rises, behind);
      opened = λ place inside above.
          closes.others place inside (λ same. absurd (omega (arith, same, above))) ∙ i.opened place inside (omega (arith, above));
      closed =
          below_more (λ (k : ℕ). (place : ℕ) → place < length setup.writers → producer_of setup place ≡ k + 1
          → is_closed setup (core_of c.close_producer-taken.new.self) place ≡ true) c.producers.index
          (λ k below place inside same.
          closes.others place inside (λ other. absurd (omega (arith, other, same, below))) ∙ i.closed k below place inside same)
          closes.closed;
    }

-- a writer's producer is one of these
pub returns-clause-closed : goal.returns-clause-closed
returns-clause-closed c place inside =
    let i = c.producers.invariant in
    let number : ℕ = producer_of (setup_in c.args.table.now) place in
    let has = i.serves.agrees.routed.producers place inside in
    let least = has.least in
    let most = has.most in
    let all = c.requires.producers in
    let out = c.producers-test.false in
    i.closed (number - 1) (omega (arith, least, most, all, out)) place inside (omega (arith, least))
