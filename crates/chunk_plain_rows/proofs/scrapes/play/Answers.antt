use Rattle.std.proofs.Common.{◌≡◌, ◌∙◌, ◌<◌, ℕ, List, length, subst, sym, ap}
use Rattle.chunk_plain.specs.Setup.{Setup, spot, id_at}
use Rattle.chunk_plain.specs.Views.{BegunChunk, ServiceView, WriterView}
use Rattle.chunk_plain.specs.Drafts.{IsHolding}
use Rattle.chunk_plain.specs.Words.{KeepsSealed}
use Rattle.service_core.specs.Agreement.{ServiceAgrees, IsOpen, is_closed}
use Rattle.service_core.proofs.AgreeLemmas.{goes_at}
use Rattle.chunk_plain_rows.proofs.scrapes.play.Goals as goal

-- the service's seat behind the writer's first calls
pub scrape-taken-requires-clause-serves : goal.scrape-taken-requires-clause-serves
scrape-taken-requires-clause-serves g c =
    let means = g.W.Words.means in
    let core = c.args.service.now in
    let step = c.in_ok-held.ensures.step in
    let stays = step.service_stays core.seat c.requires.serves in
    record {
      serves = stays.0;
      agrees = subst (λ (s : Setup). ServiceAgrees s (means.service_view c.write.new.table core.seat) core) (sym step.setup_stays)
          (subst (λ (v : ServiceView). ServiceAgrees (means.setup c.args.table.now) v core) (sym stays.1) c.requires.agrees);
    }

pub scrape-taken-requires-clause-open : goal.scrape-taken-requires-clause-open
scrape-taken-requires-clause-open g c =
    let core = c.args.service.now in
    subst (λ (s : Setup). IsOpen s core 1) (sym c.in_ok-held.ensures.step.setup_stays) (λ place inside named. c.requires.open place inside)

pub read_buffer-requires-clause-asks : goal.read_buffer-requires-clause-asks
read_buffer-requires-clause-asks g c = record {
  service = goes_at c.scrape-taken.ensures.leaves;
  reads = c.scrape-taken.ensures.leaves.step.reads_stay (c.in_ok-held.ensures.step.reads_stay c.args.service.now.seat c.requires.reads);
}

pub finish-requires-clause-seat : goal.finish-requires-clause-seat
finish-requires-clause-seat g c =
    let one = c.scrape-taken.ensures.leaves.step.writers_stay c.write.new.seat c.in_ok-held.ensures.step.seat_stays in
    (c.read_buffer.ensures.leaves.service.step.writers_stay c.write.new.seat one.0).0

pub finish-requires-clause-holding : goal.finish-requires-clause-holding
finish-requires-clause-holding g c =
    let one = c.scrape-taken.ensures.leaves.step.writers_stay c.write.new.seat c.in_ok-held.ensures.step.seat_stays in
    let two = c.read_buffer.ensures.leaves.service.step.writers_stay c.write.new.seat one.0 in
    subst (λ (v : WriterView). IsHolding v c.in_ok-held.held.chunk c.in_ok-held.held.position) (sym (two.1 ∙ one.1)) c.in_ok-held.ensures.holding

pub finish-requires-clause-size : goal.finish-requires-clause-size
finish-requires-clause-size g c =
    let setup_is = c.read_buffer.ensures.leaves.service.step.setup_stays ∙ (c.scrape-taken.ensures.leaves.step.setup_stays ∙ c.in_ok-held.ensures.step.setup_stays) in
    c.in_ok-held.ensures.size ∙ sym (ap (λ (s : Setup). (spot s c.in_ok-held.held.chunk).payload_size) setup_is)

pub finish-requires-clause-sealed : goal.finish-requires-clause-sealed
finish-requires-clause-sealed g c =
    let one = c.scrape-taken.ensures.leaves.step.writers_stay c.write.new.seat c.in_ok-held.ensures.step.seat_stays in
    let two = c.read_buffer.ensures.leaves.service.step.writers_stay c.write.new.seat one.0 in
    subst (λ (v : WriterView). KeepsSealed v c.in_ok-held.held.position c.in_ok-held.held.body.payload.items) (sym (two.1 ∙ one.1)) c.in_ok-held.ensures.sealed

pub collect-taken_later-requires-clause-serves : goal.collect-taken_later-requires-clause-serves
collect-taken_later-requires-clause-serves g c =
    let means = g.W.Words.means in
    let core = c.read_buffer.new.self in
    let step = c.finish.ensures.step in
    let was = c.read_buffer.ensures.leaves.service in
    let stays = step.service_stays core.seat was.step.seat_stays in
    record {
      serves = stays.0;
      agrees = subst (λ (s : Setup). ServiceAgrees s (means.service_view c.finish.new.table core.seat) core) (sym (step.setup_stays ∙ was.step.setup_stays))
          (subst (λ (v : ServiceView). ServiceAgrees (means.setup c.scrape-taken.new.table) v core) (sym stays.1) was.agrees);
    }

pub collect-taken_later-requires-clause-open : goal.collect-taken_later-requires-clause-open
collect-taken_later-requires-clause-open g c =
    let means = g.W.Words.means in
    let first = means.setup c.args.table.now in
    let one = subst (λ (s : Setup). (place : ℕ) → place < length s.writers → is_closed s c.scrape-taken.new.self place ≡ is_closed s c.args.service.now place) c.in_ok-held.ensures.step.setup_stays c.scrape-taken.ensures.leaves.keeps.closed in
    let stays = c.scrape-taken.ensures.leaves.step.setup_stays ∙ c.in_ok-held.ensures.step.setup_stays in
    let two = subst (λ (s : Setup). (place : ℕ) → place < length s.writers → is_closed s c.read_buffer.new.self place ≡ is_closed s c.scrape-taken.new.self place) stays c.read_buffer.ensures.leaves.service.keeps.closed in
    subst (λ (s : Setup). IsOpen s c.read_buffer.new.self 1) (sym (c.finish.ensures.step.setup_stays ∙ (c.read_buffer.ensures.leaves.service.step.setup_stays ∙ stays)))
    (λ place inside named. two place inside ∙ (one place inside ∙ c.requires.open place inside))

pub read_buffer-requires-2-clause-asks : goal.read_buffer-requires-2-clause-asks
read_buffer-requires-2-clause-asks g c = record {
  service = goes_at c.collect-taken_later.ensures.leaves;
  reads = c.collect-taken_later.ensures.leaves.step.reads_stay (c.finish.ensures.step.reads_stay c.read_buffer.new.self.seat
      (c.read_buffer.ensures.leaves.service.step.reads_stay (c.scrape-taken.ensures.leaves.step.reads_stay
      (c.in_ok-held.ensures.step.reads_stay c.args.service.now.seat c.requires.reads))));
}

pub write-requires-clause-id : goal.write-requires-clause-id
write-requires-clause-id g c =
    let setup = g.W.Words.means.setup c.args.table.now in
    let place = g.W.Words.means.place c.args.seat.now in
    c.requires.id ∙ ap (id_at setup place) (sym (ap (λ (l : List BegunChunk). length l) c.requires.begun))
