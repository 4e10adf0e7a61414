-- Each sequence is closed behind those before it.
use Rattle.std.proofs.Common.{ℕ, ◌<◌, ◌≤◌, refl, subst}
use Rattle.stream_producer.proofs.CloseLemmas.{closes_none, close_inside, close_open, closes_more, closes_whole}
use Rattle.stream_producer.proofs.ending.Player+W+W+Service.close_all.Goals as goal

pub loop-place-init : goal.loop-place-init
loop-place-init g c = closes_none g.W.Words.means c.args.self.now c.requires.stands

pub close_writer-requires : goal.close_writer-requires
close_writer-requires g c =
    let i = c.loop-place.invariant in
    let below = subst (λ (n : ℕ). c.loop-place.place < n) c.requires.sources c.loop-place-test.true in
    record {
      writer = record {
        service = record { serves = i.served.serves; agrees = i.served.agrees };
        inside = close_inside g.W.Words.means c.args.self.now c.loop-place.place c.loop-place.self i below;
        is_open = close_open g.W.Words.means c.args.self.now c.loop-place.place c.loop-place.self i below;
      };
    }

pub loop-place-preserved : goal.loop-place-preserved
loop-place-preserved g c =
    closes_more g.W.Words.means c.args.self.now c.loop-place.place c.loop-place.self _ c.loop-place.invariant
    c.close_writer.ensures.agrees c.close_writer.ensures.notes.step c.close_writer.ensures.closes c.close_writer.ensures.notes.view refl refl
    (subst (λ (n : ℕ). c.loop-place.place < n) c.requires.sources c.loop-place-test.true)

pub returns : goal.returns
returns g c = record {
  closes = closes_whole g.W.Words.means c.args.self.now c.loop-place.place c.loop-place.self c.requires.stands c.loop-place.invariant
      (subst (λ (n : ℕ). n ≤ c.loop-place.place) c.requires.sources c.loop-place-test.false);
}
