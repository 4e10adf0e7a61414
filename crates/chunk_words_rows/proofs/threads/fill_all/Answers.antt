use Rattle.std.proofs.Common.{◌%◌, ◌∙◌, length, subst, sym, ap, arith}
use Rattle.chunk_plain.specs.Setup.{Setup, IsChunkOf, producer_of, from_of}
use Rattle.chunk_plain.specs.Views.{WriterView}
use Rattle.chunk_plain.specs.Owned.{held_count}
use Rattle.chunk_plain.proofs.SeatSteps.{stays, steps_follow}
use Rattle.chunk_words_rows.proofs.threads.fill_all.Goals as goal

pub loop-round-init : goal.loop-round-init
loop-round-init g c = record {
  step = stays g.W.Words.means c.args.table.now c.args.seat.now c.requires.seat;
  next = ap (λ (v : WriterView). length v.begun) (sym c.requires.fresh);
  none_held = ap (λ (v : WriterView). held_count v.begun) c.requires.fresh;
  most = omega arith;
}

pub fill-won-requires-clause-seat : goal.fill-won-requires-clause-seat
fill-won-requires-clause-seat g c = c.loop-round.invariant.step.seat_stays

pub fill-won-requires-clause-chunk : goal.fill-won-requires-clause-chunk
fill-won-requires-clause-chunk g c =
    let step = c.loop-round.invariant.step in
    subst (λ (s : Setup). IsChunkOf s (producer_of s (g.W.Words.means.place c.loop-round.seat)) (c.loop-round.round % 14)) (sym step.setup_stays)
    (subst (λ p. IsChunkOf (g.W.Words.means.setup c.args.table.now) (producer_of (g.W.Words.means.setup c.args.table.now) p) (c.loop-round.round % 14)) (sym step.place_stays)
    (c.requires.chunks (c.loop-round.round % 14) (omega arith)))

pub fill-won-requires-clause-none_held : goal.fill-won-requires-clause-none_held
fill-won-requires-clause-none_held g c = c.loop-round.invariant.none_held

pub fill-won-requires-clause-next : goal.fill-won-requires-clause-next
fill-won-requires-clause-next g c = c.loop-round.invariant.next

pub fill-won-requires-clause-few : goal.fill-won-requires-clause-few
fill-won-requires-clause-few g c = let most = c.loop-round.invariant.most in let less = c.loop-round-test.true in let ended = c.loop-round.auto.round-end in let few = c.requires.few in omega arith

pub loop-round-preserved : goal.loop-round-preserved
loop-round-preserved g c = record {
  step = steps_follow g.W.Words.means c.args.table.now c.args.seat.now c.loop-round.table c.loop-round.seat _ _ c.loop-round.invariant.step c.fill-won.ensures.step;
  next = c.fill-won.ensures.next;
  none_held = c.fill-won.ensures.none_held;
  most = let most = c.loop-round.invariant.most in let more = c.fill-won.ensures.most in omega arith;
}

pub fill-won-requires-clause-from : goal.fill-won-requires-clause-from
fill-won-requires-clause-from g c =
    let step = c.loop-round.invariant.step in
    ap (λ (s : Setup). from_of s (g.W.Words.means.place c.loop-round.seat)) step.setup_stays ∙ ap (from_of (g.W.Words.means.setup c.args.table.now)) step.place_stays ∙ c.requires.from
