-- All of its frames, and then its end.
use Rattle.std.proofs.Common.{◌≡◌, [], subst}
use Rattle.byte_io.specs.Bytes.{after_told, TakesPart}
use Rattle.chunk_plain.specs.Setup.{Setup}
use Rattle.stream_producer.specs.Whole.{CountsStream, stream_trace}
use Rattle.stream_producer.proofs.WholeLemmas.{made_taken, made_trace, feed_part, end_part_of, took_part, took_all, took_more}
use Rattle.stream_producer.proofs.whole.StreamCore+W+W+Service.play_stream.Goals as goal

pub returns-in-Err-WriteFault-clause-plays : goal.returns-in-Err-WriteFault-clause-plays
returns-in-Err-WriteFault-clause-plays g c config made = record {
  counts = tt;
  all = tt;
  part = feed_part g.W.Words.means config c.args.stream.now c.args.self (g.O.Sink.taken c.args.out.now) (g.O.Sink.taken c.feed.new.out)
      c.requires.whole.feeding made c.requires.whole.start (rw c.in-Err-WriteFault.field-0-is at c.in-Err-WriteFault.ensures.stops);
}

pub returns-in-Ok-finish-clause-plays : goal.returns-in-Ok-finish-clause-plays
returns-in-Ok-finish-clause-plays g c config made =
    let means = g.W.Words.means in
    let stream = c.args.stream.now in
    let start = g.O.Sink.taken c.args.out.now in
    let none = made_taken means config c.args.self made in
    let fed = c.in-Ok.ensures.stream config [] none in
    let ends = c.in-Ok-finish.ensures.stream config stream start fed.taken (fed.trace start (made_trace means config c.args.self start)) in
    let same = c.in-Ok.ensures.feeds.plays.setup_stays in
    record {
      counts = subst (λ (setup : Setup). CountsStream config setup stream c.in-Ok-finish.done) same
          (record { buffers = ends.buffers; sequences = ends.sequences; commits = ends.commits; refused = ends.refused });
      all = subst (λ (setup : Setup). g.O.Sink.taken c.finish.new.out ≡ after_told start (stream_trace config setup stream)) same ends.taken;
      part = tt;
    }

pub returns-in-Err-WriteFault-finish-clause-plays : goal.returns-in-Err-WriteFault-finish-clause-plays
returns-in-Err-WriteFault-finish-clause-plays g c config made =
    let means = g.W.Words.means in
    let stream = c.args.stream.now in
    let start = g.O.Sink.taken c.args.out.now in
    let none = made_taken means config c.args.self made in
    let fed = c.in-Ok.ensures.stream config [] none in
    let stops = rw c.in-Err-WriteFault-finish.field-0-is at c.in-Err-WriteFault-finish.ensures.stops in
    record {
      counts = tt;
      all = tt;
      part = subst (λ (setup : Setup). TakesPart start (g.O.Sink.taken c.finish.new.out) (stream_trace config setup stream))
          c.in-Ok.ensures.feeds.plays.setup_stays
          (end_part_of means config stream c.feed.new.self start (g.O.Sink.taken c.feed.new.out) (g.O.Sink.taken c.finish.new.out)
          c.in-Ok.ensures.feeds.feeding fed.taken (fed.trace start (made_trace means config c.args.self start)) stops.1);
    }

pub returns-in-Err-WriteFault-clause-took : goal.returns-in-Err-WriteFault-clause-took
returns-in-Err-WriteFault-clause-took g c =
    took_part (g.O.Sink.taken c.args.out.now) (g.O.Sink.taken c.feed.new.out) _ (rw c.in-Err-WriteFault.field-0-is at c.in-Err-WriteFault.ensures.stops)

pub returns-in-Ok-finish-clause-took : goal.returns-in-Ok-finish-clause-took
returns-in-Ok-finish-clause-took g c =
    took_all (g.O.Sink.taken c.args.out.now) (g.O.Sink.taken c.feed.new.out) (g.O.Sink.taken c.finish.new.out) _ _ c.in-Ok.ensures.feeds.plays.taken
    c.in-Ok-finish.ensures.finishes.taken

pub returns-in-Err-WriteFault-finish-clause-took : goal.returns-in-Err-WriteFault-finish-clause-took
returns-in-Err-WriteFault-finish-clause-took g c =
    let stops = rw c.in-Err-WriteFault-finish.field-0-is at c.in-Err-WriteFault-finish.ensures.stops in
    took_more (g.O.Sink.taken c.args.out.now) (g.O.Sink.taken c.feed.new.out) (g.O.Sink.taken c.finish.new.out) _ _ c.in-Ok.ensures.feeds.plays.taken
    stops.1
