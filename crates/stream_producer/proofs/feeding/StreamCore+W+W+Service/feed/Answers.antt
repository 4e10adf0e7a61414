-- Frame by frame.
use Rattle.std.proofs.Common.{◌≡◌, ◌∙◌, ℕ, ◌+◌, ◌^◌, ◌<◌, List, length, Err, refl, sym, subst, arith, rules}
use Rattle.std.proofs.lemmas.List.{take_rest}
use Rattle.stream_frames.specs.Framing.{fed}
use Rattle.stream_frames.specs.Values.{limits_of, feeding_of}
use Rattle.stream_producer.specs.Feeding.{FeedsSome, Stops}
use Rattle.stream_producer.proofs.FeedLemmas.{fed_first, fed_done, fed_more, fed_stops, rest_fits}
use Rattle.stream_producer.proofs.ResultLemmas.{if_err_is, on_ok_none, sink_left}
use Rattle.stream_producer.proofs.StreamLemmas.{taken_more, trace_more, stops_whole}
use Rattle.stream_producer.proofs.feeding.StreamCore+W+W+Service.feed.Goals as goal

pub loop-at-init : goal.loop-at-init
loop-at-init g c = record {
  fed = fed_first g.W.Words.means c.args.piece.now c.args.self.now (g.O.Sink.taken c.args.out.now) c.requires.feeding;
  may = c.requires.may;
  steady = refl;
}

pub feed_some-requires-clause-feeding : goal.feed_some-requires-clause-feeding
feed_some-requires-clause-feeding g c = c.loop-at.invariant.fed.feeds.feeding

pub feed_some-requires-clause-length : goal.feed_some-requires-clause-length
feed_some-requires-clause-length g c =
    let now = c.loop-at.self in
    subst (λ (rest : List ℕ). (feeding_of now.reader).at + length (feeding_of now.reader).have + length rest < 2 ^ 64)
    (sym (take_rest c.args.piece.now c.loop-at.at))
    (rest_fits g.W.Words.means c.args.piece.now c.args.self.now (g.O.Sink.taken c.args.out.now) c.loop-at.at now
    (g.O.Sink.taken c.loop-at.out)
    c.loop-at.invariant.fed c.requires.length)

pub loop-at-preserved : goal.loop-at-preserved
loop-at-preserved g c =
    let means = g.W.Words.means in
    let piece = c.args.piece.now in
    let now = c.loop-at.self in
    let taken = g.O.Sink.taken c.loop-at.out in
    let after = g.O.Sink.taken c.feed_some.new.out in
    let count : ℕ = c.in_ok-at.field-0 in
    let some = subst (λ (rest : List ℕ). FeedsSome means rest count now c.feed_some.new.self taken after) (take_rest piece c.loop-at.at)
    c.in_ok-at.ensures.feeds in
    record {
      fed = fed_more means piece c.args.self.now (g.O.Sink.taken c.args.out.now) c.loop-at.at count now c.feed_some.new.self taken after
          c.loop-at.invariant.fed some;
      may = c.in_ok-at.ensures.sink.goes_on;
      steady = c.in_ok-at.ensures.sink.count ∙ c.loop-at.invariant.steady;
    }

pub returns-in_err-at-clause-stops : goal.returns-in_err-at-clause-stops
returns-in_err-at-clause-stops g c =
    let means = g.W.Words.means in
    let piece = c.args.piece.now in
    let now = c.loop-at.self in
    let before = g.O.Sink.taken c.args.out.now in
    let taken = g.O.Sink.taken c.loop-at.out in
    let after = g.O.Sink.taken c.feed_some.new.out in
    let found = c.in_err-at.field-0.0 in
    let result_is : c.from_residual.result ≡ Err found = search rules in
    if_err_is c.from_residual.result found _ result_is
    (fed_stops means piece c.args.self.now before c.loop-at.at now c.feed_some.new.self taken after found c.loop-at.invariant.fed
    (subst (λ (rest : List ℕ). Stops means (fed (limits_of now.reader) (feeding_of now.reader) rest) now c.feed_some.new.self taken after
    found)
    (take_rest piece c.loop-at.at) c.in_err-at.ensures.stops))

pub returns-in_err-at-clause-stream : goal.returns-in_err-at-clause-stream
returns-in_err-at-clause-stream g c config stream was =
    let means = g.W.Words.means in
    let piece = c.args.piece.now in
    let now = c.loop-at.self in
    let before = g.O.Sink.taken c.args.out.now in
    let taken = g.O.Sink.taken c.loop-at.out in
    let after = g.O.Sink.taken c.feed_some.new.out in
    let found = c.in_err-at.field-0.0 in
    let result_is : c.from_residual.result ≡ Err found = search rules in
    let stops : Stops means (fed (limits_of c.args.self.now.reader) (feeding_of c.args.self.now.reader) piece) c.args.self.now c.feed_some.new.self before after found =
    fed_stops means piece c.args.self.now before c.loop-at.at now c.feed_some.new.self taken after found c.loop-at.invariant.fed
    (subst (λ (rest : List ℕ). Stops means (fed (limits_of now.reader) (feeding_of now.reader) rest) now c.feed_some.new.self taken after
    found)
    (take_rest piece c.loop-at.at) c.in_err-at.ensures.stops) in
    record {
      taken = on_ok_none c.from_residual.result found _ result_is;
      trace = λ start trace. on_ok_none c.from_residual.result found _ result_is;
      stops = λ start trace. if_err_is c.from_residual.result found _ result_is
          (stops_whole means config stream piece c.args.self.now c.requires.feeding was c.feed_some.new.self before after start found trace stops);
    }

pub returns-in_err-at-clause-sink : goal.returns-in_err-at-clause-sink
returns-in_err-at-clause-sink g c =
    let found = c.in_err-at.field-0.0 in
    let result_is : c.from_residual.result ≡ Err found = search rules in
    sink_left c.from_residual.result found (g.O.Sink.faults c.args.out.now) (g.O.Sink.faults c.loop-at.out)
    (g.O.Sink.faults c.feed_some.new.out) _
    result_is c.loop-at.invariant.steady c.in_err-at.ensures.sink

pub returns-clause-feeds : goal.returns-clause-feeds
returns-clause-feeds g c =
    fed_done g.W.Words.means c.args.piece.now c.args.self.now (g.O.Sink.taken c.args.out.now) c.loop-at.at c.loop-at.self
    (g.O.Sink.taken c.loop-at.out) c.loop-at-test.false c.loop-at.invariant.fed

pub returns-clause-stream : goal.returns-clause-stream
returns-clause-stream g c config stream was =
    let before = g.O.Sink.taken c.args.out.now in
    let after = g.O.Sink.taken c.loop-at.out in
    let feeds = fed_done g.W.Words.means c.args.piece.now c.args.self.now before c.loop-at.at c.loop-at.self after c.loop-at-test.false
    c.loop-at.invariant.fed in
    let fed = c.loop-at.invariant.fed in
    let within = fed.within in
    let counted = fed.counted in
    let over = c.loop-at-test.false in
    record {
      taken = taken_more g.W.Words.means config stream c.args.piece.now c.args.self.now c.loop-at.self before after c.requires.feeding was feeds
          (omega (arith, within, counted, over));
      trace = trace_more g.W.Words.means config stream c.args.piece.now c.args.self.now c.loop-at.self before after c.requires.feeding was feeds;
      stops = λ start trace. tt;
    }

pub returns-clause-sink : goal.returns-clause-sink
returns-clause-sink g c = record {
  count = c.loop-at.invariant.steady;
  goes_on = c.loop-at.invariant.may;
  goes_on_behind = tt;
}

pub returns-clause-counted : goal.returns-clause-counted
returns-clause-counted g c =
    let fed = c.loop-at.invariant.fed in
    let within = fed.within in
    let counted = fed.counted in
    let over = c.loop-at-test.false in
    omega (arith, within, counted, over)
