-- Up to a frame's end.
use Rattle.std.proofs.Common.{◌≡◌, ◌∙◌, ◌+◌, Bool, [], ◌∷◌, Err, refl, sym, ap, subst, rules}
use Rattle.byte_io.specs.Bytes.{TakesPart}
use Rattle.stream_frames.specs.Frames.{Limits}
use Rattle.stream_frames.specs.Framing.{between, front_of}
use Rattle.stream_frames.specs.Values.{frame_value, feeding_of}
use Rattle.stream_producer.specs.declared.fault.StreamFault.TheVariants.{WriteFault}
use Rattle.stream_producer.specs.Standing.{Plays, due_of}
use Rattle.stream_producer.proofs.PlaceLemmas.{no_bytes, place_fits, place_fed, place_fails}
use Rattle.stream_producer.proofs.ResultLemmas.{if_err_is, sink_left}
use Rattle.stream_producer.proofs.TakeLemmas.{at_most_one_there, some_fed, some_stops, closed_stops}
use Rattle.stream_producer.proofs.feeding.StreamCore+W+W+Service.feed_some.Goals as goal

pub returns-then-is_closed-clause-stops : goal.returns-then-is_closed-clause-stops
returns-then-is_closed-clause-stops g c =
    closed_stops g.W.Words.means c.args.piece.now c.args.self.now c.requires.feeding (sym c.is_closed.ensures ∙ c.if-is_closed.true)
    c.requires.some c.offset-offset.result c.offset-offset.ensures (g.O.Sink.taken c.args.out.now)

pub play_front-requires-clause-feeding : goal.play_front-requires-clause-feeding
play_front-requires-clause-feeding g c =
    at_most_one_there g.W.Words.means c.args.piece.now c.args.self.now _ c.requires.feeding c.requires.length
    (sym c.is_closed.ensures ∙ c.if-is_closed.false) c.take-count.result c.take-count.ensures.takes c.take-count.ensures.limits refl refl

pub returns-in_err-play_front-clause-stops : goal.returns-in_err-play_front-clause-stops
returns-in_err-play_front-clause-stops g c =
    let old = c.args.self.now in
    let found = c.in_err-play_front.field-0.0 in
    let answer = c.from_residual-in_err-play_front.result in
    let result_is : answer ≡ Err found = search rules in
    if_err_is answer found _ result_is
    (some_stops g.W.Words.means c.args.piece.now old (record { reader = c.take-count.new.self; player = old.player; done = old.done })
    c.requires.feeding c.requires.length (sym c.is_closed.ensures ∙ c.if-is_closed.false) c.take-count.result c.take-count.ensures.takes
    c.take-count.ensures.limits refl refl c.play_front.new.self (g.O.Sink.taken c.args.out.now) (g.O.Sink.taken c.play_front.new.out) found
    c.in_err-play_front.ensures.stops)

pub returns-clause-feeds : goal.returns-clause-feeds
returns-clause-feeds g c =
    let old = c.args.self.now in
    some_fed g.W.Words.means c.args.piece.now old (record { reader = c.take-count.new.self; player = old.player; done = old.done })
    c.requires.feeding c.requires.length (sym c.is_closed.ensures ∙ c.if-is_closed.false) c.take-count.result c.take-count.ensures.takes
    c.take-count.ensures.limits refl refl c.play_front.new.self (g.O.Sink.taken c.args.out.now) (g.O.Sink.taken c.play_front.new.out)
    c.in_ok-play_front.ensures.feeds

pub returns-in_err-play-clause-stops : goal.returns-in_err-play-clause-stops
returns-in_err-play-clause-stops g c =
    let means = g.W.Words.means in
    let old = c.args.self.now in
    let piece = c.args.piece.now in
    let before = g.O.Sink.taken c.args.out.now in
    let after = g.O.Sink.taken c.play.new.out in
    let frame = frame_value c.in-Whole.frame in
    let none = no_bytes (feeding_of old.reader).have c.is_between.result c.is_between.ensures c.if-is_between.true in
    let whole = c.in-Whole.ensures.front ∙ ap (λ (l : Limits). front_of l piece) c.limits.ensures in
    let part = subst (λ (l : Limits). TakesPart before after (due_of means l old.player (frame ∷ []))) c.limits-in-Whole.ensures
    c.in_err-play.ensures.part in
    let result_is : c.from_residual.result ≡ Err WriteFault = search rules in
    if_err_is c.from_residual.result WriteFault _ result_is
    (place_fails means piece old c.requires.feeding c.requires.length (sym c.is_closed.ensures ∙ c.if-is_closed.false) none frame
    c.in-Whole.size whole
    (record { reader = old.reader; player = c.play.new.self; done = old.done }) before after part)

pub pass-requires-clause-length : goal.pass-requires-clause-length
pass-requires-clause-length g c =
    let old = c.args.self.now in
    let piece = c.args.piece.now in
    let none = no_bytes (feeding_of old.reader).have c.is_between.result c.is_between.ensures c.if-is_between.true in
    let whole = c.in-Whole.ensures.front ∙ ap (λ (l : Limits). front_of l piece) c.limits.ensures in
    place_fits g.W.Words.means piece old c.requires.feeding c.requires.length (sym c.is_closed.ensures ∙ c.if-is_closed.false) none
    (frame_value c.in-Whole.frame) c.in-Whole.size whole

pub returns-in-Whole-clause-feeds : goal.returns-in-Whole-clause-feeds
returns-in-Whole-clause-feeds g c =
    let means = g.W.Words.means in
    let old = c.args.self.now in
    let piece = c.args.piece.now in
    let before = g.O.Sink.taken c.args.out.now in
    let after = g.O.Sink.taken c.play.new.out in
    let frame = frame_value c.in-Whole.frame in
    let size = c.in-Whole.size in
    let none = no_bytes (feeding_of old.reader).have c.is_between.result c.is_between.ensures c.if-is_between.true in
    let whole = c.in-Whole.ensures.front ∙ ap (λ (l : Limits). front_of l piece) c.limits.ensures in
    let plays = subst (λ (l : Limits). Plays means l (frame ∷ []) old.player c.play.new.self before after) c.limits-in-Whole.ensures
    c.in_ok-play.ensures.plays in
    let next = c.pass.ensures.feeding ∙ ap (λ (shut : Bool). between ((feeding_of old.reader).at + size) shut) c.closes-closes.ensures in
    place_fed means piece old c.requires.feeding c.requires.length (sym c.is_closed.ensures ∙ c.if-is_closed.false) none frame size whole
    (record { reader = c.pass.new.self; player = c.play.new.self; done = old.done }) before after plays c.pass.ensures.limits refl next
    c.pass.ensures.reading

pub returns-in_err-play_front-clause-sink : goal.returns-in_err-play_front-clause-sink
returns-in_err-play_front-clause-sink g c =
    let found = c.in_err-play_front.field-0.0 in
    let answer = c.from_residual-in_err-play_front.result in
    let result_is : answer ≡ Err found = search rules in
    sink_left answer found (g.O.Sink.faults c.args.out.now) (g.O.Sink.faults c.args.out.now) (g.O.Sink.faults c.play_front.new.out) _
    result_is refl c.in_err-play_front.ensures.sink
