-- By what stands in front.
use Rattle.std.proofs.Common.{◌∙◌, ◌+◌, Bool, [], ◌∷◌, length, refl, ap, subst}
use Rattle.stream_frames.specs.Frames.{Limits}
use Rattle.stream_frames.specs.Framing.{between}
use Rattle.stream_frames.specs.Values.{frame_value, feeding_of}
use Rattle.stream_producer.specs.Standing.{Plays}
use Rattle.stream_producer.proofs.FrontLemmas.{front_short, front_bad, front_whole}
use Rattle.stream_producer.proofs.feeding.StreamCore+W+W+Service.play_front.Goals as goal

pub returns-in-Short-clause-feeds : goal.returns-in-Short-clause-feeds
returns-in-Short-clause-feeds g c =
    front_short g.W.Words.means c.args.self.now c.requires.feeding (g.O.Sink.taken c.args.out.now) c.in-Short.ensures.front

pub returns-in-Bad-clause-stops : goal.returns-in-Bad-clause-stops
returns-in-Bad-clause-stops g c =
    front_bad g.W.Words.means c.args.self.now c.requires.feeding (g.O.Sink.taken c.args.out.now) c.in-Bad.ensures.front
    c.offset.result c.offset.ensures

pub returns-in_ok-play-in-Whole-clause-feeds : goal.returns-in_ok-play-in-Whole-clause-feeds
returns-in_ok-play-in-Whole-clause-feeds g c =
    let means = g.W.Words.means in
    let old = c.args.self.now in
    let before = g.O.Sink.taken c.args.out.now in
    let after = g.O.Sink.taken c.play.new.out in
    let frame = frame_value c.in-Whole.frame in
    let plays = subst (λ (l : Limits). Plays means l (frame ∷ []) old.player c.play.new.self before after) c.limits.ensures
    c.in_ok-play-in-Whole.ensures.plays in
    let next = c.advance.ensures.feeding
    ∙ ap (λ (shut : Bool). between ((feeding_of old.reader).at + length (feeding_of old.reader).have) shut) c.closes-closes.ensures in
    front_whole means old c.requires.feeding before frame c.in-Whole.size c.in-Whole.ensures.front
    (record { reader = c.advance.new.self; player = c.play.new.self; done = c.args.self.now.done }) after plays c.advance.ensures.limits
    refl
    next c.advance.ensures.reading
