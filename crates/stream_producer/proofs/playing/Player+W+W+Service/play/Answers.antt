-- Each kind of frame by itself.
use Rattle.std.proofs.Common.{[], ◌∷◌, sym, subst}
use Rattle.std.specs.Prelude.{OnErr}
use Rattle.byte_io.specs.Bytes.{TakesPart}
use Rattle.stream_frames.specs.declared.frame.Frame.{Frame}
use Rattle.stream_frames.specs.Values.{limits_value, frame_value}
use Rattle.stream_producer.specs.Standing.{Plays, due_of}
use Rattle.stream_producer.proofs.PlayLemmas.{plays_close}
use Rattle.stream_producer.proofs.playing.Player+W+W+Service.play.Goals as goal

pub returns-in-Commit-clause-plays : goal.returns-in-Commit-clause-plays
returns-in-Commit-clause-plays g c =
    let taken = g.O.Sink.taken c.args.out.now in
    subst (λ (f : Frame). Plays g.W.Words.means (limits_value c.args.limits.now) (frame_value f ∷ []) c.args.self.now c.play_commit.new.self
    taken taken)
    (sym c.in-Commit.is) (c.play_commit.ensures.plays taken)

pub returns-in-Read-clause-part : goal.returns-in-Read-clause-part
returns-in-Read-clause-part g c =
    let before = g.O.Sink.taken c.args.out.now in
    let after = g.O.Sink.taken c.play_read.new.out in
    subst (λ (f : Frame). OnErr c.play_read.result
    (TakesPart before after (due_of g.W.Words.means (limits_value c.args.limits.now) c.args.self.now (frame_value f ∷ []))))
    (sym c.in-Read.is) (c.play_read.ensures.part (limits_value c.args.limits.now))

pub returns-in-Close-clause-plays : goal.returns-in-Close-clause-plays
returns-in-Close-clause-plays g c =
    let taken = g.O.Sink.taken c.args.out.now in
    subst (λ (f : Frame). Plays g.W.Words.means (limits_value c.args.limits.now) (frame_value f ∷ []) c.args.self.now c.args.self.now taken
    taken)
    (sym c.in-Close.is) (plays_close g.W.Words.means (limits_value c.args.limits.now) c.args.self.now taken c.requires.stands)
