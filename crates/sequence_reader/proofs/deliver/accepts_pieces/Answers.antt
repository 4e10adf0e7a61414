use Rattle.std.proofs.Common.{◌∙◌}
use Rattle.sequence_reader.proofs.CheckingLemmas.{checking_room, checking_end}
use Rattle.sequence_reader.proofs.deliver.accepts_pieces.Goals as goal

pub feed-requires : goal.feed-requires
feed-requires c = checking_room c.args.buffer.now c.args.bounds c.args.spot c.loop-piece.piece c.loop-piece.check c.loop-piece.invariant

pub returns-then-not-piece : goal.returns-then-not-piece
returns-then-not-piece c =
    c.accepts.ensures
    ∙ checking_end c.args.buffer.now c.args.bounds c.args.spot c.loop-piece.piece c.loop-piece.check c.loop-piece.invariant c.feed.new.self
    c.feed.ensures.walk c.if-not-piece.true
