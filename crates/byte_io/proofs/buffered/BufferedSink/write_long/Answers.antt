-- A long piece that goes straight on to the sink behind.
use Rattle.byte_io.specs.Bytes.{Intake}
use Rattle.byte_io.proofs.Lent.{grown_up_to, grown_written}
use Rattle.byte_io.proofs.buffered.BufferedSink.write_long.Goals as goal

pub invariant_of-self-2 : goal.invariant_of-self-2
invariant_of-self-2 g c =
    let start : Intake = g.O.Sink.taken c.args.self.now.start.value in
    let before = grown_up_to start _ _ _ _ c.pass_on.ensures.passed c.args.self.now.grown in
    record { grown = grown_written start _ _ c.write.result c.args.piece.now before c.write.ensures.bytes c.write.ensures.err }
