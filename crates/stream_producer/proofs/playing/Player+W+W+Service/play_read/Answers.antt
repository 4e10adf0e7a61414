-- A read is one call of the service.
use Rattle.std.proofs.Common.{refl}
use Rattle.stream_producer.proofs.ReadLemmas.{read_played, read_part}
use Rattle.stream_producer.proofs.playing.Player+W+W+Service.play_read.Goals as goal

pub returns-in-Ok-clause-plays : goal.returns-in-Ok-clause-plays
returns-in-Ok-clause-plays g c limits =
    let call = c.read_buffer in
    read_played g.W.Words.means limits c.args.buffer c.args.self.now _ (g.O.Sink.taken c.args.out.now) (g.O.Sink.taken call.new.out)
    c.requires.stands call.ensures.leaves.service.agrees call.ensures.leaves.service.step call.ensures.leaves.service.keeps _ c.in-Ok.ensures.reads refl refl

pub returns-in-Err-clause-part : goal.returns-in-Err-clause-part
returns-in-Err-clause-part g c limits =
    let call = c.read_buffer in
    read_part g.W.Words.means limits c.args.buffer c.args.self.now (g.W.Words.means.service_view call.new.table call.new.self.seat)
    (g.O.Sink.taken c.args.out.now) (g.O.Sink.taken call.new.out) c.in-Err.ensures.fails
