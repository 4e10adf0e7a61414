use Rattle.std.proofs.Common.{arith}
use Rattle.scenario_text.specs.View.{state_of}
use Rattle.scenario_text.proofs.PacketLemmas.{packet_too_many}
use Rattle.scenario_text.proofs.reader.Reader.play_packet.Goals as goal

pub returns-then-from : goal.returns-then-from
returns-then-from c =
    packet_too_many (state_of c.args.self.now) c.args.number c.args.line.now c.args.found.fields.now c.args.found.writer
    c.in_ok-addition.addition.fields c.in_ok-addition.addition.len c.if-not-takes_packet.ensures.front c.if-not-takes_packet.ensures.none
    c.requires.fields c.in_ok-addition.ensures.packet.0 c.in_ok-addition.ensures.packet.1 c.in_ok-addition.ensures.most (omega arith)
