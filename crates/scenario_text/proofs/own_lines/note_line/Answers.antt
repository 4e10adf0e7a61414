use Rattle.scenario_text.proofs.own_lines.note_line.Goals as goal

pub returns-in-Packet : goal.returns-in-Packet
returns-in-Packet c = rw c.in-Packet.is c.note_packet.ensures

pub returns-in_default : goal.returns-in_default
returns-in_default c = c.note_other.ensures c.args.bytes
