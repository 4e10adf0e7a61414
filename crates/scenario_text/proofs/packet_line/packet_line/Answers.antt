use Rattle.std.proofs.Common.{arith}
use Rattle.scenario_text.proofs.PacketLemmas.{one_at, two_at}
use Rattle.scenario_text.proofs.packet_line.packet_line.Goals as goal

pub returns-in-32 : goal.returns-in-32
returns-in-32 c =
    one_at c.args.line.now (omega arith) (omega arith) (omega arith) (omega arith) (omega arith) (omega arith) (omega arith)

pub returns : goal.returns
returns c =
    two_at c.args.line.now (omega arith) (omega arith) (omega arith) (omega arith) (omega arith) (omega arith) (omega arith) (omega arith) (omega arith)
