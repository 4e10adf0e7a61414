use Rattle.trace_model.proofs.PacketLemmas.{packets_are_fronted}
use Rattle.trace_model.proofs.laws.packets_are_fronted.Goals as goal

pub returns : goal.returns
returns c = packets_are_fronted
