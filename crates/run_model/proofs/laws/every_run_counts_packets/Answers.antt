use Rattle.run_model.proofs.CountLemmas.{every_run_counts_packets}
use Rattle.run_model.proofs.laws.every_run_counts_packets.Goals as goal

pub returns : goal.returns
returns c = every_run_counts_packets
