use Rattle.replay_model.proofs.CountLemmas.{every_report_counts_packets}
use Rattle.replay_model.proofs.laws.every_report_counts_packets.Goals as goal

pub returns : goal.returns
returns c = every_report_counts_packets
