use Rattle.schedule_laws.proofs.ReportLemmas.{every_packet_is_counted}
use Rattle.schedule_laws.proofs.laws.every_packet_is_counted.Goals as goal

pub returns : goal.returns
returns c = every_packet_is_counted
