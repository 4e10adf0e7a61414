use Rattle.delivery_laws.proofs.EnoughLemmas.{every_packet_is_delivered}
use Rattle.delivery_laws.proofs.laws.every_packet_is_delivered.Goals as goal

pub returns : goal.returns
returns c = every_packet_is_delivered
