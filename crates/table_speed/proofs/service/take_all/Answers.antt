use Rattle.table_speed.proofs.TakenLemmas.{none_yet}
use Rattle.table_speed.proofs.service.take_all.Goals as goal

pub loop-init : goal.loop-init
loop-init c = record { seat = c.requires.seat; taken = none_yet c.args.seat c.requires.none }
