use Rattle.thread_service.proofs.Standing.{still_serves}
use Rattle.thread_service.proofs.service.Service.close_at.Goals as goal

pub returns-clause-stays : goal.returns-clause-stays
returns-clause-stays g c =
    let on = c.close_producer.ensures in
    still_serves g.N.Memory.table g.N.Memory.desk c.args.table.now c.close_producer.new.table.table.now c.args.self.now c.close_producer.new.self c.requires.memory
    on.step.seat_stays on.step.setup_stays on.agrees on.closes.fields.session on.step.letters_stay c.requires.serves
