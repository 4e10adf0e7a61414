use Rattle.thread_service.proofs.Standing.{still_serves}
use Rattle.thread_service.proofs.service.Service.commit_at.Goals as goal

pub returns-clause-stays : goal.returns-clause-stays
returns-clause-stays g c =
    let on = c.commit.ensures.leaves.service in
    still_serves g.N.Memory.table g.N.Memory.desk c.args.table.now c.commit.new.table.table.now c.args.self.now c.commit.new.self c.requires.memory
    on.step.seat_stays on.step.setup_stays on.agrees on.keeps.fields.session on.step.letters_stay c.requires.serves
