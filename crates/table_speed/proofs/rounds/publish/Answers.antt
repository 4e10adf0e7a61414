use Rattle.table_speed.proofs.HeldLemmas.{just_published, all_published}
use Rattle.table_speed.proofs.rounds.publish.Goals as goal

pub returns-clause-held : goal.returns-clause-held
returns-clause-held c =
    just_published c.args.host.now c.args.seat.now c.publish.new.seat c.args.held.now c.publish.new.held c.requires.held c.publish.ensures.seat c.publish.ensures.held c.publish.ensures.view

pub returns-clause-published : goal.returns-clause-published
returns-clause-published c =
    all_published c.args.host.now c.args.seat.now c.publish.new.seat c.args.held.now c.publish.new.held c.requires.held c.publish.ensures.held c.publish.ensures.view
