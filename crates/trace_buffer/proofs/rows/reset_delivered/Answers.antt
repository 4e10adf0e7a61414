use Rattle.trace_buffer.specs.Clones.{none_delivered}
use Rattle.trace_buffer.proofs.RowLemmas.{changed_is}
use Rattle.trace_buffer.proofs.rows.reset_delivered.Goals as goal

pub returns : goal.returns
returns c =
    changed_is c.args.rows.now c.find_row-i.result c.args.number _ _ none_delivered c.reset_delivered.new.self
    c.requires.once c.find_row-i.ensures.within c.find_row-i.ensures.number c.reset_delivered.ensures
