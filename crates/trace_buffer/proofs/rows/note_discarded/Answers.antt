use Rattle.trace_buffer.specs.Keys.{discarded_by}
use Rattle.trace_buffer.proofs.RowLemmas.{changed_is}
use Rattle.trace_buffer.proofs.rows.note_discarded.Goals as goal

pub returns : goal.returns
returns c =
    changed_is c.args.rows.now c.find_row-i.result c.args.key.sequence _ _ (discarded_by c.args.key) c.discard.new.self
    c.requires.once c.find_row-i.ensures.within c.find_row-i.ensures.number c.discard.ensures
