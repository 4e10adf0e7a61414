use Rattle.trace_buffer.specs.Answers.{cursor_value}
use Rattle.trace_buffer.specs.Calls.{delivered_to}
use Rattle.trace_buffer.proofs.RowLemmas.{changed_is}
use Rattle.trace_buffer.proofs.rows.deliver.Goals as goal

pub returns : goal.returns
returns c =
    changed_is c.args.rows.now c.find_row-i.result c.args.number _ _ (delivered_to (cursor_value c.args.to) c.args.count) c.deliver.new.self
    c.requires.once c.find_row-i.ensures.within c.find_row-i.ensures.number c.deliver.ensures
