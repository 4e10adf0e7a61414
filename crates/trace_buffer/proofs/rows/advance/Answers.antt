use Rattle.trace_model.specs.Reads.{advanced}
use Rattle.trace_buffer.specs.Answers.{cursor_value, turn_value}
use Rattle.trace_buffer.proofs.RowLemmas.{changed_is}
use Rattle.trace_buffer.proofs.rows.advance.Goals as goal

pub returns : goal.returns
returns c =
    changed_is c.args.rows.now c.find_row-i.result c.args.number _ _ (advanced (cursor_value c.args.to) (turn_value c.args.passed)) c.advance.new.self
    c.requires.once c.find_row-i.ensures.within c.find_row-i.ensures.number c.advance.ensures
