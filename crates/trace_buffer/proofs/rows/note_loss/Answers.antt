use Rattle.trace_buffer.proofs.LossLemmas.{loses_at}
use Rattle.trace_buffer.proofs.rows.note_loss.Goals as goal

pub returns : goal.returns
returns c =
    loses_at c.args.rows.now c.find_row-i.result c.one_if.result c.args.key _ _ c.lose_record.new.self c.lose_record.result
    c.requires.once c.find_row-i.ensures.within c.find_row-i.ensures.number c.lose_record.ensures.after c.lose_record.ensures.unread c.one_if.ensures
