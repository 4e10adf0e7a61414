use Rattle.std.proofs.Common.{ap, ◌∙◌}
use Rattle.trace_model.specs.Arrivals.{with_arrived, is_too_far}
use Rattle.trace_model.specs.Sequences.{Sequence, has_arrived}
use Rattle.trace_buffer.proofs.RowLemmas.{changed_is, sequence_is}
use Rattle.trace_buffer.proofs.rows.note_arrived.Goals as goal

pub note_arrived-requires-clause-open : goal.note_arrived-requires-clause-open
note_arrived-requires-clause-open c =
    ap (λ (s : Sequence). s.closed) (sequence_is c.args.rows.now c.find_row-i.result c.args.number _ _ c.requires.once c.find_row-i.ensures.within c.find_row-i.ensures.number) ∙ c.requires.open

pub note_arrived-requires-clause-fresh : goal.note_arrived-requires-clause-fresh
note_arrived-requires-clause-fresh c =
    ap (λ (s : Sequence). has_arrived s c.args.position) (sequence_is c.args.rows.now c.find_row-i.result c.args.number _ _ c.requires.once c.find_row-i.ensures.within c.find_row-i.ensures.number) ∙ c.requires.fresh

pub note_arrived-requires-clause-near : goal.note_arrived-requires-clause-near
note_arrived-requires-clause-near c =
    ap (λ (s : Sequence). is_too_far s c.args.position) (sequence_is c.args.rows.now c.find_row-i.result c.args.number _ _ c.requires.once c.find_row-i.ensures.within c.find_row-i.ensures.number) ∙ c.requires.near

pub returns : goal.returns
returns c =
    changed_is c.args.rows.now c.find_row-i.result c.args.number _ _ (with_arrived c.args.position c.args.count) c.note_arrived.new.self
    c.requires.once c.find_row-i.ensures.within c.find_row-i.ensures.number c.note_arrived.ensures
