use Rattle.std.proofs.Common.{◌≡◌, ◌%◌, true, set, ap, ◌∙◌}
use Rattle.trace_model.specs.Sequences.{Sequence, with_number}
use Rattle.trace_buffer.specs.Circle.{marked}
use Rattle.trace_buffer.specs.RowFields.{row_view}
use Rattle.trace_buffer.specs.declared.row.SequenceRow.TheInside.{Inside}
use Rattle.trace_buffer.proofs.CircleLemmas.{marked_more}
use Rattle.trace_buffer.proofs.FieldLemmas.{is_ahead}
use Rattle.trace_buffer.proofs.row.SequenceRow.mark_final.Goals as goal

pub returns : goal.returns
returns c =
    let a : Inside = c.self.inside in
    let near = is_ahead a c.args.self.now c.args.position c.self.view_is c.self.invariant c.requires.fresh c.requires.near in
    let final : marked (set a.finals.items c.place_of.result true) 1024 a.base ≡ with_number c.args.position (marked a.finals.items 1024 a.base) =
    ap (λ k. marked (set a.finals.items k true) 1024 a.base) (c.place_of.ensures.is ∙ ap (λ n. n % 1024) c.from.ensures)
    ∙ marked_more a.finals.items a.base c.args.position c.self.invariant.finals near.from near.to in
    (λ i. record (row_view a) { final = final i })
    ∙ ap (λ (s : Sequence). record s { final = with_number c.args.position s.final }) c.self.view_is
