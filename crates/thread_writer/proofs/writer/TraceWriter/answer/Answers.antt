use Rattle.std.proofs.Common.{◌≡◌, ◌∙◌, length, take, refl, sym, ap, subst}
use Rattle.crossbeam_utils.specs.Padded.{padded_with_value}
use Rattle.chunk_plain.specs.Histories.{completed_images}
use Rattle.chunk_plain.specs.Letters.{NoClaimSince, answers_with}
use Rattle.chunk_plain.specs.Owned.{held_count}
use Rattle.chunk_words.specs.declared.seats.WriterSeat.{WriterSeat}
use Rattle.chunk_words.specs.Sits.{known_by}
use Rattle.trace_writer.specs.declared.writer.WriterCore.{WriterCore}
use Rattle.thread_writer.proofs.Polling.{none_of_them, answered_writes}
use Rattle.thread_writer.proofs.writer.TraceWriter.answer.Goals as goal

pub answer-requires-clause-chunks : goal.answer-requires-clause-chunks
answer-requires-clause-chunks c =
    c.completed-chunks.ensures c.args.table.now c.requires.writes
    ∙ sym (ap (λ (core : WriterCore WriterSeat). length (completed_images (known_by core.seat).begun)) c.deref_mut.ensures.value)

pub answer-requires-clause-none_held : goal.answer-requires-clause-none_held
answer-requires-clause-none_held c =
    let chunks = c.completed-chunks.result in
    subst (λ (core : WriterCore WriterSeat). held_count (take chunks (known_by core.seat).begun) ≡ 0) (sym c.deref_mut.ensures.value)
    (none_of_them c.args.table.now c.args.self.now chunks c.requires.writes c.requires.none_held (c.completed-chunks.ensures c.args.table.now c.requires.writes))

pub answer-requires-clause-no_claim : goal.answer-requires-clause-no_claim
answer-requires-clause-no_claim c = subst (λ (core : WriterCore WriterSeat). NoClaimSince (known_by core.seat)) (sym c.deref_mut.ensures.value) c.requires.no_claim

pub returns-clause-writes : goal.returns-clause-writes
returns-clause-writes c =
    let before = c.deref_mut.result.now in let is = c.deref_mut.ensures.value in let flush = c.args.flush in let chunks = c.completed-chunks.result in
    answered_writes c.args.table.now c.args.self.now
    (record c.args.self.now { core = padded_with_value c.args.self.now.core (record before { seat = c.answer.new.seat }); answered = flush })
    flush chunks c.requires.writes refl refl c.requires.none_held c.requires.flushed (c.completed-chunks.ensures c.args.table.now c.requires.writes)
    (ap (λ (core : WriterCore WriterSeat). core.writer) is)
    (c.answer.ensures.place ∙ ap (λ (core : WriterCore WriterSeat). core.seat.place) is) c.answer.ensures.seat
    (c.answer.ensures.view ∙ ap (λ (core : WriterCore WriterSeat). answers_with (known_by core.seat) flush chunks) is)
