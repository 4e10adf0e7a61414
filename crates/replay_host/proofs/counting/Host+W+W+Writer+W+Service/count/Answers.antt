-- Buffers, sequences and requests are counted.
use Rattle.std.proofs.Common.{◌≡◌, ◌∙◌, List, length, sym, ap, arith}
use Rattle.std.proofs.lemmas.List.{length-map, with_items_is}
use Rattle.trace_buffer.specs.Answers.{counts_of}
use Rattle.trace_buffer.specs.declared.answers.BufferCounts.{BufferCounts}
use Rattle.loss_report.specs.declared.counts.SequenceCounts.{SequenceCounts}
use Rattle.replay_host.specs.Counting.{buffers_now}
use Rattle.replay_host.proofs.CountingLemmas.{buffers_long, counts_all}
use Rattle.replay_host.proofs.RowLemmas.{AreLaws}
use Rattle.replay_host.proofs.counting.Host+W+W+Writer+W+Service.count.Goals as goal

pub returns-clause-counts : goal.returns-clause-counts
returns-clause-counts g c scenario notes world told played playable first tally marked =
    let means = g.W.Words.means in
    let laws : AreLaws means = record {
      told_view = g.met.W.Words.told_view;
      told_service_view = g.met.W.Words.told_service_view;
      told_writers = g.met.W.Words.told_writers;
      told_owned = g.met.W.Words.told_owned;
    } in
    let host = c.args.self.now in
    let buffers : List BufferCounts = c.count_buffers.new.buffers in
    let sequences : List SequenceCounts = c.count_sequences.new.sequences in
    let writers_joined = host.writers.ok.0 in
    let many = c.len.ensures in
    let room = c.count_sequences.ensures.room in
    let wide : length c.deref_mut-2.result.now ≡ length c.args.done.now.sequences.items =
    ap (λ (xs : List SequenceCounts). length xs) c.deref_mut-2.ensures.value in
    let joined = c.args.done.now.sequences.ok.0 in
    let said = c.requires.rows.sequences in
    let buffers_many : length buffers ≡ length host.helper.service.specs.items =
    ap (λ (xs : List BufferCounts). length xs) c.count_buffers.ensures ∙ length-map (buffers_now means host) counts_of
    ∙ buffers_long means host in
    let is = counts_all means laws host c.requires.host c.args.marks.now buffers sequences c.answer_for_rest.new.flushes c.len.result
    (omega (arith, many, writers_joined)) c.count_buffers.ensures
    (omega (arith, room, wide, joined, said)) c.count_sequences.ensures.each c.answer_for_rest.ensures.tally
    c.answer_for_rest.new.flushes.chunks.ok.0
    scenario notes world told played playable first tally marked in
    record {
      buffers_are = with_items_is c.args.done.now.buffers buffers (buffers_many ∙ sym c.requires.rows.buffers) ∙ is.buffers_are;
      sequences_are = with_items_is c.args.done.now.sequences sequences (omega (arith, room, wide, joined)) ∙ is.sequences_are;
      sums_are = is.sums_are;
    }
