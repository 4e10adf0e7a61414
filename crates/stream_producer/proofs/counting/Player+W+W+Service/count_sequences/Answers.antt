-- Each sequence's counts are in its place.
use Rattle.std.proofs.Common.{◌∙◌, List, sym, ap, arith}
use Rattle.trace_model.specs.Buffers.{Buffer}
use Rattle.service_core.specs.Agreement.{spec_at}
use Rattle.stream_producer.proofs.CountLemmas.{count_of, counts_each}
use Rattle.stream_producer.proofs.counting.Player+W+W+Service.count_sequences.Goals as goal

pub returns : goal.returns
returns g c =
    let means = g.W.Words.means in
    let old = c.args.self.now in
    let writers = (means.setup old.table).writers in
    let agrees = c.requires.serves.agrees in
    let long = c.loop-place.invariant.long in
    let room = c.requires.room in
    let out = c.loop-place-test.false in
    counts_each old.service.buffers.items writers c.loop-place.sequences (omega (arith, long, room))
    (λ k d below.
    c.loop-place.invariant.each k d (omega (arith, below, room, out))
    ∙ ap (λ (bs : List Buffer). count_of bs k (spec_at writers k)) (sym agrees.buffers))
