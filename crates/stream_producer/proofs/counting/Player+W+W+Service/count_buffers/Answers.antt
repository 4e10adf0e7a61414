-- Each buffer's counts are in its place.
use Rattle.std.proofs.Common.{◌≡◌, ◌∙◌, List, [], length, sym, ap, arith}
use Rattle.std.proofs.lemmas.Option.{slice_get_within, get_or_from_slice_get}
use Rattle.trace_base.specs.declared.policy.FullPolicy.TheVariants.{Ring}
use Rattle.trace_model.specs.Buffers.{Buffer, empty_buffer}
use Rattle.trace_buffer.specs.Answers as answers
use Rattle.service_core.specs.Routing.{buffer_at}
use Rattle.stream_producer.specs.Standing.{view_of}
use Rattle.stream_producer.proofs.CountLemmas.{map_each}
use Rattle.stream_producer.proofs.FinishLemmas.{many_buffers}
use Rattle.stream_producer.proofs.counting.Player+W+W+Service.count_buffers.Goals as goal

pub returns : goal.returns
returns g c =
    let means = g.W.Words.means in
    let old = c.args.self.now in
    let buffers : List Buffer = old.service.buffers.items in
    let agrees = c.requires.serves.agrees in
    let wide : length buffers ≡ length old.service.specs.items =
    many_buffers (means.setup old.table) (view_of means old) old.service agrees in
    let long = c.loop-index.invariant.long in
    let room = c.requires.room in
    let out = c.loop-index-test.false in
    map_each answers.counts_of buffers c.loop-index.buffers (omega (arith, long, room, wide))
    (λ k buffer d at.
    let inside = slice_get_within buffers k buffer at in
    c.loop-index.invariant.each k d (omega (arith, inside, wide, room, out))
    ∙ ap (λ (bs : List Buffer). answers.counts_of (buffer_at bs k)) (sym agrees.buffers)
    ∙ ap answers.counts_of (get_or_from_slice_get buffers k buffer (empty_buffer 0 Ring []) at))
