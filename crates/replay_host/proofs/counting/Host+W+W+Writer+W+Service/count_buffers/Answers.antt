-- Each buffer's counts are in its place.
use Rattle.std.proofs.Common.{◌≡◌, ◌∙◌, List, [], length, ap, arith}
use Rattle.std.proofs.lemmas.Option.{slice_get_within, get_or_from_slice_get}
use Rattle.trace_base.specs.declared.policy.FullPolicy.TheVariants.{Ring}
use Rattle.trace_model.specs.Buffers.{Buffer, empty_buffer}
use Rattle.trace_buffer.specs.Answers as answers
use Rattle.replay_host.specs.Counting.{buffers_now}
use Rattle.replay_host.proofs.CountingLemmas.{map_each, buffers_long}
use Rattle.replay_host.proofs.counting.Host+W+W+Writer+W+Service.count_buffers.Goals as goal

pub returns : goal.returns
returns g c =
    let means = g.W.Words.means in
    let buffers : List Buffer = buffers_now means c.args.self.now in
    let wide : length buffers ≡ length c.args.self.now.helper.service.specs.items = buffers_long means c.args.self.now in
    let long = c.loop-index.invariant.long in
    let room = c.requires.room in
    let out = c.loop-index-test.false in
    map_each answers.counts_of buffers c.loop-index.buffers (omega (arith, long, room, wide))
    (λ k buffer d at.
    let inside = slice_get_within buffers k buffer at in
    c.loop-index.invariant.each k d (omega (arith, inside, wide, room, out))
    ∙ ap answers.counts_of (get_or_from_slice_get buffers k buffer (empty_buffer 0 Ring []) at))
