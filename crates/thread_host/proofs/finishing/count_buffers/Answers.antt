-- Each buffer's counts are in its place.
use Rattle.std.proofs.Common.{◌∙◌, List, [], ap, arith}
use Rattle.std.proofs.lemmas.Option.{slice_get_within, get_or_from_slice_get}
use Rattle.trace_base.specs.declared.policy.FullPolicy.TheVariants.{Ring}
use Rattle.trace_model.specs.Buffers.{Buffer, empty_buffer}
use Rattle.trace_buffer.specs.Answers as answers
use Rattle.chunk_words.specs.Sits.{setup_in}
use Rattle.replay_host.proofs.CountingLemmas.{map_each}
use Rattle.thread_host.specs.Counting.{buffers_in}
use Rattle.thread_host.proofs.Tallying.{buffers_long}
use Rattle.thread_host.proofs.finishing.count_buffers.Goals as goal

pub returns : goal.returns
returns c table serves =
    let setup = setup_in table in
    let buffers : List Buffer = buffers_in setup c.args.service.now in
    let wide = buffers_long setup c.args.service.now in
    let long = c.buffers.invariant.long in
    let room = c.requires.room in
    let out = c.buffers-test.false in
    map_each answers.counts_of buffers c.buffers.buffers (omega (arith, long, room, wide))
    (λ k buffer d at.
    let inside = slice_get_within buffers k buffer at in
    c.buffers.invariant.each table serves k d (omega (arith, inside, wide, room, out))
    ∙ ap answers.counts_of (get_or_from_slice_get buffers k buffer (empty_buffer 0 Ring []) at))
