use Rattle.std.proofs.Common.{◌≡◌, ◌∙◌, sym, arith}
use Rattle.trace_base.specs.declared.policy.WriterPolicy.TheVariants.{Drops, Stalls}
use Rattle.chunk_words.specs.Sits.{setup_in}
use Rattle.thread_writer.specs.Writing.{core_of, view_in}
use Rattle.table_speed.proofs.writers.end_packet.Goals as goal

pub messages-smaller : goal.messages-smaller
messages-smaller c =
    let writer = c.messages.writer in let ready = c.messages.invariant.ready in
    let going = c.drops_never_stall.ensures (setup_in c.args.host.now) (core_of writer).seat.place (view_in writer) (core_of writer).writer ready.writes.agrees
    (λ stalls. let wrong : Drops ≡ Stalls = sym ready.drops ∙ stalls in cc) in
    let falls = c.end_nested.ensures.depth_falls going in
    omega (arith, falls)
