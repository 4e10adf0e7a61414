use Rattle.std.proofs.Common.{◌≡◌, ◌∙◌, false, ap, sym}
use Rattle.trace_base.specs.declared.policy.WriterPolicy.TheVariants.{Drops, Stalls}
use Rattle.chunk_words.specs.Sits.{setup_in}
use Rattle.trace_writer.specs.declared.route.Route.{Route}
use Rattle.trace_writer.specs.Core.{is_stalled}
use Rattle.thread_writer.specs.Writing.{core_of, view_in}
use Rattle.chunk_words_rows.proofs.writing.write_number.Goals as goal

pub returns-clause-ready : goal.returns-clause-ready
returns-clause-ready g c = record {
  writes = c.finish.ensures.writes;
  drops = ap (λ (r : Route). r.spec.policy) (c.finish.ensures.call.route ∙ (c.varint.ensures.call.1.made.route ∙ c.begin.ensures.call.made.route)) ∙ c.requires.ready.drops;
}

pub returns-clause-outside : goal.returns-clause-outside
returns-clause-outside g c =
    let before = core_of c.varint.new.self in
    let drops = ap (λ (r : Route). r.spec.policy) (c.varint.ensures.call.1.made.route ∙ c.begin.ensures.call.made.route) ∙ c.requires.ready.drops in
    let going : is_stalled before ≡ false = c.drops_never_stall.ensures (setup_in c.args.host.now) before.seat.place (view_in c.varint.new.self) before.writer
    c.varint.ensures.call.1.may_call.writes.agrees (λ stalls. absurd (let never : Drops ≡ Stalls = sym drops ∙ stalls in cc)) in
    c.finish.ensures.in_packet going
