use Rattle.std.proofs.Common.{◌≡◌, ◌∙◌, ℕ, false, Option, Some, None, ap, sym}
use Rattle.trace_base.specs.declared.policy.WriterPolicy.TheVariants.{Drops, Stalls}
use Rattle.chunk_words.specs.declared.seats.WriterSeat.{WriterSeat}
use Rattle.chunk_words.specs.Sits.{setup_in}
use Rattle.trace_writer.specs.declared.route.Route.{Route}
use Rattle.trace_writer.specs.declared.state.Writer.{Writer}
use Rattle.trace_writer.specs.declared.writer.WriterCore.{WriterCore}
use Rattle.trace_writer.specs.Core.{is_stalled, route_of}
use Rattle.thread_writer.specs.Polling.{Polls}
use Rattle.thread_writer.specs.Writing.{core_of, view_in}
use Rattle.chunk_words_rows.proofs.answers.poll.Goals as goal

-- a poll leaves where the writer writes
route_stays : (answer : Option (ℕ × ℕ)) (old new : WriterCore WriterSeat) → Polls answer old new → route_of new ≡ route_of old
route_stays None old new polls = ap (λ (w : Writer). w.route) polls.hears.writer
route_stays (Some answer) old new polls = polls.route

pub returns-clause-ready : goal.returns-clause-ready
returns-clause-ready c =
    let old = c.args.writer.now in let ready = c.requires.ready in
    let going : is_stalled (core_of old) ≡ false = c.drops_never_stall.ensures (setup_in c.args.host.now) (core_of old).seat.place (view_in old) (core_of old).writer
    ready.writes.agrees (λ stalls. absurd (let never : Drops ≡ Stalls = sym ready.drops ∙ stalls in cc)) in
    record {
      writes = c.poll_flush.ensures.writes;
      drops = ap (λ (r : Route). r.spec.policy) (route_stays c.poll_flush.result (core_of old) (core_of c.poll_flush.new.self) (c.poll_flush.ensures.polls going)) ∙ ready.drops;
    }
