use Rattle.std.proofs.Common.{◌∙◌, ℕ, ◌+◌, ◌*◌, ◌≤◌, ◌++◌, Option, Some, length, rules, refl, sym, ap, subst}
use Rattle.std.specs.List.{repeat}
use Rattle.trace_model.specs.Packets.{Packet, with_more}
use Rattle.chunk_plain.specs.Words.{call_of}
use Rattle.trace_writer.specs.declared.packet.OpenPacket.{OpenPacket}
use Rattle.trace_writer.specs.Agreement.{len_of}
use Rattle.trace_writer.proofs.accounts.Calling.{field_long}
use Rattle.trace_writer.specs.Empty.{is_stalled}
use Rattle.trace_writer.specs.Flows.{is_stopped}
use Rattle.trace_writer.proofs.accounts.Agreeing.{agrees_behind, agrees_dropping, notes_behind, writing_not_lost, grows_more}
use Rattle.std.proofs.lemmas.Bool.{true≢false}
use Rattle.trace_writer.proofs.claims.Working.{asked_of}
use Rattle.trace_writer.proofs.packets.Written.{written_alone}
use Rattle.trace_writer.specs.Asked.{written_as}
use Rattle.trace_writer.proofs.accounts.Measuring.{measured_more}
use Rattle.trace_writer.proofs.field.write_field_on.Goals as goal

pub returns-in-Writing-clause-written : goal.returns-in-Writing-clause-written
returns-in-Writing-clause-written g c =
    let bytes = c.args.head.now ++ repeat c.args.times c.args.text.now in
    let count = length c.args.head.now + c.args.times * length c.args.text.now in
    let long = field_long c.args.head.now c.args.text.now c.args.times in
    let agrees = agrees_behind (g.W.Words.means.setup c.args.table.now) (g.W.Words.means.place c.args.seat.now) (g.W.Words.means.view c.args.table.now c.args.seat.now)
    (g.W.Words.means.view c.put_field-flow.new.table c.put_field-flow.new.seat) (g.W.Words.means.view c.go_on.new.table c.go_on.new.seat)
    c.args.writer.now c.go_on.new.writer c.take_state.new.state c.put_field-flow.new.pending c.in-Writing.fragment c.in-Some.packet c.add_field.new.self count
    (with_more bytes) (call_of c.args.call) c.put_field-flow.result c.requires.ready.at_work.agrees (sym c.in-Writing.ensures.taken) c.in-Some.is
    (grows_more bytes count long)
    (λ (packet : Packet) some m. measured_more c.in-Some.packet c.add_field.new.self packet bytes count long
    (c.add_field.ensures.len ∙ ap (λ (n : ℕ). c.in-Some.packet.len + (length c.args.head.now + n * length c.args.text.now)) c.from.ensures) c.add_field.ensures.starts some m)
    (subst (λ (o : Option OpenPacket). len_of o + count ≤ 1048576) c.in-Some.is c.requires.fits) c.requires.call c.put_field-flow.ensures.flow c.go_on.ensures.goes in
    let stopped = is_stopped c.put_field-flow.result in
    let noted = notes_behind (g.W.Words.means.setup c.args.table.now) (g.W.Words.means.place c.args.seat.now) (g.W.Words.means.view c.args.table.now c.args.seat.now)
    (g.W.Words.means.view c.put_field-flow.new.table c.put_field-flow.new.seat) (g.W.Words.means.view c.go_on.new.table c.go_on.new.seat)
    c.args.writer.now
    (record c.args.writer.now { state = c.take_state.new.state; packet = Some c.add_field.new.self; pending = c.put_field-flow.new.pending })
    c.go_on.new.writer c.put_field-flow.new.pending c.in-Writing.fragment (length c.args.head.now + c.args.times * length c.args.text.now)
    (with_more bytes) (call_of c.args.call) c.put_field-flow.result refl c.put_field-flow.ensures.flow c.go_on.ensures.goes in
    record {
      agrees = agrees;
      route_stays = search rules;
      stays = λ stalled. absurd (true≢false (sym stalled ∙ ap is_stalled (sym c.in-Writing.ensures.taken)));
      answers = λ _. c.go_on.ensures.answers;
      done = λ _. (
        stopped,
        asked_of g.W.Words.means g.H.HelperOn.needs g.H.HelperOn.helps
            c.args.writer.now c.args.help.now c.args.table.now c.args.seat.now c.args.steps.now stopped (written_as stopped c.args.writer.now.route.spec.policy (call_of c.args.call)) c.go_on.new.writer
            c.put_field-flow.new.help c.put_field-flow.new.table c.put_field-flow.new.seat c.put_field-flow.new.steps c.go_on.new.table c.go_on.new.seat g.met.H.HelperOn.needs_stay
            c.put_field-flow.ensures.work c.go_on.ensures.quiet
            noted.0 noted.1,
        λ stops. writing_not_lost (g.W.Words.means.setup c.args.table.now) (g.W.Words.means.place c.args.seat.now) (g.W.Words.means.view c.args.table.now c.args.seat.now) c.args.writer.now c.in-Writing.fragment
            c.requires.ready.at_work.agrees (sym c.in-Writing.ensures.taken),
      );
    }

pub returns-in-Dropping-clause-written : goal.returns-in-Dropping-clause-written
returns-in-Dropping-clause-written g c =
    let bytes = c.args.head.now ++ repeat c.args.times c.args.text.now in
    let count = length c.args.head.now + c.args.times * length c.args.text.now in
    let long = field_long c.args.head.now c.args.text.now c.args.times in
    let agrees = agrees_dropping (g.W.Words.means.setup c.args.table.now) (g.W.Words.means.place c.args.seat.now) (g.W.Words.means.view c.args.table.now c.args.seat.now)
    (g.W.Words.means.view c.note_call.new.self c.note_call.new.seat) c.args.writer.now c.put_state.new.state c.in-Dropping.next_position c.in-Some.packet c.add_field.new.self
    count (with_more bytes) (call_of c.args.call) c.requires.ready.at_work.agrees (sym c.in-Dropping.ensures.taken) c.put_state.ensures c.in-Some.is
    (grows_more bytes count long)
    (λ (packet : Packet) some m. measured_more c.in-Some.packet c.add_field.new.self packet bytes count long
    (c.add_field.ensures.len ∙ ap (λ (n : ℕ). c.in-Some.packet.len + (length c.args.head.now + n * length c.args.text.now)) c.from.ensures) c.add_field.ensures.starts some m)
    c.requires.call c.note_call.ensures.view in
    written_alone g.W.Words.means g.H.HelperOn.needs g.H.HelperOn.helps (call_of c.args.call) c.args.writer.now c.args.help.now c.args.table.now c.args.seat.now c.args.steps.now _
    (record c.args.writer.now { state = c.put_state.new.state; packet = Some c.add_field.new.self }) c.note_call.new.self c.note_call.new.seat _ c.requires.ready.at_work.seat_sits g.met.H.HelperOn.needs_stay
    c.requires.ready.needed agrees refl (ap is_stalled (sym c.in-Dropping.ensures.taken)) (ap is_stalled c.put_state.ensures)
    c.note_call.ensures.step c.note_call.ensures.view c.note_call.ensures.told
