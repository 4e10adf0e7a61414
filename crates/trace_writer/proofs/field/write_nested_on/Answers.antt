use Rattle.std.proofs.Common.{◌≡◌, ◌∙◌, ℕ, ◌+◌, ◌<◌, ◌≤◌, List, Option, Some, length, rules, refl, sym, ap, subst}
use Rattle.trace_model.specs.Calls as call
use Rattle.trace_model.specs.Encoding.{nested_tag}
use Rattle.trace_model.specs.Packets.{Packet, Account, noted, on_newest, with_more}
use Rattle.cut_steps.specs.Writing.{with_open}
use Rattle.trace_writer.specs.declared.packet.OpenPacket.{OpenPacket}
use Rattle.trace_writer.specs.Agreement.{len_of, open_message_count}
use Rattle.trace_writer.specs.Empty.{is_stalled}
use Rattle.trace_writer.specs.Flows.{is_stopped}
use Rattle.trace_writer.proofs.accounts.Agreeing.{agrees_behind, agrees_dropping, notes_behind, writing_not_lost, as_many_holes, grows_nested}
use Rattle.std.proofs.lemmas.Bool.{true≢false}
use Rattle.trace_writer.proofs.claims.Working.{asked_of}
use Rattle.trace_writer.proofs.packets.Written.{written_alone}
use Rattle.trace_writer.specs.Asked.{written_as}
use Rattle.trace_writer.proofs.accounts.Measuring.{measured_nested}
use Rattle.trace_writer.proofs.field.write_nested_on.Goals as goal

noted_tag : (field : ℕ) (tag : List ℕ) → tag ≡ nested_tag field → (account : Account)
    → noted account (call.Nested field) ≡ on_newest (λ (packet : Packet). with_open (with_more tag packet)) account
noted_tag field tag is account = ap (λ (t : List ℕ). on_newest (λ (packet : Packet). with_open (with_more t packet)) account) (sym is)

pub put_nested-flow-requires-clause-few : goal.put_nested-flow-requires-clause-few
put_nested-flow-requires-clause-few g c =
    let many = as_many_holes (g.W.Words.means.setup c.args.table.now) (g.W.Words.means.place c.args.seat.now) (g.W.Words.means.view c.args.table.now c.args.seat.now)
    c.args.writer.now c.in-Writing.fragment c.in-Some.packet c.requires.ready.at_work.agrees (sym c.in-Writing.ensures.taken) c.in-Some.is in
    subst (λ (n : ℕ). n < 16) (sym many) (subst (λ (o : Option OpenPacket). open_message_count o < 16) c.in-Some.is c.requires.depth)

pub returns-in-Writing-clause-written : goal.returns-in-Writing-clause-written
returns-in-Writing-clause-written g c =
    let tag = c.as_slice-tag.result.now in
    let agrees = agrees_behind (g.W.Words.means.setup c.args.table.now) (g.W.Words.means.place c.args.seat.now) (g.W.Words.means.view c.args.table.now c.args.seat.now)
    (g.W.Words.means.view c.put_nested-flow.new.table c.put_nested-flow.new.seat) (g.W.Words.means.view c.go_on.new.table c.go_on.new.seat)
    c.args.writer.now c.go_on.new.writer c.take_state.new.state c.put_nested-flow.new.pending c.in-Writing.fragment c.in-Some.packet c.add_nested.new.self
    (length tag + 4) (λ (packet : Packet). with_open (with_more tag packet)) (call.Nested c.args.field) c.put_nested-flow.result c.requires.ready.at_work.agrees
    (sym c.in-Writing.ensures.taken) c.in-Some.is (grows_nested tag)
    (λ (packet : Packet) some m. measured_nested c.in-Some.packet c.add_nested.new.self packet tag (length tag) refl c.add_nested.ensures.len c.add_nested.ensures.starts some m)
    (subst (λ (o : Option OpenPacket). len_of o + (length tag + 4) ≤ 1048576) c.in-Some.is
    (subst (λ (t : List ℕ). len_of c.args.writer.now.packet + (length t + 4) ≤ 1048576) (sym (c.as_slice-tag.ensures ∙ c.head_nested-head.ensures)) c.requires.fits)) (noted_tag c.args.field tag (c.as_slice-tag.ensures ∙ c.head_nested-head.ensures)) c.put_nested-flow.ensures.flow c.go_on.ensures.goes in
    let stopped = is_stopped c.put_nested-flow.result in
    let noted = notes_behind (g.W.Words.means.setup c.args.table.now) (g.W.Words.means.place c.args.seat.now) (g.W.Words.means.view c.args.table.now c.args.seat.now)
    (g.W.Words.means.view c.put_nested-flow.new.table c.put_nested-flow.new.seat) (g.W.Words.means.view c.go_on.new.table c.go_on.new.seat)
    c.args.writer.now
    (record c.args.writer.now { state = c.take_state.new.state; packet = Some c.add_nested.new.self; pending = c.put_nested-flow.new.pending })
    c.go_on.new.writer c.put_nested-flow.new.pending c.in-Writing.fragment (length tag + 4)
    (λ (packet : Packet). with_open (with_more tag packet)) (call.Nested c.args.field) c.put_nested-flow.result refl c.put_nested-flow.ensures.flow c.go_on.ensures.goes in
    record {
      agrees = agrees;
      route_stays = search rules;
      stays = λ stalled. absurd (true≢false (sym stalled ∙ ap is_stalled (sym c.in-Writing.ensures.taken)));
      answers = λ _. c.go_on.ensures.answers;
      done = λ _. (
        stopped,
        asked_of g.W.Words.means g.H.HelperOn.needs g.H.HelperOn.helps
            c.args.writer.now c.args.help.now c.args.table.now c.args.seat.now c.args.steps.now stopped (written_as stopped c.args.writer.now.route.spec.policy (call.Nested c.args.field)) c.go_on.new.writer
            c.put_nested-flow.new.help c.put_nested-flow.new.table c.put_nested-flow.new.seat c.put_nested-flow.new.steps c.go_on.new.table c.go_on.new.seat g.met.H.HelperOn.needs_stay
            c.put_nested-flow.ensures.work c.go_on.ensures.quiet
            noted.0 noted.1,
        λ stops. writing_not_lost (g.W.Words.means.setup c.args.table.now) (g.W.Words.means.place c.args.seat.now) (g.W.Words.means.view c.args.table.now c.args.seat.now) c.args.writer.now c.in-Writing.fragment
            c.requires.ready.at_work.agrees (sym c.in-Writing.ensures.taken),
      );
    }

pub returns-in-Dropping-clause-written : goal.returns-in-Dropping-clause-written
returns-in-Dropping-clause-written g c =
    let tag = c.as_slice-tag.result.now in
    let agrees = agrees_dropping (g.W.Words.means.setup c.args.table.now) (g.W.Words.means.place c.args.seat.now) (g.W.Words.means.view c.args.table.now c.args.seat.now)
    (g.W.Words.means.view c.note_call.new.self c.note_call.new.seat) c.args.writer.now c.put_state.new.state c.in-Dropping.next_position c.in-Some.packet c.add_nested.new.self
    (length tag + 4) (λ (packet : Packet). with_open (with_more tag packet)) (call.Nested c.args.field) c.requires.ready.at_work.agrees (sym c.in-Dropping.ensures.taken)
    c.put_state.ensures c.in-Some.is (grows_nested tag)
    (λ (packet : Packet) some m. measured_nested c.in-Some.packet c.add_nested.new.self packet tag (length tag) refl c.add_nested.ensures.len c.add_nested.ensures.starts some m)
    (noted_tag c.args.field tag (c.as_slice-tag.ensures ∙ c.head_nested-head.ensures)) c.note_call.ensures.view in
    written_alone g.W.Words.means g.H.HelperOn.needs g.H.HelperOn.helps (call.Nested c.args.field) c.args.writer.now c.args.help.now c.args.table.now c.args.seat.now c.args.steps.now _
    (record c.args.writer.now { state = c.put_state.new.state; packet = Some c.add_nested.new.self }) c.note_call.new.self c.note_call.new.seat _ c.requires.ready.at_work.seat_sits g.met.H.HelperOn.needs_stay
    c.requires.ready.needed agrees refl (ap is_stalled (sym c.in-Dropping.ensures.taken)) (ap is_stalled c.put_state.ensures)
    c.note_call.ensures.step c.note_call.ensures.view c.note_call.ensures.told
