use Rattle.std.proofs.Common.{◌∙◌, true, [], ◌∷◌, sym}
use Rattle.std.proofs.lemmas.Bool.{true≢false}
use Rattle.trace_model.specs.Calls as call
use Rattle.trace_writer.proofs.stops.Stopping.{refuses_none}
use Rattle.trace_writer.proofs.packets.Starting.{roomy_goes}
use Rattle.trace_writer.proofs.claims.Working.{asked_alone}
use Rattle.trace_writer.proofs.begin.begin.Goals as goal

pub returns-then-has_room_here-clause-begins : goal.returns-then-has_room_here-clause-begins
returns-then-has_room_here-clause-begins g c =
    let e = c.begin_here.ensures in
    record {
      agrees = e.notes.agrees;
      route_stays = e.notes.route_stays;
      stays = λ stalled. absurd (true≢false (sym stalled ∙ roomy_goes c.args.writer.now.state (sym c.has_room_here.ensures ∙ c.if-has_room_here.true)));
      answers = λ _. e.going;
      done = λ _. asked_alone g.W.Words.means g.H.HelperOn.needs g.H.HelperOn.helps
          c.args.writer.now c.args.help.now c.args.table.now c.args.seat.now c.args.steps.now (call.Begun true ∷ []) c.begin_here.new.writer
          c.begin_here.new.table c.begin_here.new.seat c.requires.ready.at_work.seat_sits g.met.H.HelperOn.needs_stay c.requires.ready.needed
          e.notes.quiet e.notes.calls (e.going ∙ sym (refuses_none c.args.writer.now.route.spec.policy));
    }
