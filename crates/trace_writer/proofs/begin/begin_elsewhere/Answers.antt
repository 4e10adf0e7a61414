use Rattle.std.proofs.Common.{◌∙◌, refl, sym, ap, subst, arith, rules}
use Rattle.trace_writer.proofs.packets.Ending.{behind_of, behind_position, idle_of, idle_position}
use Rattle.trace_writer.specs.Placing.{BeginsHere}
use Rattle.trace_writer.specs.Site.{site_of}
use Rattle.trace_writer.proofs.holding.KeptChunks.{shown_none_held}
use Rattle.trace_writer.proofs.packets.Starting.{HasFound, found_there, found_place, found_asked}
use Rattle.trace_writer.proofs.begin.begin_elsewhere.Goals.{in-Idle, in-Between}
use Rattle.trace_writer.proofs.begin.begin_elsewhere.Goals as goal

pub held_or_new_place-place-requires-clause-ids : goal.held_or_new_place-place-requires-clause-ids
held_or_new_place-place-requires-clause-ids g c =
    let behind = behind_of (g.W.Words.means.setup c.args.table.now) (g.W.Words.means.place c.args.seat.now) (g.W.Words.means.view c.args.table.now c.args.seat.now) c.args.writer.now c.in-Between.chunk
    (sym c.take_state.ensures.taken ∙ c.in-Between.is) c.requires.ready.at_work.agrees in
    let position = behind_position _ _ (g.W.Words.means.view c.args.table.now c.args.seat.now) _ c.in-Between.chunk behind in
    omega (arith, position, c.requires.ids)

pub new_place-place-requires-clause-may_claim : goal.new_place-place-requires-clause-may_claim
new_place-place-requires-clause-may_claim g c =
    let work = c.requires.ready.at_work in
    let position = idle_position (g.W.Words.means.setup c.args.table.now) (g.W.Words.means.place c.args.seat.now) (g.W.Words.means.view c.args.table.now c.args.seat.now) c.args.writer.now c.in-Idle.next_position
    (sym c.take_state.ensures.taken ∙ c.in-Idle.is) work.agrees in
    record {
      asks = record { seat_sits = work.seat_sits; needed = c.requires.ready.needed; route_is = work.agrees.route };
      position_is = position;
      position_fits = omega (arith, position, c.requires.ids);
    }

pub new_place-place-requires-clause-none_held : goal.new_place-place-requires-clause-none_held
new_place-place-requires-clause-none_held g c =
    let idle = idle_of (g.W.Words.means.setup c.args.table.now) (g.W.Words.means.place c.args.seat.now) (g.W.Words.means.view c.args.table.now c.args.seat.now) c.args.writer.now c.in-Idle.next_position
    (sym c.take_state.ensures.taken ∙ c.in-Idle.is) c.requires.ready.at_work.agrees in
    shown_none_held (site_of (g.W.Words.means.setup c.args.table.now) (g.W.Words.means.place c.args.seat.now) c.args.writer.now.route) 0 (g.W.Words.means.view c.args.table.now c.args.seat.now).begun idle.pages idle.shown

pub begin_at-requires-clause-place : goal.begin_at-requires-clause-place
begin_at-requires-clause-place g c =
    let found : HasFound g.W.Words.means g.H.HelperOn.needs g.H.HelperOn.helps
    c.args.writer.now c.args.help.now c.args.table.now c.args.seat.now c.args.steps.now
    c.match-take_state.writer c.match-take_state.help c.match-take_state.table c.match-take_state.seat c.match-take_state.steps c.match-take_state.place =
    elim c.match-take_state.branch [
      | in-Idle w ↦
          let e = w.new_place-place.ensures in
          found_there w.writer-is w.help-is w.table-is w.seat-is w.steps-is w.place-is (record { route_is = refl; calls = e.calls; at = e.place _ _ (idle_of _ _ _ _ _ (sym c.take_state.ensures.taken ∙ w.in-Idle.is) c.requires.ready.at_work.agrees); work = e.work })
      | in-Between w ↦
          let e = w.held_or_new_place-place.ensures in
          found_there w.writer-is w.help-is w.table-is w.seat-is w.steps-is w.place-is (record { route_is = refl; calls = e.calls; at = e.place _ (behind_of _ _ _ _ _ (sym c.take_state.ensures.taken ∙ w.in-Between.is) c.requires.ready.at_work.agrees); work = e.work })
    ] in
    found_place found

pub returns : goal.returns
returns g c =
    let found : HasFound g.W.Words.means g.H.HelperOn.needs g.H.HelperOn.helps
    c.args.writer.now c.args.help.now c.args.table.now c.args.seat.now c.args.steps.now
    c.match-take_state.writer c.match-take_state.help c.match-take_state.table c.match-take_state.seat c.match-take_state.steps c.match-take_state.place =
    elim c.match-take_state.branch [
      | in-Idle w ↦
          let e = w.new_place-place.ensures in
          found_there w.writer-is w.help-is w.table-is w.seat-is w.steps-is w.place-is (record { route_is = refl; calls = e.calls; at = e.place _ _ (idle_of _ _ _ _ _ (sym c.take_state.ensures.taken ∙ w.in-Idle.is) c.requires.ready.at_work.agrees); work = e.work })
      | in-Between w ↦
          let e = w.held_or_new_place-place.ensures in
          found_there w.writer-is w.help-is w.table-is w.seat-is w.steps-is w.place-is (record { route_is = refl; calls = e.calls; at = e.place _ (behind_of _ _ _ _ _ (sym c.take_state.ensures.taken ∙ w.in-Between.is) c.requires.ready.at_work.agrees); work = e.work })
    ] in
    record {
      begins = record {
        agrees = search rules;
        route_stays = search rules;
        stays = search rules;
        answers = λ goes. c.begin_at.ensures.begins.answers;
        done = λ goes. found_asked c.begin_at.new.table c.begin_at.new.seat c.begin_at.new.writer c.begin_at.result g.met.H.HelperOn.needs_stay found
            c.begin_at.ensures.begins c.begin_at.ensures.quiet;
      };
      asked = λ here. c.begin_at.ensures.quiet.asked ∙ elim c.match-take_state.branch [
        | in-Idle w ↦ absurd (subst BeginsHere (sym c.take_state.ensures.taken ∙ w.in-Idle.is) here)
        | in-Between w ↦
            ap (λ table. (g.W.Words.means.view table c.match-take_state.seat).asked) w.table-is ∙ ap (λ seat. (g.W.Words.means.view w.held_or_new_place-place.new.table seat).asked) w.seat-is
            ∙ w.held_or_new_place-place.ensures.asked (subst BeginsHere (sym c.take_state.ensures.taken ∙ w.in-Between.is) here)
      ];
      few_steps = search rules;
    }
