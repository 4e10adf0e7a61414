-- The lines are played from the first world on, and then the end.
use Rattle.std.proofs.Common.{◌≡◌, ◌∙◌, List, refl, ap, rules, arith}
use Rattle.std.specs.Prelude.{Err}
use Rattle.scenario_text.specs.Clones.{without_clones}
use Rattle.scenario_text.specs.Scenario.{parts_of}
use Rattle.scenario_text.proofs.LimitLemmas.{scenario_is_set_up}
use Rattle.scenario_text.specs.Raws.{raw_numbers}
use Rattle.loss_report.specs.declared.raws.RawAnswer.{RawAnswer}
use Rattle.replay_model.specs.Raws.{raw_lines}
use Rattle.replay_host.specs.Replaying.{EndsEarly}
use Rattle.replay_host.proofs.CloningLemmas.{ends_without}
use Rattle.replay_host.proofs.FieldLemmas.{if_err_is}
use Rattle.replay_host.proofs.ReplayingLemmas.{may_begin, lines_stopped, is_over, few_read, end_stopped, ended_host, ended_noted, buffers_room, sequences_room, marks_many, as_made, all_cloned}
use Rattle.replay_host.proofs.RowLemmas.{AreLaws}
use Rattle.replay_host.proofs.replaying.Host+W+W+Writer+W+Service.play.Goals as goal

pub play_lines-requires-clause-begins : goal.play_lines-requires-clause-begins
play_lines-requires-clause-begins g c =
    let means = g.W.Words.means in
    may_begin means c.args.scenario.now c.requires.ready.within c.args.self.now c.requires.ready.made
    (g.O.Sink.taken c.args.out.now)
    c.args.scenario.now.lines refl

pub play_lines-requires-clause-clones : goal.play_lines-requires-clause-clones
play_lines-requires-clause-clones g c =
    as_made g.W.Words.means c.args.scenario.now c.requires.ready.within c.args.self.now c.requires.ready.made (g.O.Sink.taken c.args.out.now)
    c.args.scenario.now.lines refl c.args.clones.now c.requires.ready.cloned

pub returns-in_err-play_lines-clause-stops : goal.returns-in_err-play_lines-clause-stops
returns-in_err-play_lines-clause-stops g c =
    let means = g.W.Words.means in
    let found = c.in_err-play_lines.field-0.0 in
    let result_is : c.from_residual.result ≡ Err found = search rules in
    if_err_is c.from_residual.result found
    (λ fault. EndsEarly (without_clones (parts_of c.args.scenario.now)) fault (g.O.Sink.taken c.args.out.now) (g.O.Sink.taken c.play_lines.new.out))
    result_is
    (ends_without (parts_of c.args.scenario.now) found (g.O.Sink.taken c.args.out.now) (g.O.Sink.taken c.play_lines.new.out)
    (lines_stopped means c.args.scenario.now c.requires.ready.within c.args.self.now c.requires.ready.made
    (g.O.Sink.taken c.args.out.now)
    c.args.scenario.now.lines refl found (g.O.Sink.taken c.play_lines.new.out) c.in_err-play_lines.ensures.stops))

pub play_end-requires-clause-over : goal.play_end-requires-clause-over
play_end-requires-clause-over g c =
    let means = g.W.Words.means in
    is_over means c.args.scenario.now c.requires.ready.within c.args.self.now c.requires.ready.made
    (g.O.Sink.taken c.args.out.now)
    c.args.scenario.now.lines refl c.play_lines.new.self (g.O.Sink.taken c.play_lines.new.out) c.in_ok-play_lines.ensures.played
    c.len.result c.len.ensures

pub play_end-requires-clause-few : goal.play_end-requires-clause-few
play_end-requires-clause-few g c =
    let means = g.W.Words.means in
    few_read means c.args.scenario.now c.requires.ready.within c.args.self.now c.requires.ready.made
    (g.O.Sink.taken c.args.out.now)
    c.args.scenario.now.lines refl c.play_lines.new.self (g.O.Sink.taken c.play_lines.new.out) c.in_ok-play_lines.ensures.played
    c.len.result c.len.ensures

pub returns-in_err-play_end-clause-stops : goal.returns-in_err-play_end-clause-stops
returns-in_err-play_end-clause-stops g c =
    let means = g.W.Words.means in
    let found = c.in_err-play_end.field-0.0 in
    let result_is : c.from_residual-in_err-play_end.result ≡ Err found = search rules in
    if_err_is c.from_residual-in_err-play_end.result found
    (λ fault. EndsEarly (without_clones (parts_of c.args.scenario.now)) fault (g.O.Sink.taken c.args.out.now) (g.O.Sink.taken c.play_end.new.out))
    result_is
    (ends_without (parts_of c.args.scenario.now) found (g.O.Sink.taken c.args.out.now) (g.O.Sink.taken c.play_end.new.out)
    (end_stopped means c.args.scenario.now c.requires.ready.within c.args.self.now c.requires.ready.made
    (g.O.Sink.taken c.args.out.now)
    c.args.scenario.now.lines refl c.play_lines.new.self (g.O.Sink.taken c.play_lines.new.out) c.in_ok-play_lines.ensures.played
    c.len.result c.len.ensures found (g.O.Sink.taken c.play_end.new.out) c.in_err-play_end.ensures.stops))

pub count-requires-clause-host : goal.count-requires-clause-host
count-requires-clause-host g c =
    let means = g.W.Words.means in
    let laws : AreLaws means = record {
      told_view = g.met.W.Words.told_view;
      told_service_view = g.met.W.Words.told_service_view;
      told_writers = g.met.W.Words.told_writers;
      told_owned = g.met.W.Words.told_owned;
    } in
    ended_host means c.args.scenario.now c.requires.ready.within c.args.self.now c.requires.ready.made
    (g.O.Sink.taken c.args.out.now)
    c.args.scenario.now.lines refl c.play_lines.new.self (g.O.Sink.taken c.play_lines.new.out) c.in_ok-play_lines.ensures.played
    c.len.result c.len.ensures laws c.play_end.new.self (g.O.Sink.taken c.play_end.new.out) c.in_ok-play_end.ensures.ended

pub count-requires-clause-tally : goal.count-requires-clause-tally
count-requires-clause-tally g c =
    let means = g.W.Words.means in
    let laws : AreLaws means = record {
      told_view = g.met.W.Words.told_view;
      told_service_view = g.met.W.Words.told_service_view;
      told_writers = g.met.W.Words.told_writers;
      told_owned = g.met.W.Words.told_owned;
    } in
    ended_noted means c.args.scenario.now c.requires.ready.within c.args.self.now c.requires.ready.made
    (g.O.Sink.taken c.args.out.now)
    c.args.scenario.now.lines refl c.play_lines.new.self (g.O.Sink.taken c.play_lines.new.out) c.in_ok-play_lines.ensures.played
    c.len.result c.len.ensures laws c.play_end.new.self (g.O.Sink.taken c.play_end.new.out) c.in_ok-play_end.ensures.ended

pub count-requires-clause-rows : goal.count-requires-clause-rows
count-requires-clause-rows g c =
    let means = g.W.Words.means in
    let laws : AreLaws means = record {
      told_view = g.met.W.Words.told_view;
      told_service_view = g.met.W.Words.told_service_view;
      told_writers = g.met.W.Words.told_writers;
      told_owned = g.met.W.Words.told_owned;
    } in
    record {
      buffers = buffers_room means c.args.scenario.now c.requires.ready.within c.args.self.now c.requires.ready.made
          (g.O.Sink.taken c.args.out.now)
          c.args.scenario.now.lines refl c.play_lines.new.self (g.O.Sink.taken c.play_lines.new.out) c.in_ok-play_lines.ensures.played
          c.len.result c.len.ensures laws c.play_end.new.self (g.O.Sink.taken c.play_end.new.out) c.in_ok-play_end.ensures.ended
          c.args.done.now c.requires.ready.buffers;
      few =
          let joined = c.args.scenario.now.buffers.ok.0 in
          let room = c.requires.ready.buffers in
          let few = (scenario_is_set_up c.args.scenario.now c.requires.ready.within).few_buffers in
          omega (arith, joined, room, few);
      sequences = sequences_room means c.args.scenario.now c.requires.ready.within c.args.self.now c.requires.ready.made
          (g.O.Sink.taken c.args.out.now)
          c.args.scenario.now.lines refl c.play_lines.new.self (g.O.Sink.taken c.play_lines.new.out) c.in_ok-play_lines.ensures.played
          c.len.result c.len.ensures laws c.play_end.new.self (g.O.Sink.taken c.play_end.new.out) c.in_ok-play_end.ensures.ended
          c.args.done.now c.requires.ready.sequences;
      marked = marks_many means c.args.scenario.now c.requires.ready.within c.args.self.now c.requires.ready.made
          (g.O.Sink.taken c.args.out.now)
          c.args.scenario.now.lines refl c.play_lines.new.self (g.O.Sink.taken c.play_lines.new.out) c.in_ok-play_lines.ensures.played
          c.len.result c.len.ensures laws c.play_end.new.self (g.O.Sink.taken c.play_end.new.out) c.in_ok-play_end.ensures.ended
          c.args.marks.now c.requires.ready.marked;
    }

pub returns-clause-played : goal.returns-clause-played
returns-clause-played g c =
    let means = g.W.Words.means in
    let laws : AreLaws means = record {
      told_view = g.met.W.Words.told_view;
      told_service_view = g.met.W.Words.told_service_view;
      told_writers = g.met.W.Words.told_writers;
      told_owned = g.met.W.Words.told_owned;
    } in
    all_cloned means c.args.scenario.now c.requires.ready.within c.args.self.now c.requires.ready.made
    (g.O.Sink.taken c.args.out.now)
    c.args.scenario.now.lines refl c.play_lines.new.self (g.O.Sink.taken c.play_lines.new.out) c.in_ok-play_lines.ensures.played
    c.len.result c.len.ensures laws c.play_end.new.self (g.O.Sink.taken c.play_end.new.out) c.in_ok-play_end.ensures.ended
    c.play_lines.new.clones c.in_ok-play_lines.ensures.cloned
    c.args.marks.now c.requires.ready.marked c.count.new.done.buffers.items c.count.new.done.sequences.items c.count.new.self.flushes c.fill_raws.new.raws.items
    c.count.ensures.counts c.count.ensures.made c.count.ensures.room c.count.ensures.told
    (c.fill_raws.ensures ∙ ap (λ (answers : List RawAnswer). raw_lines (raw_numbers c.args.scenario.now.lines) answers) c.deref.ensures.value)
