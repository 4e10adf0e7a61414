-- Each line of the writer is played behind those before it.
use Rattle.std.proofs.Common.{◌∙◌, List, [], ◌∷◌, ◌++◌, length, sym, ap, subst, append-nil, append_assoc, arith}
use Rattle.std.specs.List.{flat_map}
use Rattle.trace_model.specs.Calls.{Call}
use Rattle.scenario_text.specs.declared.scenario.LineKind.{LineKind}
use Rattle.scenario_text.specs.Accepted.{named_calls}
use Rattle.thread_host.specs.Playing.{MayBeAsked, WasAsked}
use Rattle.thread_host.proofs.Going.{asked_none}
use Rattle.thread_host.proofs.Helped.{helps_none, helps_both}
use Rattle.thread_host.proofs.PlayedLines.{own_asked, line_next, played_more}
use Rattle.thread_host.proofs.playing.play_lines.Goals as goal

pub lines-init : goal.lines-init
lines-init g c = record {
  before = [];
  all = c.walk_of-walk.ensures;
  asked = asked_none g.H.Helper.helps g.H.Helper.of_table c.args.table.now c.args.help.now c.args.writer.now;
  helped = helps_none g.H.Helper.helps c.args.help.now c.args.writer.now;
  going = subst (λ (calls : List Call). MayBeAsked g.H.Helper.helps g.H.Helper.of_table c.args.table.now calls c.args.help.now c.args.writer.now)
      (sym (own_asked c.args.number c.args.lines.now) ∙ ap (flat_map named_calls) (sym c.walk_of-walk.ensures)) c.requires.going;
}

pub lines-smaller : goal.lines-smaller
lines-smaller g c = omega (arith, ap (λ (kinds : List LineKind). length kinds) c.in-Some.ensures.first)

pub poll_and_play-requires : goal.poll_and_play-requires
poll_and_play-requires g c =
    let others : List LineKind = c.next.new.self in
    let place = c.lines.invariant.going.0 in
    let calls = c.lines.invariant.going.1 in
    let coming = c.lines.invariant.going.2 in
    record {
      going = (
        place,
        calls,
        flat_map named_calls others ++ coming,
        line_next g.H.Helper.helps g.H.Helper.of_table c.args.table.now c.in-Some.line others c.lines.help c.lines.writer
            c.lines.walk c.in-Some.ensures.first place calls coming c.lines.invariant.going.3,
      );
    }

pub lines-preserved : goal.lines-preserved
lines-preserved g c =
    let before : List LineKind = c.lines.invariant.before in
    let line : LineKind = c.in-Some.line in
    let others : List LineKind = c.next.new.self in
    let place = c.lines.invariant.going.0 in
    let calls = c.lines.invariant.going.1 in
    let coming = c.lines.invariant.going.2 in
    record {
      before = before ++ line ∷ [];
      all = append_assoc before (line ∷ []) others ∙ ap (λ (kinds : List LineKind). before ++ kinds) (sym c.in-Some.ensures.first)
          ∙ c.lines.invariant.all;
      asked = played_more g.H.Helper.helps g.H.Helper.of_table c.args.table.now line others c.lines.help c.lines.writer
          before c.args.help.now c.args.writer.now c.poll_and_play.new.help c.poll_and_play.new.writer c.lines.invariant.asked c.poll_and_play.ensures.asked;
      helped = helps_both g.H.Helper.helps c.args.help.now c.lines.help c.poll_and_play.new.help c.args.writer.now c.lines.writer c.poll_and_play.new.writer
          c.lines.invariant.helped c.poll_and_play.ensures.helped;
      going = (
        place,
        calls ++ named_calls line,
        coming,
        c.poll_and_play.ensures.asked place calls (flat_map named_calls others ++ coming)
            (line_next g.H.Helper.helps g.H.Helper.of_table c.args.table.now line others c.lines.help c.lines.writer
            c.lines.walk c.in-Some.ensures.first place calls coming c.lines.invariant.going.3),
      );
    }

pub returns : goal.returns
returns g c =
    let before : List LineKind = c.lines.invariant.before in
    let none = rw c.in_default.is at c.next.ensures.none in
    let all = sym (append-nil before) ∙ ap (λ (kinds : List LineKind). before ++ kinds) (sym none.0) ∙ c.lines.invariant.all in
    record {
      asked = subst (λ (asked : List Call). WasAsked g.H.Helper.helps g.H.Helper.of_table c.args.table.now asked
          c.args.help.now c.args.writer.now c.lines.help c.lines.writer)
          (ap (flat_map named_calls) all ∙ own_asked c.args.number c.args.lines.now) c.lines.invariant.asked;
      helped = c.lines.invariant.helped;
    }
