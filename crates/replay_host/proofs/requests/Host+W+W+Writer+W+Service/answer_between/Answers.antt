-- A writer answers, unless it has a packet begun.
use Rattle.std.proofs.Common.{◌∙◌, sym}
use Rattle.replay_host.proofs.AnswerLemmas.{answer_host, answer_place, writing_is, core_read, between_answered, between_waiting}
use Rattle.replay_host.proofs.RowLemmas.{AreLaws}
use Rattle.replay_host.proofs.requests.Host+W+W+Writer+W+Service.answer_between.Goals as goal

pub answer-requires : goal.answer-requires
answer-requires g c =
    let means = g.W.Words.means in
    let old = c.args.self.now in
    let may = c.requires.may in
    let is = answer_host means c.args.place old may in
    let at = core_read means old c.args.place c.index.result.now is (answer_place means c.args.place old may) c.index.ensures in
    let seated = is.stands.seated c.args.place c.index.result.now at in
    record {
      may = (
        may,
        sym (writing_is means c.args.place old may c.index.result.now at) ∙ sym (c.in_packet.ensures _ _ _ seated.agrees) ∙
            c.if-not-in_packet.true,
      );
    }

pub returns-then-not-in_packet : goal.returns-then-not-in_packet
returns-then-not-in_packet g c =
    let means = g.W.Words.means in
    let old = c.args.self.now in
    let may = c.requires.may in
    let is = answer_host means c.args.place old may in
    let at = core_read means old c.args.place c.index.result.now is (answer_place means c.args.place old may) c.index.ensures in
    let seated = is.stands.seated c.args.place c.index.result.now at in
    let between = sym (writing_is means c.args.place old may c.index.result.now at) ∙ sym (c.in_packet.ensures _ _ _ seated.agrees) ∙
    c.if-not-in_packet.true in
    record {
      answered = between_answered means c.args.place old c.answer.new.self
          (λ core there. writing_is means c.args.place old may core there ∙ between)
          c.answer.ensures.answered;
    }

pub returns-else-not-in_packet : goal.returns-else-not-in_packet
returns-else-not-in_packet g c =
    let means = g.W.Words.means in
    let laws : AreLaws means = record {
      told_view = g.met.W.Words.told_view;
      told_service_view = g.met.W.Words.told_service_view;
      told_writers = g.met.W.Words.told_writers;
      told_owned = g.met.W.Words.told_owned;
    } in
    let old = c.args.self.now in
    let may = c.requires.may in
    let is = answer_host means c.args.place old may in
    let at = core_read means old c.args.place c.index.result.now is (answer_place means c.args.place old may) c.index.ensures in
    let seated = is.stands.seated c.args.place c.index.result.now at in
    record {
      answered = between_waiting means laws c.args.place old c.index.result.now is at
          (sym (c.in_packet.ensures _ _ _ seated.agrees) ∙ c.if-not-in_packet.false);
    }
