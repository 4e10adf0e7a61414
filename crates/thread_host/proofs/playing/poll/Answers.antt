-- The writer answers between two packets.
use Rattle.std.proofs.Common.{◌∙◌, sym}
use Rattle.thread_host.proofs.Helped.{helps_polled}
use Rattle.thread_host.proofs.Polled.{polled_going}
use Rattle.thread_host.proofs.playing.poll.Goals as goal

pub poll_flush-answer-requires-clause-writes : goal.poll_flush-answer-requires-clause-writes
poll_flush-answer-requires-clause-writes g c = c.requires.going.3.writes

pub poll_flush-answer-requires-clause-none_begun : goal.poll_flush-answer-requires-clause-none_begun
poll_flush-answer-requires-clause-none_begun g c = sym (c.in_packet.ensures c.args.table.now c.requires.going.3.writes) ∙ c.if-in_packet.false

pub returns : goal.returns
returns g c = record {
  stays = λ place asked coming going.
      polled_going g.H.Helper.helps g.H.Helper.of_table c.args.table.now place asked coming c.args._help.now c.args.writer.now c.poll_flush-answer.new.self going
      c.poll_flush-answer.ensures.writes c.poll_flush-answer.result (c.poll_flush-answer.ensures.polls going.going);
  helped = helps_polled g.H.Helper.helps c.args._help.now c.args.writer.now c.poll_flush-answer.new.self c.poll_flush-answer.result
      (c.poll_flush-answer.ensures.polls c.requires.going.3.going);
}
