-- The writer hears of the requests, flushes, and then answers.
use Rattle.std.proofs.Common.{◌≡◌, ap, arith}
use Rattle.chunk_plain.specs.Views.{Letters}
use Rattle.thread_writer.specs.Lent.{lent}
use Rattle.thread_writer.specs.Writing.{core_of, view_in}
use Rattle.thread_host.proofs.Polled.{played_flushed, played_heard, played_polled, polls_reach}
use Rattle.thread_host.proofs.answering.answer_last.Goals as goal

pub hear-requires-clause-writes : goal.hear-requires-clause-writes
hear-requires-clause-writes c = c.requires.played.2.writes

pub flush-requires-clause-none_begun : goal.flush-requires-clause-none_begun
flush-requires-clause-none_begun c =
    let played = c.requires.played in
    (played_heard played.0 c.args.table.now played.1 _ c.args.writer.now c.hear.new.self played.2 c.hear.ensures.writes c.hear.ensures.alone).none_begun

pub returns-clause-played : goal.returns-clause-played
returns-clause-played c lines place played =
    let table = c.args.table.now in
    let heard = played_heard lines table place _ c.args.writer.now c.hear.new.self played c.hear.ensures.writes c.hear.ensures.alone in
    let flushed = played_flushed lines table place _ c.hear.new.self c.flush.new.self heard c.flush.ensures.writes (lent c.args.table) c.flush.ensures.call
    c.flush.ensures.none_held c.flush.ensures.in_packet in
    played_polled lines table place _ c.flush.new.self c.poll_flush-answer.new.self flushed c.poll_flush-answer.ensures.writes c.poll_flush-answer.result
    (c.poll_flush-answer.ensures.polls flushed.going) c.poll_flush-answer.ensures.in_packet

pub returns-clause-answered : goal.returns-clause-answered
returns-clause-answered c =
    let played = c.requires.played in
    let table = c.args.table.now in
    let heard = played_heard played.0 table played.1 _ c.args.writer.now c.hear.new.self played.2 c.hear.ensures.writes c.hear.ensures.alone in
    let flushed = played_flushed played.0 table played.1 _ c.hear.new.self c.flush.new.self heard c.flush.ensures.writes (lent c.args.table) c.flush.ensures.call
    c.flush.ensures.none_held c.flush.ensures.in_packet in
    let knows = c.hear.ensures.heard in
    let kept : (view_in c.flush.new.self).letters.known ≡ (view_in c.hear.new.self).letters.known = ap (λ (l : Letters). l.known) c.flush.ensures.call.quiet.step.letters_stay in
    let reach = polls_reach c.poll_flush-answer.result (core_of c.flush.new.self) (core_of c.poll_flush-answer.new.self) (c.poll_flush-answer.ensures.polls flushed.going) in
    omega (arith, knows, kept, reach)
