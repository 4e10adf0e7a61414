use Rattle.std.proofs.Common.{◌≡◌, false, arith, rules}
use Rattle.std.proofs.lemmas.Grind.{common_steps}
use Rattle.trace_writer.specs.Core.{is_stalled}
use Rattle.thread_writer.specs.Lent.{lent}
use Rattle.thread_writer.specs.Writing.{core_of}
use Rattle.thread_writer.proofs.Polling.{no_claim_since, polled}
use Rattle.thread_writer.proofs.writer.TraceWriter.poll_flush.Goals as goal

pub answer-chunks-requires-clause-no_claim : goal.answer-chunks-requires-clause-no_claim
answer-chunks-requires-clause-no_claim c =
    let going : is_stalled (core_of c.args.self.now) ≡ false = first_of (search rules, grind (arith, common_steps)) in
    let heard = c.learn_requests-flush.ensures in
    no_claim_since c.args.table.now (lent c.args.table) c.args.self.now c.learn_requests-flush.new.self c.flush.new.self going heard.alone heard.writes
    c.flush.ensures.call

pub returns-clause-polls : goal.returns-clause-polls
returns-clause-polls c going =
    let heard = c.learn_requests-flush.ensures in let did = c.flush.ensures in let gave = c.answer-chunks.ensures in
    polled c.args.table.now (lent c.args.table) c.args.self.now c.learn_requests-flush.new.self c.flush.new.self c.answer-chunks.new.self
    c.learn_requests-flush.result c.answer-chunks.result going heard.alone heard.known
    (let last = c.requires.writes.answered_is in let same = heard.answered in omega (arith, last, same))
    did.writes did.call did.none_held gave.complete gave.alone
