use Rattle.std.proofs.Common.{arith, rules}
use Rattle.chunk_words_rows.proofs.serving.serve_page.Goals as goal

pub loop-round-init : goal.loop-round-init
loop-round-init c = record {
  seat = c.requires.seat;
  next = c.requires.next;
  most = omega arith;
  size = search rules;
}

pub serve-next-requires-clause-few : goal.serve-next-requires-clause-few
serve-next-requires-clause-few c =
    let most = c.loop-round.invariant.most in let less = c.loop-round-test.true in let ended = c.loop-round.auto.round-end in let few = c.requires.few in omega arith

pub loop-round-preserved : goal.loop-round-preserved
loop-round-preserved c = record {
  seat = c.serve-next.ensures.seat;
  next = c.serve-next.ensures.next;
  most = let most = c.loop-round.invariant.most in let more = c.serve-next.ensures.most in omega arith;
  size = c.serve-next.ensures.size;
}
