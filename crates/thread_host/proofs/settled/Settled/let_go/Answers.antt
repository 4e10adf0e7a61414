-- What was settled is the account, where nothing more was done.
use Rattle.thread_host.proofs.Stopped.{has_let_go, settled_seats}
use Rattle.thread_host.proofs.settled.Settled.let_go.Goals as goal

pub take_apart-requires-clause-seats : goal.take_apart-requires-clause-seats
take_apart-requires-clause-seats c = settled_seats c.requires.settled.0 c.args.self c.requires.settled.1

pub returns : goal.returns
returns c = record {
  left = λ scenario is. has_let_go scenario c.args.self is c.take_apart.ensures.account c.take_apart.ensures.taken c.take_apart.ensures.goes_on;
}
