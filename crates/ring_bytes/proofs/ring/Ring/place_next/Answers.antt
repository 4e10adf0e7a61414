use Rattle.ring_bytes.proofs.RingLemmas.{few_in}
use Rattle.ring_bytes.proofs.ring.Ring.place_next.Goals as goal

pub returns-then-self-len-clause-few : goal.returns-then-self-len-clause-few
returns-then-self-len-clause-few c = few_in c.self.inside c.args.self.now c.self.view_is c.self.invariant

pub returns-clause-few : goal.returns-clause-few
returns-clause-few c = few_in c.self.inside c.args.self.now c.self.view_is c.self.invariant
