use Rattle.std.proofs.Common.{sym, subst}
use Rattle.sequence_reader.specs.Links.{IsWalked}
use Rattle.sequence_reader.proofs.ChainLemmas.{begun_chain, walked_begun}
use Rattle.sequence_reader.proofs.link.begun.Goals as goal

pub returns-clause-chain : goal.returns-clause-chain
returns-clause-chain c b bounds is =
    subst (IsWalked b bounds)
    (λ i. record (begun_chain b bounds c.args.spot c.args.first) { goes_on = sym c.both.ensures i; fate = sym c.end_of.ensures i })
    (walked_begun b bounds c.args.spot c.args.first is)
