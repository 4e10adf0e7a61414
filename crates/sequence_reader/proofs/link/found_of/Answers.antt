use Rattle.sequence_reader.proofs.FoundLemmas.{found_packet}
use Rattle.sequence_reader.proofs.link.found_of.Goals as goal
use Rattle.std.proofs.lemmas.Bool.{not-true}

pub returns-in-Whole : goal.returns-in-Whole
returns-in-Whole c b bounds walked here judges =
    found_packet b bounds c.args.chain walked c.requires c.in-Whole.is (not-true c.args.chain.headless c.if-not-chain.true) (not-true c.args.chain.awaits c.if-not-chain-2.true)
    c.args.accepted (judges c.in-Whole.is (not-true c.args.chain.headless c.if-not-chain.true) (not-true c.args.chain.awaits c.if-not-chain-2.true))
    c.if-accepted.true c.args.first here
