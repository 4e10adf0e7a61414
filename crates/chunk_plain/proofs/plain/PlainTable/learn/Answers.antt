use Rattle.chunk_plain.proofs.Known as known
use Rattle.chunk_plain.proofs.plain.PlainTable.learn.Goals as goal

pub invariant_of-self-clause-kept : goal.invariant_of-self-clause-kept
invariant_of-self-clause-kept c = let self = c.args.self.now in
    known.learn_step self.layout self.words.items self.slots.items self.told.world self.kept c.make_step.new.told.world c.args.place c.args.chunk c.args.header c.args.body.now c.requires.place c.requires.last c.requires.content c.make_step.ensures.world
