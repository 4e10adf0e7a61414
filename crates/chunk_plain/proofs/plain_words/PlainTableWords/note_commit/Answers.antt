use Rattle.std.proofs.Common.{refl}
use Rattle.chunk_plain.proofs.Known as known
use Rattle.chunk_plain.proofs.plain_words.PlainTableWords.note_commit.Goals as goal
use Rattle.chunk_plain.specs.Steps.{notes_commit}
use Rattle.chunk_plain.specs.Words.{committed_of}

pub invariant_of-self-clause-kept : goal.invariant_of-self-clause-kept
invariant_of-self-clause-kept c = let self = c.args.self.now in
    known.service_step self.layout self.words.items self.slots.items self.told.world self.kept c.make_step.new.told.world (notes_commit self.told.world.service (committed_of self.layout c.args.header c.args.payload.now c.args.patches.now)) refl refl refl c.make_step.ensures.world
