use Rattle.std.proofs.Common.{refl}
use Rattle.chunk_plain.proofs.Known as known
use Rattle.chunk_plain.proofs.plain_words.PlainTableWords.note.Goals as goal
use Rattle.chunk_plain.specs.Steps.{notes}
use Rattle.chunk_plain.specs.Words.{event_of}

pub invariant_of-self-clause-kept : goal.invariant_of-self-clause-kept
invariant_of-self-clause-kept c = let self = c.args.self.now in
    known.service_step self.layout self.words.items self.slots.items self.told.world self.kept c.make_step.new.told.world (notes self.told.world.service (event_of c.args.event)) refl refl refl c.make_step.ensures.world
