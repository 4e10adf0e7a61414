use Rattle.std.proofs.Common.{ap}
use Rattle.chunk_plain.proofs.Known as known
use Rattle.chunk_plain.specs.World.{World, status}
use Rattle.chunk_plain.specs.Plain.{found_in}
use Rattle.chunk_plain.proofs.Looking.{was_seen, finds_written}
use Rattle.chunk_plain.proofs.plain.PlainTable.note_look.Goals as goal

pub invariant_of-self-clause-kept : goal.invariant_of-self-clause-kept
invariant_of-self-clause-kept c = let self = c.args.self.now in
    known.look_step self.layout self.words.items self.slots.items self.told.world self.kept c.make_step.new.told.world c.args.chunk c.args.seen.word.0 c.args.seen.header c.make_step.ensures.world

pub returns-clause-looks : goal.returns-clause-looks
returns-clause-looks c = let self = c.args.self.now in
    record {
      seen = was_seen self.layout self.words.items self.slots.items self.told.world self.kept c.args.chunk c.args.seen.word.0 c.requires.chunk c.requires.word;
      found = found_in (status self.told.world c.args.chunk);
      finds = finds_written self.layout self.words.items self.slots.items self.told.world self.kept c.args.chunk c.args.seen.word.0 c.args.seen.header c.requires.chunk c.requires.word c.requires.fields;
      view = ap (λ (w : World). w.service) c.make_step.ensures.world;
    }
