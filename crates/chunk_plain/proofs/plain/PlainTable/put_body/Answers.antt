use Rattle.std.proofs.Common.{◌<◌, length, arith, Some}
use Rattle.chunk_plain.proofs.Known as known
use Rattle.chunk_plain.proofs.plain.PlainTable.put_body.Goals as goal

pub put_body-requires : goal.put_body-requires
put_body-requires c = let self = c.args.self.now in
    let inside : c.args.chunk < length self.layout.spots = known.out_inside self.layout self.words.items self.slots.items self.told.world self.kept c.args.chunk c.requires.lent in omega (arith, self.slot_count)

pub invariant_of-self-clause-kept : goal.invariant_of-self-clause-kept
invariant_of-self-clause-kept c = let self = c.args.self.now in
    known.body_step self.layout self.words.items self.slots.items self.told.world self.kept c.put_body.new.slots.items c.args.chunk (Some c.args.body) self.laid c.requires.lent c.put_body.ensures.rest
