use Rattle.std.proofs.Common.{◌<◌, length, arith}
use Rattle.chunk_plain.proofs.Known as known
use Rattle.chunk_plain.proofs.plain.PlainTable.store_first_header.Goals as goal

pub header_index-at-requires : goal.header_index-at-requires
header_index-at-requires c = let self = c.args.self.now in known.claimed_inside self.layout self.words.items self.slots.items self.told.world self.kept c.args.place c.args.chunk c.requires.claimed

pub index_mut-requires : goal.index_mut-requires
index_mut-requires c = let self = c.args.self.now in
    let inside : c.args.chunk < length self.layout.spots = known.claimed_inside self.layout self.words.items self.slots.items self.told.world self.kept c.args.place c.args.chunk c.requires.claimed in omega (arith, self.word_count, c.header_index-at.ensures)

pub invariant_of-self-clause-kept : goal.invariant_of-self-clause-kept
invariant_of-self-clause-kept c = let self = c.args.self.now in
    known.stamp_step self.layout self.words.items self.slots.items self.told.world self.kept c.make_step.new.told.world c.args.place c.args.chunk c.args.id c.header_index-at.result c.pack.result
    c.header_index-at.ensures self.laid c.requires.place (let few = self.few_writers in omega arith) c.requires.claimed c.requires.unstamped c.requires.id c.requires.few_begun c.pack.ensures.word c.make_step.ensures.world
