use Rattle.chunk_image.proofs.ReadingLemmas.{bytes_below, first_unread, reads_all}
use Rattle.chunk_image.proofs.iterate.FragmentIter.new.Goals as goal

pub returns-clause-whole : goal.returns-clause-whole
returns-clause-whole c = reads_all c.args.count c.args.payload.now (bytes_below c.args.payload.now c.type_inv.payload)

pub returns-clause-part : goal.returns-clause-part
returns-clause-part c = first_unread c.args.count c.args.payload.now (bytes_below c.args.payload.now c.type_inv.payload)
