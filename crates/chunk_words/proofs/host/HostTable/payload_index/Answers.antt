use Rattle.std.proofs.Common.{arith}
use Rattle.chunk_words.proofs.Standing.{payload_inside}
use Rattle.chunk_words.proofs.host.HostTable.payload_index.Goals as goal

pub returns-clause-inside : goal.returns-clause-inside
returns-clause-inside c =
    let self = c.args.self.now in let start = c.requires.start in
    let below = payload_inside self.layout c.args.chunk c.args.index c.requires.chunk c.requires.index in
    omega (arith, start, below, self.word_count)

pub overflow_add-result : goal.overflow_add-result
overflow_add-result c =
    let self = c.args.self.now in let start = c.requires.start in
    let below = payload_inside self.layout c.args.chunk c.args.index c.requires.chunk c.requires.index in
    let few = self.few_words in omega (arith, start, below, few)
