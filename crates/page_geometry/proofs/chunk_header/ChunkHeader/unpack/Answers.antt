use Rattle.std.proofs.Common.{◌∙◌, ap}
use Rattle.page_geometry.specs.Header.{packed}
use Rattle.page_geometry.proofs.HeaderLemmas.{unpacked_word, packed-unpacked}
use Rattle.page_geometry.proofs.chunk_header.ChunkHeader.unpack.Goals as goal

pub returns-clause-header : goal.returns-clause-header
returns-clause-header c = unpacked_word c.args.word

pub returns-clause-back : goal.returns-clause-back
returns-clause-back c = ap packed (unpacked_word c.args.word) ∙ packed-unpacked c.args.word
