use Rattle.std.proofs.Common.{◌∙◌, ap, arith, rules}
use Rattle.page_geometry.specs.Header.{unpacked}
use Rattle.page_geometry.proofs.HeaderLemmas.{packed_word, unpacked-packed}
use Rattle.page_geometry.proofs.chunk_header.ChunkHeader.pack.Goals as goal

pub returns-clause-word : goal.returns-clause-word
returns-clause-word c =
    rw (c.from.ensures, c.from-2.ensures, c.from-3.ensures, c.from-4.ensures)
    (packed_word c.args.self (search rules) (search rules) (omega arith) (omega arith))

pub returns-clause-back : goal.returns-clause-back
returns-clause-back c =
    ap unpacked (returns-clause-word c) ∙ unpacked-packed c.args.self (search rules) (search rules) (omega arith) (omega arith)
