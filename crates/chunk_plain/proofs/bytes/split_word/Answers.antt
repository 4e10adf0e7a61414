use Rattle.std.proofs.Common.{◌∙◌, ◌<◌, ℕ, get_or, ap, rules}
use Rattle.std.proofs.lemmas.Nat.{le_bytes_8}
use Rattle.chunk_plain.specs.Payload.{byte_in}
use Rattle.chunk_plain.proofs.PackLemmas.{first_eight}
use Rattle.chunk_plain.proofs.bytes.split_word.Goals as goal

pub returns-clause-word : goal.returns-clause-word
returns-clause-word c = λ m below.
    let bytes = c.args.bytes.now in
    let small : (i : ℕ) → byte_in bytes i < 256 = λ i. (c.type_inv.bytes i).fits in
    let eight = first_eight bytes c.in-Some.eight.now c.in-Some.ensures.cases.0 small in
    let back = le_bytes_8 c.in-Some.eight.now c.from_le_bytes.result (search rules) eight.0 c.from_le_bytes.ensures in
    ap (λ l. get_or l m 0) back ∙ eight.1 m below
