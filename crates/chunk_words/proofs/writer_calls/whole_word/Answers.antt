use Rattle.std.proofs.Common.{◌∙◌, ◌-◌, ◌*◌, get_or, take, drop, length, ap, arith, rules}
use Rattle.std.proofs.lemmas.Nat.{le_bytes_8}
use Rattle.chunk_plain.proofs.PackLemmas.{rest_byte, rest_small, first_eight}
use Rattle.chunk_words.proofs.writer_calls.whole_word.Goals as goal

pub returns : goal.returns
returns c = λ m below inside.
    let bytes = c.args.from.now in let at = 8 * c.args.index in let rest = take (length bytes - at) (drop at bytes) in
    let small = rest_small bytes at (length bytes - at) (λ i. (c.type_inv.from i).fits) in
    let eight = first_eight rest c.in-Some.eight.now c.in-Some.ensures.cases.same small in
    let back = le_bytes_8 c.in-Some.eight.now c.from_le_bytes.result (search rules) eight.0 c.from_le_bytes.ensures in
    let whole = c.requires in
    ap (λ l. get_or l m 0) back ∙ (eight.1 m below ∙ (rest_byte bytes at m (omega arith) inside).1)
