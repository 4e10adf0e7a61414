use Rattle.std.proofs.Common.{◌∙◌, ◌-◌, get_or, take, drop, length, ap, arith, rules}
use Rattle.std.proofs.lemmas.Nat.{le_bytes_8}
use Rattle.chunk_plain.proofs.PackLemmas.{rest_byte, rest_small, first_eight, set_more, set_none}
use Rattle.chunk_plain.proofs.bytes.pack.Goals as goal

pub returns-in-Some : goal.returns-in-Some
returns-in-Some c = λ m below inside.
    let bytes = c.args.from.now in let rest = take (length bytes - c.args.at) (drop c.args.at bytes) in
    let small = rest_small bytes c.args.at (length bytes - c.args.at) (λ i. (c.type_inv.from i).fits) in
    let eight = first_eight rest c.in-Some.eight.now c.in-Some.ensures.cases.same small in
    let back = le_bytes_8 c.in-Some.eight.now c.from_le_bytes.result (search rules) eight.0 c.from_le_bytes.ensures in
    ap (λ l. get_or l m 0) back ∙ (eight.1 m below ∙ (rest_byte bytes c.args.at m c.requires inside).1)

pub loop-m-init : goal.loop-m-init
loop-m-init c = let bytes = c.args.from.now in set_none (take (length bytes - c.args.at) (drop c.args.at bytes))

pub loop-m-preserved : goal.loop-m-preserved
loop-m-preserved c =
    let bytes = c.args.from.now in let rest = take (length bytes - c.args.at) (drop c.args.at bytes) in
    set_more rest c.loop-m.eight c.loop-m.m (search rules) (rest_small bytes c.args.at (length bytes - c.args.at) (λ i. (c.type_inv.from i).fits) c.loop-m.m) c.loop-m.invariant

pub returns : goal.returns
returns c = λ m below inside.
    let known = rest_byte c.args.from.now c.args.at m c.requires inside in
    let back = le_bytes_8 c.loop-m.eight c.from_le_bytes-2.result c.loop-m.invariant.size c.loop-m.invariant.small c.from_le_bytes-2.ensures in
    ap (λ l. get_or l m 0) back ∙ (c.loop-m.invariant.done m (let all = c.loop-m-test.false in let more = known.0 in omega arith) ∙ known.1)
