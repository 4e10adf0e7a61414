use Rattle.std.proofs.Common.{◌≡◌, ◌∙◌, ◌+◌, length, ap, arith, get_or, drop}
use Rattle.chunk_plain.specs.Payload.{byte_in}
use Rattle.chunk_plain.proofs.PackLemmas.{byte_put}
use Rattle.chunk_plain.proofs.bytes.put_bytes.Goals as goal

pub returns-clause-here : goal.returns-clause-here
returns-clause-here c = λ m below.
    let long : length c.to_le_bytes.result ≡ 8 = omega arith in
    ap (λ xs. byte_in xs (c.args.at + m)) c.put_eight.ensures
    ∙ byte_put c.args.into.now c.to_le_bytes.result (drop (c.args.at + 8) c.args.into.now) c.args.at m (omega arith) (omega (arith, long))
    ∙ ap (λ xs. get_or xs m 0) c.to_le_bytes.ensures
