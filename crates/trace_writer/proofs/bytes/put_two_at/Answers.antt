use Rattle.std.proofs.Common.{◌≡◌, ◌∙◌, ℕ, ◌+◌, ◌≤◌, List, length, ap, arith, length-append}
use Rattle.wire_varint.specs.Varint.{varint}
use Rattle.trace_model.specs.Images.{with_bytes}
use Rattle.cut_steps.proofs.Places.{length_with_bytes}
use Rattle.trace_writer.proofs.packets.InPlace.{with_bytes_both}
use Rattle.trace_writer.proofs.bytes.put_two_at.Goals as goal

pub put_varint_at-behind-requires : goal.put_varint_at-behind-requires
put_varint_at-behind-requires c = omega (arith, c.requires, length-append (varint c.args.first) (varint c.args.second))

pub put_varint_at-requires : goal.put_varint_at-requires
put_varint_at-requires c =
    let both = length-append (varint c.args.first) (varint c.args.second) in
    let room : c.args.at + length (varint c.args.first) ≤ length c.args.payload.now = omega (arith, c.requires, both) in
    let long : length c.put_varint_at-behind.new.out ≡ length c.args.payload.now =
    ap length c.put_varint_at-behind.ensures.bytes ∙ length_with_bytes c.args.payload.now (varint c.args.first) c.args.at room in
    omega (arith, c.requires, both, long, c.put_varint_at-behind.ensures.behind)

pub returns : goal.returns
returns c =
    c.put_varint_at.ensures.bytes
    ∙ ap (λ (xs : List ℕ). with_bytes xs c.put_varint_at-behind.result (varint c.args.second)) c.put_varint_at-behind.ensures.bytes
    ∙ ap (λ (n : ℕ). with_bytes (with_bytes c.args.payload.now c.args.at (varint c.args.first)) n (varint c.args.second)) c.put_varint_at-behind.ensures.behind
    ∙ with_bytes_both c.args.payload.now (varint c.args.first) (varint c.args.second) c.args.at
    (omega (arith, c.requires, length-append (varint c.args.first) (varint c.args.second)))
