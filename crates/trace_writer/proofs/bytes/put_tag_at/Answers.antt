use Rattle.std.proofs.Common.{◌≡◌, ◌∙◌, ℕ, ◌+◌, ◌*◌, length, ap, sym, arith}
use Rattle.wire_varint.specs.Varint.{varint}
use Rattle.trace_model.specs.Encoding.{nested_tag}
use Rattle.trace_model.specs.Images.{with_bytes}
use Rattle.trace_writer.proofs.packets.Varints.{tag_number}
use Rattle.trace_writer.proofs.bytes.put_tag_at.Goals as goal

pub put_varint_at-requires : goal.put_varint_at-requires
put_varint_at-requires c =
    let same : varint (8 * c.from.result + 2) ≡ nested_tag c.args.field = ap (λ (n : ℕ). varint (8 * n + 2)) c.from.ensures ∙ sym (tag_number c.args.field) in
    omega (arith, c.requires, ap length same)

pub returns : goal.returns
returns c =
    c.put_varint_at.ensures.bytes
    ∙ ap (with_bytes c.args.payload.now c.args.at) (ap (λ (n : ℕ). varint (8 * n + 2)) c.from.ensures ∙ sym (tag_number c.args.field))
