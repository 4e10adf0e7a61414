use Rattle.std.proofs.Common.{◌≡◌, ◌∙◌, ℕ, ◌+◌, ◌*◌, ◌≤◌, ◌++◌, List, length, ap, sym, subst}
use Rattle.wire_varint.specs.Varint.{varint}
use Rattle.trace_model.specs.Encoding.{bytes_head}
use Rattle.trace_model.specs.Images.{with_bytes}
use Rattle.trace_writer.proofs.packets.Varints.{head_parts}
use Rattle.trace_writer.proofs.bytes.put_head_at.Goals as goal

pub put_two_at-requires : goal.put_two_at-requires
put_two_at-requires c =
    let same : bytes_head c.args.field c.args.len ≡ varint (8 * c.from.result + 2) ++ varint c.from-2.result =
    head_parts c.args.field c.args.len
    ∙ ap (λ (n : ℕ). varint (8 * n + 2) ++ varint c.args.len) (sym c.from.ensures)
    ∙ ap (λ (n : ℕ). varint (8 * c.from.result + 2) ++ varint n) (sym c.from-2.ensures) in
    subst (λ (bytes : List ℕ). c.args.at + length bytes ≤ length c.args.payload.now) same c.requires

pub returns : goal.returns
returns c =
    let same : bytes_head c.args.field c.args.len ≡ varint (8 * c.from.result + 2) ++ varint c.from-2.result =
    head_parts c.args.field c.args.len
    ∙ ap (λ (n : ℕ). varint (8 * n + 2) ++ varint c.args.len) (sym c.from.ensures)
    ∙ ap (λ (n : ℕ). varint (8 * c.from.result + 2) ++ varint n) (sym c.from-2.ensures) in
    c.put_two_at.ensures ∙ ap (with_bytes c.args.payload.now c.args.at) (sym same)
