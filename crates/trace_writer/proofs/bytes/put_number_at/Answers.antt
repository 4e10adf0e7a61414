use Rattle.std.proofs.Common.{◌≡◌, ◌∙◌, ℕ, ◌+◌, ◌*◌, ◌≤◌, ◌++◌, List, length, ap, sym, subst}
use Rattle.wire_varint.specs.Varint.{varint}
use Rattle.trace_model.specs.Encoding.{number_field}
use Rattle.trace_model.specs.Images.{with_bytes}
use Rattle.trace_writer.proofs.packets.Varints.{number_parts}
use Rattle.trace_writer.proofs.bytes.put_number_at.Goals as goal

pub put_two_at-requires : goal.put_two_at-requires
put_two_at-requires c =
    let same : number_field c.args.field c.args.value ≡ varint (8 * c.from.result) ++ varint c.args.value =
    number_parts c.args.field c.args.value ∙ ap (λ (n : ℕ). varint (8 * n) ++ varint c.args.value) (sym c.from.ensures) in
    subst (λ (bytes : List ℕ). c.args.at + length bytes ≤ length c.args.payload.now) same c.requires

pub returns : goal.returns
returns c =
    let same : number_field c.args.field c.args.value ≡ varint (8 * c.from.result) ++ varint c.args.value =
    number_parts c.args.field c.args.value ∙ ap (λ (n : ℕ). varint (8 * n) ++ varint c.args.value) (sym c.from.ensures) in
    c.put_two_at.ensures ∙ ap (with_bytes c.args.payload.now c.args.at) (sym same)
