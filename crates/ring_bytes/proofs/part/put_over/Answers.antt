use Rattle.std.proofs.Common.{◌+◌, ℕ, length, ◌∙◌, arith}
use Rattle.page_geometry.specs.Sizes.{record_size}
use Rattle.ring_bytes.proofs.RowLemmas.{row_below}
use Rattle.ring_bytes.proofs.part.put_over.Goals as goal

pub returns-clause-row : goal.returns-clause-row
returns-clause-row c =
    let to : ℕ = c.args.at + record_size (length c.args.payload.now) in
    (row_below c.put_record.new.bytes c.put_rest.new.bytes (c.args.at + c.size_of_record.result) c.args.end c.args.at to
    c.put_rest.ensures.same (omega (arith, c.size_of_record.ensures)) c.put_record.ensures.row).0

pub returns-clause-live : goal.returns-clause-live
returns-clause-live c =
    let to : ℕ = c.args.at + record_size (length c.args.payload.now) in
    (row_below c.put_record.new.bytes c.put_rest.new.bytes (c.args.at + c.size_of_record.result) c.args.end c.args.at to
    c.put_rest.ensures.same (omega (arith, c.size_of_record.ensures)) c.put_record.ensures.row).1
    ∙ c.put_record.ensures.live
