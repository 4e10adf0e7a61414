use Rattle.std.proofs.Common.{◌≡◌, ◌+◌, false, refl, sym, ap, ◌∙◌, arith}
use Rattle.ring_bytes.specs.declared.header.Header.{Header}
use Rattle.ring_bytes.specs.Header.{header_at, is_live}
use Rattle.ring_bytes.proofs.RowLemmas.{size_least, past_none}
use Rattle.ring_bytes.proofs.WalkLemmas.{read_of, past_more}
use Rattle.ring_bytes.proofs.walk.skip_dead.Goals as goal

pub loop-at-init : goal.loop-at-init
loop-at-init c = past_none c.args.bytes.now c.args.at c.args.end c.requires.row

pub read_header-header-requires : goal.read_header-header-requires
read_header-header-requires c =
    let header : Header = header_at c.args.bytes.now c.loop-at.at in
    let read = read_of c.args.bytes.now c.loop-at.at c.args.end header c.loop-at.invariant.rest (omega arith) refl in
    omega (arith, read.inside, size_least header.len)

pub size_of_record-at-requires : goal.size_of_record-at-requires
size_of_record-at-requires c =
    let read = read_of c.args.bytes.now c.loop-at.at c.args.end c.read_header-header.result c.loop-at.invariant.rest (omega arith) c.read_header-header.ensures.header in
    omega (arith, read.small)

pub overflow_add-at : goal.overflow_add-at
overflow_add-at c =
    let read = read_of c.args.bytes.now c.loop-at.at c.args.end c.read_header-header.result c.loop-at.invariant.rest (omega arith) c.read_header-header.ensures.header in
    omega (arith, read.inside, c.size_of_record-at.ensures)

pub loop-at-preserved : goal.loop-at-preserved
loop-at-preserved c =
    let header : Header = c.read_header-header.result in
    let read = read_of c.args.bytes.now c.loop-at.at c.args.end header c.loop-at.invariant.rest (omega arith) c.read_header-header.ensures.header in
    let dead : is_live header ≡ false = sym c.is_live.ensures ∙ c.if-is_live.false in
    past_more c.args.bytes.now c.args.at c.loop-at.at c.args.end (c.loop-at.at + c.size_of_record-at.result) header c.loop-at.invariant
    c.read_header-header.ensures.header read dead (ap (λ n. c.loop-at.at + n) c.size_of_record-at.ensures)
