use Rattle.std.proofs.Common.{◌≡◌, ◌+◌, false, nat_lt, refl, ap, ◌∙◌, arith}
use Rattle.std.specs.List.{find}
use Rattle.ring_bytes.specs.declared.header.Header.{Header}
use Rattle.ring_bytes.specs.Header.{header_at, is_live}
use Rattle.ring_bytes.specs.Value.{Stored}
use Rattle.ring_bytes.proofs.RowLemmas.{size_least, row_order}
use Rattle.ring_bytes.proofs.WalkLemmas.{read_of, walk_on, dead_before}
use Rattle.ring_bytes.proofs.walk.first_behind.Goals as goal

pub read_header-requires : goal.read_header-requires
read_header-requires c =
    let header : Header = header_at c.args.bytes.now c.loop-at.at in
    let read = read_of c.args.bytes.now c.loop-at.at c.args.end header c.loop-at.invariant.row (omega arith) refl in
    omega (arith, read.inside, size_least header.len)

pub size_of_record-at-requires : goal.size_of_record-at-requires
size_of_record-at-requires c =
    let read = read_of c.args.bytes.now c.loop-at.at c.args.end c.read_header.result c.loop-at.invariant.row (omega arith) c.read_header.ensures.header in
    omega (arith, read.small)

pub overflow_add-at : goal.overflow_add-at
overflow_add-at c =
    let read = read_of c.args.bytes.now c.loop-at.at c.args.end c.read_header.result c.loop-at.invariant.row (omega arith) c.read_header.ensures.header in
    omega (arith, read.inside, c.size_of_record-at.ensures)

pub loop-at-preserved : goal.loop-at-preserved
loop-at-preserved c =
    let header : Header = c.read_header.result in
    let read = read_of c.args.bytes.now c.loop-at.at c.args.end header c.loop-at.invariant.row (omega arith) c.read_header.ensures.header in
    let free = ap (find (λ (stored : Stored). nat_lt stored.at c.args.limit)) c.loop-at.invariant.same ∙ c.requires.free in
    let dead : is_live header ≡ false = dead_before c.args.bytes.now c.loop-at.at c.args.end c.args.limit header read c.loop-at-test.true free in
    let on = walk_on c.args.bytes.now c.loop-at.at c.args.end (c.loop-at.at + c.size_of_record-at.result) header read dead (ap (λ n. c.loop-at.at + n) c.size_of_record-at.ensures) in
    record { row = on.0; same = on.1 ∙ c.loop-at.invariant.same }

pub returns-clause-inside : goal.returns-clause-inside
returns-clause-inside c = row_order c.args.bytes.now c.loop-at.at c.args.end c.loop-at.invariant.row
