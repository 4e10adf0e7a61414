use Rattle.std.proofs.Common.{◌≡◌, ◌+◌, true, false, nat_lt, refl, sym, ap, ◌∙◌, arith}
use Rattle.std.specs.List.{find}
use Rattle.std.specs.Option.{option_map}
use Rattle.ring_bytes.specs.declared.header.Header.{Header}
use Rattle.ring_bytes.specs.Header.{header_at, is_live}
use Rattle.ring_bytes.specs.Rows.{live_row}
use Rattle.ring_bytes.specs.Value.{Stored}
use Rattle.ring_bytes.proofs.RowLemmas.{size_least, row_within}
use Rattle.ring_bytes.proofs.WalkLemmas.{read_of, walk_on, found_here, none_before}
use Rattle.ring_bytes.proofs.walk.first_live.Goals as goal

pub read_header-header-requires : goal.read_header-header-requires
read_header-header-requires c =
    let header : Header = header_at c.args.bytes.now c.loop-at.at in
    let read = read_of c.args.bytes.now c.loop-at.at c.args.end header c.loop-at.invariant.row (omega arith) refl in
    omega (arith, read.inside, size_least header.len)

pub returns-then-is_live : goal.returns-then-is_live
returns-then-is_live c =
    let header : Header = c.read_header-header.result in
    let read = read_of c.args.bytes.now c.loop-at.at c.args.end header c.loop-at.invariant.row (omega arith) c.read_header-header.ensures.header in
    let live : is_live header ≡ true = sym c.is_live.ensures ∙ c.if-is_live.true in
    ap (option_map (λ (stored : Stored). stored.at))
    (sym (found_here c.args.bytes.now c.loop-at.at c.args.end c.args.limit header read live c.loop-at-test.true) ∙ c.loop-at.invariant.same)

pub size_of_record-at-requires : goal.size_of_record-at-requires
size_of_record-at-requires c =
    let read = read_of c.args.bytes.now c.loop-at.at c.args.end c.read_header-header.result c.loop-at.invariant.row (omega arith) c.read_header-header.ensures.header in
    omega (arith, read.small)

pub overflow_add-at : goal.overflow_add-at
overflow_add-at c =
    let read = read_of c.args.bytes.now c.loop-at.at c.args.end c.read_header-header.result c.loop-at.invariant.row (omega arith) c.read_header-header.ensures.header in
    omega (arith, read.inside, c.size_of_record-at.ensures)

pub loop-at-preserved : goal.loop-at-preserved
loop-at-preserved c =
    let header : Header = c.read_header-header.result in
    let read = read_of c.args.bytes.now c.loop-at.at c.args.end header c.loop-at.invariant.row (omega arith) c.read_header-header.ensures.header in
    let dead : is_live header ≡ false = sym c.is_live.ensures ∙ c.if-is_live.false in
    let on = walk_on c.args.bytes.now c.loop-at.at c.args.end (c.loop-at.at + c.size_of_record-at.result) header read dead (ap (λ n. c.loop-at.at + n) c.size_of_record-at.ensures) in
    record {
      row = on.0;
      same = ap (find (λ (stored : Stored). nat_lt stored.at c.args.limit)) on.1 ∙ c.loop-at.invariant.same;
    }

pub returns : goal.returns
returns c =
    ap (option_map (λ (stored : Stored). stored.at))
    (sym (none_before c.loop-at.at c.args.end c.args.limit (live_row c.args.bytes.now c.loop-at.at c.args.end)
    (row_within c.args.bytes.now c.loop-at.at c.args.end c.requires.room c.loop-at.invariant.row) c.loop-at-test.false)
    ∙ c.loop-at.invariant.same)
