use Rattle.std.proofs.Common.{◌≡◌, ◌+◌, length, sym, ap, ◌∙◌, subst, arith}
use Rattle.page_geometry.specs.Sizes.{record_size}
use Rattle.ring_bytes.specs.declared.header.Header.{Header}
use Rattle.ring_bytes.specs.Header.{header_at}
use Rattle.ring_bytes.specs.Rows.{IsRow}
use Rattle.ring_bytes.specs.Value.{RingValue}
use Rattle.ring_bytes.proofs.RowLemmas.{size_least, row_none}
use Rattle.ring_bytes.proofs.RingLemmas.{live_at}
use Rattle.ring_bytes.proofs.BehindLemmas.{end_of}
use Rattle.ring_bytes.proofs.LiveLemmas.{next_none, next_some, first_of_all, first_behind_it, behind_newer, behind_older}
use Rattle.ring_bytes.proofs.ring.Ring.live_behind.Goals as goal

pub returns-in_default-clause-next : goal.returns-in_default-clause-next
returns-in_default-clause-next c =
    (next_none c.self.inside c.args.self.now _ c.args.place c.first_of_two.result c.self.view_is c.self.invariant c.in_default.is
    c.deref.ensures.value c.first_of_two.ensures).0

pub returns-in_default-clause-alone : goal.returns-in_default-clause-alone
returns-in_default-clause-alone c =
    first_of_all c.self.inside c.args.self.now c.first_of_two.result c.self.view_is c.self.invariant
    (next_none c.self.inside c.args.self.now _ c.args.place c.first_of_two.result c.self.view_is c.self.invariant c.in_default.is
    c.deref.ensures.value c.first_of_two.ensures).1

pub read_header-requires : goal.read_header-requires
read_header-requires c =
    let l = live_at c.self.inside c.args.self.now c.in-Some.at c.self.view_is c.self.invariant (c.requires c.in-Some.at c.in-Some.is) in
    omega (arith, l.here.inside, size_least l.here.header.len, ap length c.deref-2.ensures.value, c.self.invariant.whole)

pub size_of_record-requires : goal.size_of_record-requires
size_of_record-requires c =
    let l = live_at c.self.inside c.args.self.now c.in-Some.at c.self.view_is c.self.invariant (c.requires c.in-Some.at c.in-Some.is) in
    let read : c.read_header.result ≡ l.here.header =
    c.read_header.ensures.header ∙ ap (λ b. header_at b c.in-Some.at) c.deref-2.ensures.value ∙ l.here.there in
    omega (arith, l.here.small, ap (λ (h : Header). h.len) read)

pub overflow_add-behind : goal.overflow_add-behind
overflow_add-behind c =
    let l = live_at c.self.inside c.args.self.now c.in-Some.at c.self.view_is c.self.invariant (c.requires c.in-Some.at c.in-Some.is) in
    let end = end_of c.self.inside c.args.self.now c.in-Some.at c.size_of_record.result _ c.read_header.result l c.deref-2.ensures.value c.read_header.ensures.header c.size_of_record.ensures in
    omega (arith, l.here.inside, end, c.self.invariant.small)

pub first_of_two-requires-then-at-self-clause-row : goal.first_of_two-requires-then-at-self-clause-row
first_of_two-requires-then-at-self-clause-row c = (row_none c.deref-then-at-self.result.now c.self.inside.reached).0

pub first_of_two-requires-then-at-self-clause-second_row : goal.first_of_two-requires-then-at-self-clause-second_row
first_of_two-requires-then-at-self-clause-second_row c =
    let a = c.self.inside in
    let l = live_at a c.args.self.now c.in-Some.at c.self.view_is c.self.invariant (c.requires c.in-Some.at c.in-Some.is) in
    let end = end_of a c.args.self.now c.in-Some.at c.size_of_record.result _ c.read_header.result l c.deref-2.ensures.value c.read_header.ensures.header c.size_of_record.ensures in
    subst (λ n. IsRow c.deref-then-at-self.result.now n a.next) (sym end)
    (subst (λ b. IsRow b (c.in-Some.at + record_size l.here.header.len) a.next) (sym c.deref-then-at-self.ensures.value) (l.here.in_newer c.if-at-self.true).0)

pub returns-then-at-self-clause-next : goal.returns-then-at-self-clause-next
returns-then-at-self-clause-next c =
    let a = c.self.inside in
    let v : RingValue = c.args.self.now in
    let l = live_at a v c.in-Some.at c.self.view_is c.self.invariant (c.requires c.in-Some.at c.in-Some.is) in
    let end = end_of a v c.in-Some.at c.size_of_record.result _ c.read_header.result l c.deref-2.ensures.value c.read_header.ensures.header c.size_of_record.ensures in
    next_some a v c.in-Some.at c.args.place c.first_of_two-then-at-self.result c.self.view_is c.self.invariant l c.in-Some.is
    (behind_newer a v c.in-Some.at (c.in-Some.at + c.size_of_record.result) _ c.first_of_two-then-at-self.result l c.if-at-self.true
    c.deref-then-at-self.ensures.value end c.first_of_two-then-at-self.ensures)

pub returns-then-at-self-clause-alone : goal.returns-then-at-self-clause-alone
returns-then-at-self-clause-alone c =
    let a = c.self.inside in
    let v : RingValue = c.args.self.now in
    let l = live_at a v c.in-Some.at c.self.view_is c.self.invariant (c.requires c.in-Some.at c.in-Some.is) in
    let end = end_of a v c.in-Some.at c.size_of_record.result _ c.read_header.result l c.deref-2.ensures.value c.read_header.ensures.header c.size_of_record.ensures in
    first_behind_it a v c.in-Some.at c.first_of_two-then-at-self.result c.self.view_is c.self.invariant l
    (behind_newer a v c.in-Some.at (c.in-Some.at + c.size_of_record.result) _ c.first_of_two-then-at-self.result l c.if-at-self.true
    c.deref-then-at-self.ensures.value end c.first_of_two-then-at-self.ensures)

pub first_of_two-requires-2-clause-row : goal.first_of_two-requires-2-clause-row
first_of_two-requires-2-clause-row c =
    let a = c.self.inside in
    let l = live_at a c.args.self.now c.in-Some.at c.self.view_is c.self.invariant (c.requires c.in-Some.at c.in-Some.is) in
    let end = end_of a c.args.self.now c.in-Some.at c.size_of_record.result _ c.read_header.result l c.deref-2.ensures.value c.read_header.ensures.header c.size_of_record.ensures in
    subst (λ n. IsRow c.deref-3.result.now n a.reached) (sym end)
    (subst (λ b. IsRow b (c.in-Some.at + record_size l.here.header.len) a.reached) (sym c.deref-3.ensures.value) (l.here.in_older c.if-at-self.false).0)

pub returns-clause-next : goal.returns-clause-next
returns-clause-next c =
    let a = c.self.inside in
    let v : RingValue = c.args.self.now in
    let l = live_at a v c.in-Some.at c.self.view_is c.self.invariant (c.requires c.in-Some.at c.in-Some.is) in
    let end = end_of a v c.in-Some.at c.size_of_record.result _ c.read_header.result l c.deref-2.ensures.value c.read_header.ensures.header c.size_of_record.ensures in
    next_some a v c.in-Some.at c.args.place c.first_of_two-2.result c.self.view_is c.self.invariant l c.in-Some.is
    (behind_older a v c.in-Some.at (c.in-Some.at + c.size_of_record.result) _ c.first_of_two-2.result c.self.invariant l c.if-at-self.false
    c.deref-3.ensures.value end c.first_of_two-2.ensures)

pub returns-clause-alone : goal.returns-clause-alone
returns-clause-alone c =
    let a = c.self.inside in
    let v : RingValue = c.args.self.now in
    let l = live_at a v c.in-Some.at c.self.view_is c.self.invariant (c.requires c.in-Some.at c.in-Some.is) in
    let end = end_of a v c.in-Some.at c.size_of_record.result _ c.read_header.result l c.deref-2.ensures.value c.read_header.ensures.header c.size_of_record.ensures in
    first_behind_it a v c.in-Some.at c.first_of_two-2.result c.self.view_is c.self.invariant l
    (behind_older a v c.in-Some.at (c.in-Some.at + c.size_of_record.result) _ c.first_of_two-2.result c.self.invariant l c.if-at-self.false
    c.deref-3.ensures.value end c.first_of_two-2.ensures)
