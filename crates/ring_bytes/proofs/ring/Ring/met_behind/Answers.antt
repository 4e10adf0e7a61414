use Rattle.std.proofs.Common.{◌≡◌, ◌+◌, Some, length, sym, ap, ◌∙◌, subst, arith}
use Rattle.page_geometry.specs.Sizes.{record_size}
use Rattle.ring_bytes.specs.declared.header.Header.{Header}
use Rattle.ring_bytes.specs.Header.{header_at}
use Rattle.ring_bytes.specs.Rows.{IsRow}
use Rattle.ring_bytes.specs.Value.{RingValue}
use Rattle.ring_bytes.proofs.RowLemmas.{size_least}
use Rattle.ring_bytes.proofs.RingLemmas.{live_at}
use Rattle.ring_bytes.proofs.BehindLemmas.{end_of, met_newer, met_older_first, met_older_then, met_alone_behind}
use Rattle.ring_bytes.proofs.ring.Ring.met_behind.Goals as goal

pub read_header-requires : goal.read_header-requires
read_header-requires c =
    let l = live_at c.self.inside c.args.self.now c.args.place c.self.view_is c.self.invariant c.requires.there in
    omega (arith, l.here.inside, size_least l.here.header.len, ap length c.deref.ensures.value, c.self.invariant.whole)

pub size_of_record-requires : goal.size_of_record-requires
size_of_record-requires c =
    let l = live_at c.self.inside c.args.self.now c.args.place c.self.view_is c.self.invariant c.requires.there in
    let read : c.read_header.result ≡ l.here.header =
    c.read_header.ensures.header ∙ ap (λ b. header_at b c.args.place) c.deref.ensures.value ∙ l.here.there in
    omega (arith, l.here.small, ap (λ (h : Header). h.len) read)

pub overflow_add-behind : goal.overflow_add-behind
overflow_add-behind c =
    let l = live_at c.self.inside c.args.self.now c.args.place c.self.view_is c.self.invariant c.requires.there in
    let end = end_of c.self.inside c.args.self.now c.args.place c.size_of_record.result _ c.read_header.result l c.deref.ensures.value c.read_header.ensures.header c.size_of_record.ensures in
    omega (arith, l.here.inside, end, c.self.invariant.small)

pub first_live-requires-clause-row : goal.first_live-requires-clause-row
first_live-requires-clause-row c =
    let a = c.self.inside in
    let l = live_at a c.args.self.now c.args.place c.self.view_is c.self.invariant c.requires.there in
    let end = end_of a c.args.self.now c.args.place c.size_of_record.result _ c.read_header.result l c.deref.ensures.value c.read_header.ensures.header c.size_of_record.ensures in
    subst (λ n. IsRow c.deref-then-place-self.result.now n a.next) (sym end)
    (subst (λ b. IsRow b (c.args.place + record_size l.here.header.len) a.next) (sym c.deref-then-place-self.ensures.value) (l.here.in_newer c.if-place-self.true).0)

pub returns-then-place-self-clause-next : goal.returns-then-place-self-clause-next
returns-then-place-self-clause-next c =
    let a = c.self.inside in
    let v : RingValue = c.args.self.now in
    let l = live_at a v c.args.place c.self.view_is c.self.invariant c.requires.there in
    let end = end_of a v c.args.place c.size_of_record.result _ c.read_header.result l c.deref.ensures.value c.read_header.ensures.header c.size_of_record.ensures in
    met_newer a v c.args.len c.args.place (c.args.place + c.size_of_record.result) c.newer_limit-newer.result _ c.first_live.result l c.self.view_is c.self.invariant c.if-place-self.true
    c.deref-then-place-self.ensures.value end c.newer_limit-newer.ensures c.first_live.ensures

pub returns-then-place-self-clause-alone : goal.returns-then-place-self-clause-alone
returns-then-place-self-clause-alone c =
    met_alone_behind c.self.inside c.args.self.now c.args.len c.args.place c.first_live.result c.self.view_is c.self.invariant (returns-then-place-self-clause-next c)

pub first_live-requires-2-clause-row : goal.first_live-requires-2-clause-row
first_live-requires-2-clause-row c =
    let a = c.self.inside in
    let l = live_at a c.args.self.now c.args.place c.self.view_is c.self.invariant c.requires.there in
    let end = end_of a c.args.self.now c.args.place c.size_of_record.result _ c.read_header.result l c.deref.ensures.value c.read_header.ensures.header c.size_of_record.ensures in
    subst (λ n. IsRow c.deref-2.result.now n a.reached) (sym end)
    (subst (λ b. IsRow b (c.args.place + record_size l.here.header.len) a.reached) (sym c.deref-2.ensures.value) (l.here.in_older c.if-place-self.false).0)

pub returns-in-Some-clause-next : goal.returns-in-Some-clause-next
returns-in-Some-clause-next c =
    let a = c.self.inside in
    let v : RingValue = c.args.self.now in
    let l = live_at a v c.args.place c.self.view_is c.self.invariant c.requires.there in
    let end = end_of a v c.args.place c.size_of_record.result _ c.read_header.result l c.deref.ensures.value c.read_header.ensures.header c.size_of_record.ensures in
    met_older_first a v c.args.len c.args.place (c.args.place + c.size_of_record.result) c.min-older.result c.in-Some.found _ c.first_live-2.result l c.self.view_is c.self.invariant c.if-place-self.false
    c.deref-2.ensures.value end c.min-older.ensures c.first_live-2.ensures c.in-Some.is

pub returns-in-Some-clause-alone : goal.returns-in-Some-clause-alone
returns-in-Some-clause-alone c =
    met_alone_behind c.self.inside c.args.self.now c.args.len c.args.place (Some c.in-Some.found) c.self.view_is c.self.invariant (returns-in-Some-clause-next c)

pub returns-in-None-clause-next : goal.returns-in-None-clause-next
returns-in-None-clause-next c =
    let a = c.self.inside in
    let v : RingValue = c.args.self.now in
    let l = live_at a v c.args.place c.self.view_is c.self.invariant c.requires.there in
    let end = end_of a v c.args.place c.size_of_record.result _ c.read_header.result l c.deref.ensures.value c.read_header.ensures.header c.size_of_record.ensures in
    met_older_then a v c.args.len c.args.place (c.args.place + c.size_of_record.result) c.min-older.result c.newer_limit-newer.result _ _ c.first_live-2.result c.first_live-in-None.result l c.self.view_is c.self.invariant c.if-place-self.false
    c.deref-2.ensures.value end c.min-older.ensures c.first_live-2.ensures c.in-None.is c.deref-in-None.ensures.value c.newer_limit-newer.ensures c.first_live-in-None.ensures

pub returns-in-None-clause-alone : goal.returns-in-None-clause-alone
returns-in-None-clause-alone c =
    met_alone_behind c.self.inside c.args.self.now c.args.len c.args.place c.first_live-in-None.result c.self.view_is c.self.invariant (returns-in-None-clause-next c)
