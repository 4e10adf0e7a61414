use Rattle.std.proofs.Common.{◌≡◌, ◌+◌, ◌-◌, ◌≤◌, ℕ, Some, length, take, drop, sym, ap, ◌∙◌, arith, rules}
use Rattle.std.specs.Option.{option_map}
use Rattle.ring_bytes.specs.declared.header.Header.{Header}
use Rattle.ring_bytes.specs.Header.{header_at}
use Rattle.ring_bytes.specs.Value.{Stored}
use Rattle.ring_bytes.proofs.RowLemmas.{size_least}
use Rattle.ring_bytes.proofs.RingLemmas.{live_at}
use Rattle.ring_bytes.proofs.ring.Ring.payload_at.Goals as goal

pub read_header-len-requires : goal.read_header-len-requires
read_header-len-requires c =
    let l = live_at c.self.inside c.args.self.now c.args.place c.self.view_is c.self.invariant c.requires in
    omega (arith, l.here.inside, size_least l.here.header.len, ap length c.deref.ensures.value, c.self.invariant.whole)

pub overflow_add-from : goal.overflow_add-from
overflow_add-from c =
    let l = live_at c.self.inside c.args.self.now c.args.place c.self.view_is c.self.invariant c.requires in
    omega (arith, l.here.inside, size_least l.here.header.len, c.self.invariant.small)

pub slice_bounds-result-end : goal.slice_bounds-result-end
slice_bounds-result-end c =
    let l = live_at c.self.inside c.args.self.now c.args.place c.self.view_is c.self.invariant c.requires in
    let read : c.read_header-len.result ≡ l.here.header =
    c.read_header-len.ensures.header ∙ ap (λ b. header_at b c.args.place) c.deref.ensures.value ∙ l.here.there in
    let least = size_least l.here.header.len in
    let inside : c.args.place + 16 + c.read_header-len.result.len ≤ length c.deref-2.result.now =
    omega (arith, l.here.inside, least, ap (λ (h : Header). h.len) read, ap length c.deref-2.ensures.value, c.self.invariant.whole) in
    search rules

pub returns : goal.returns
returns c =
    let l = live_at c.self.inside c.args.self.now c.args.place c.self.view_is c.self.invariant c.requires in
    let read : c.read_header-len.result ≡ l.here.header =
    c.read_header-len.ensures.header ∙ ap (λ b. header_at b c.args.place) c.deref.ensures.value ∙ l.here.there in
    let from : ℕ = c.args.place + 16 in
    let count : from + c.read_header-len.result.len - from ≡ l.here.header.len = omega (arith, ap (λ (h : Header). h.len) read) in
    ap (option_map (λ (stored : Stored). stored.payload)) l.found
    ∙ ap (λ (stored : Stored). Some stored.payload) (sym l.here.is)
    ∙ ap (λ n. Some (take n (drop from c.self.inside.bytes.items))) (sym count)
    ∙ ap (λ b. Some (take (from + c.read_header-len.result.len - from) (drop from b))) (sym c.deref-2.ensures.value)
