use Rattle.std.proofs.Common.{◌≡◌, Some, length, sym, ap, ◌∙◌, arith}
use Rattle.std.specs.Option.{option_map}
use Rattle.ring_bytes.specs.declared.header.Header.{Header}
use Rattle.ring_bytes.specs.Header.{header_at}
use Rattle.ring_bytes.specs.Value.{Stored}
use Rattle.ring_bytes.proofs.RowLemmas.{size_least}
use Rattle.ring_bytes.proofs.RingLemmas.{live_at}
use Rattle.ring_bytes.proofs.ring.Ring.key_at.Goals as goal

pub read_header-requires : goal.read_header-requires
read_header-requires c =
    let l = live_at c.self.inside c.args.self.now c.args.place c.self.view_is c.self.invariant c.requires in
    omega (arith, l.here.inside, size_least l.here.header.len, ap length c.deref.ensures.value, c.self.invariant.whole)

pub returns : goal.returns
returns c =
    let l = live_at c.self.inside c.args.self.now c.args.place c.self.view_is c.self.invariant c.requires in
    let read : c.read_header.result ≡ l.here.header =
    c.read_header.ensures.header ∙ ap (λ b. header_at b c.args.place) c.deref.ensures.value ∙ l.here.there in
    ap (option_map (λ (stored : Stored). stored.key)) l.found
    ∙ ap (λ (stored : Stored). Some stored.key) (sym l.here.is)
    ∙ ap (λ (header : Header). Some header.key) (sym read)
