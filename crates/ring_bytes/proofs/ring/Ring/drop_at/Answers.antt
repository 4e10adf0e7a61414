use Rattle.std.proofs.Common.{◌≡◌, ◌+◌, ℕ, Bool, true, false, not, ◌||◌, cond, ◌∷◌, List, [], length, refl, sym, ap, ◌∙◌, subst, arith}
use Rattle.std.specs.Vec.{with_items}
use Rattle.page_geometry.specs.Sizes.{record_size}
use Rattle.ring_bytes.specs.declared.header.Header.{Header}
use Rattle.ring_bytes.specs.declared.ring.Ring.TheInside.{Inside}
use Rattle.ring_bytes.specs.Bytes.{SameOutside}
use Rattle.ring_bytes.specs.Fields.{live_of}
use Rattle.ring_bytes.specs.Header.{header_at, StandsAt, is_live}
use Rattle.ring_bytes.specs.Rows.{IsRow, IsPast}
use Rattle.ring_bytes.specs.Value.{RingValue, without_stored}
use Rattle.ring_bytes.proofs.RowLemmas.{size_least}
use Rattle.ring_bytes.proofs.RingLemmas.{IsLive, live_at, items_with, same_from, ring_with, view_with}
use Rattle.ring_bytes.proofs.PlaceLemmas.{AreHalves}
use Rattle.ring_bytes.proofs.ChangeLemmas.{IsNow, reheaded, dropped_list, halves_on}
use Rattle.ring_bytes.proofs.ring.Ring.drop_at.Goals as goal

-- the ring's bytes once the record's header says that it is dead
record IsDropped (a : Inside) (place : ℕ) (c : List ℕ) : Type 0 where
  items : (with_items a.bytes c).items ≡ c
  halves : AreHalves c a.next a.reached a.clear a.front
  live : live_of c a.next a.reached ≡ without_stored place (live_of a.bytes.items a.next a.reached)

dead_of : (header : Header) → is_live record header { dead = true } ≡ false
dead_of header = of header.padding
  where
    of : (b : Bool) → not (b || true) ≡ false
    of true = refl
    of false = refl

dropped_of : (a : Inside) (v : RingValue) (place : ℕ) (seen slot c : List ℕ) (header : Header) → (l : IsLive a v place) → seen ≡ a.bytes.items → header ≡ header_at seen place → slot ≡ a.bytes.items → SameOutside place (place + 16) slot c → header_at c place ≡ record header { dead = true } → StandsAt c place (record header { dead = true }) → IsDropped a place c
dropped_of a v place seen slot c header l see read is same there stands =
    let b : List ℕ = a.bytes.items in
    let header_is : header ≡ l.here.header = read ∙ ap (λ x. header_at x place) see ∙ l.here.there in
    let now = reheaded b c a.next a.reached a.clear a.front place l.stored record header { dead = true } l.here
    (same_from a.bytes slot c place (place + 16) is same) there stands (ap (λ (h : Header). h.len) header_is) in
    let gone : IsNow b c place (record_size l.here.header.len) [] =
    record { same = now.same; row = now.row; live = now.live ∙ ap (λ x. cond x (record { at = place; key = header.key; payload = l.stored.payload } ∷ []) []) (dead_of header) } in
    let list = dropped_list b c a.next a.reached a.clear a.front place l.stored l.here gone in
    record {
      items = items_with a.bytes slot c place (place + 16) is same;
      halves = list.0;
      live = list.1;
    }

pub read_header-header-requires : goal.read_header-header-requires
read_header-header-requires c =
    let l = live_at c.self.inside c.args.self.now c.args.place c.self.view_is c.self.invariant c.requires in
    omega (arith, l.here.inside, size_least l.here.header.len, ap length c.deref.ensures.value, c.self.invariant.whole)

pub put_header-requires-clause-room : goal.put_header-requires-clause-room
put_header-requires-clause-room c =
    let l = live_at c.self.inside c.args.self.now c.args.place c.self.view_is c.self.invariant c.requires in
    omega (arith, l.here.inside, size_least l.here.header.len, ap length c.deref_mut.ensures.value, c.self.invariant.whole)

pub size_of_record-requires : goal.size_of_record-requires
size_of_record-requires c =
    let l = live_at c.self.inside c.args.self.now c.args.place c.self.view_is c.self.invariant c.requires in
    let len_is = ap (λ (h : Header). h.len) (c.read_header-header.ensures.header ∙ ap (λ x. header_at x c.args.place) c.deref.ensures.value ∙ l.here.there) in
    omega (arith, len_is, l.here.small)

pub overflow_add-behind : goal.overflow_add-behind
overflow_add-behind c =
    let l = live_at c.self.inside c.args.self.now c.args.place c.self.view_is c.self.invariant c.requires in
    let len_is = ap (λ (h : Header). h.len) (c.read_header-header.ensures.header ∙ ap (λ x. header_at x c.args.place) c.deref.ensures.value ∙ l.here.there) in
    omega (arith, ap record_size len_is, c.size_of_record.ensures, l.here.inside, c.self.invariant.reached_in, c.self.invariant.small)

pub skip_dead-self-inside-requires-clause-row : goal.skip_dead-self-inside-requires-clause-row
skip_dead-self-inside-requires-clause-row c =
    let a = c.self.inside in
    let l = live_at a c.args.self.now c.args.place c.self.view_is c.self.invariant c.requires in
    let d = dropped_of a c.args.self.now c.args.place _ _ c.put_header.new.bytes c.read_header-header.result l c.deref.ensures.value
    c.read_header-header.ensures.header c.deref_mut.ensures.value c.put_header.ensures.same c.put_header.ensures.there c.put_header.ensures.bytes in
    subst (λ b. IsRow b a.clear a.reached) (sym (c.deref-2.ensures.value ∙ d.items)) d.halves.older.rest

pub skip_dead-self-inside-requires-2-clause-row : goal.skip_dead-self-inside-requires-2-clause-row
skip_dead-self-inside-requires-2-clause-row c =
    let a = c.self.inside in
    let l = live_at a c.args.self.now c.args.place c.self.view_is c.self.invariant c.requires in
    let d = dropped_of a c.args.self.now c.args.place _ _ c.put_header.new.bytes c.read_header-header.result l c.deref.ensures.value
    c.read_header-header.ensures.header c.deref_mut.ensures.value c.put_header.ensures.same c.put_header.ensures.there c.put_header.ensures.bytes in
    subst (λ b. IsRow b a.front a.next) (sym (c.deref-3.ensures.value ∙ d.items)) d.halves.newer.rest

pub invariant_of-self : goal.invariant_of-self
invariant_of-self c =
    let a = c.self.inside in
    let now : List ℕ = c.put_header.new.bytes in
    let l = live_at a c.args.self.now c.args.place c.self.view_is c.self.invariant c.requires in
    let d = dropped_of a c.args.self.now c.args.place _ _ now c.read_header-header.result l c.deref.ensures.value
    c.read_header-header.ensures.header c.deref_mut.ensures.value c.put_header.ensures.same c.put_header.ensures.there c.put_header.ensures.bytes in
    let older : IsPast now a.clear c.skip_dead-self-inside.result a.reached =
    subst (λ b. IsPast b a.clear c.skip_dead-self-inside.result a.reached) (c.deref-2.ensures.value ∙ d.items) c.skip_dead-self-inside.ensures.past in
    let newer : IsPast now a.front c.skip_dead-self-inside-2.result a.next =
    subst (λ b. IsPast b a.front c.skip_dead-self-inside-2.result a.next) (c.deref-3.ensures.value ∙ d.items) c.skip_dead-self-inside-2.ensures.past in
    ring_with a (with_items a.bytes now) now c.skip_dead-self-inside.result c.skip_dead-self-inside-2.result d.items refl c.self.invariant
    (halves_on now a.next a.reached a.clear a.front c.skip_dead-self-inside.result c.skip_dead-self-inside-2.result d.halves older newer)

pub returns : goal.returns
returns c =
    let a = c.self.inside in
    let now : List ℕ = c.put_header.new.bytes in
    let l = live_at a c.args.self.now c.args.place c.self.view_is c.self.invariant c.requires in
    let d = dropped_of a c.args.self.now c.args.place _ _ now c.read_header-header.result l c.deref.ensures.value
    c.read_header-header.ensures.header c.deref_mut.ensures.value c.put_header.ensures.same c.put_header.ensures.there c.put_header.ensures.bytes in
    view_with a c.args.self.now (with_items a.bytes now) now c.skip_dead-self-inside.result c.skip_dead-self-inside-2.result
    (without_stored c.args.place) d.items c.self.view_is d.live
