use Rattle.std.proofs.Common.{◌≡◌, ◌+◌, ◌≤◌, ℕ, List, [], ◌∷◌, None, length, refl, sym, ap, ◌∙◌, subst, arith}
use Rattle.std.specs.List.{find}
use Rattle.std.specs.Option.{option_map}
use Rattle.std.specs.Vec.{with_items}
use Rattle.page_geometry.specs.Sizes.{record_size}
use Rattle.ring_bytes.specs.declared.key.RecordKey.{RecordKey}
use Rattle.ring_bytes.specs.declared.ring.Ring.TheInside.{Inside}
use Rattle.ring_bytes.specs.Bytes.{SameOutside}
use Rattle.ring_bytes.specs.Fields.{ring_view, IsRing}
use Rattle.ring_bytes.specs.Rows.{IsRow, live_row}
use Rattle.ring_bytes.specs.Value.{Stored, RingValue, next_met_of}
use Rattle.ring_bytes.proofs.RowLemmas.{size_units, row_units}
use Rattle.ring_bytes.proofs.RingLemmas.{items_with, same_from, few_in}
use Rattle.ring_bytes.proofs.MetLemmas.{before, found_fit, no_place}
use Rattle.ring_bytes.proofs.WriteLemmas.{IsWritten, IsGrown, grown_of, grown_view, written_of, written_view}
use Rattle.ring_bytes.proofs.ring.Ring.write.Goals as goal

free_behind : (a : Inside) (turn : RingValue) (seen : List ℕ) (len : ℕ) → ring_view a ≡ turn → IsRing a → turn.next + len ≤ turn.room → next_met_of turn len ≡ None → seen ≡ a.bytes.items → find (before (a.next + len)) (live_row seen a.clear a.reached) ≡ None
free_behind a turn seen len view ok fit free same =
    let fits : a.next + len ≤ a.size = subst (λ (r : RingValue). r.next + len ≤ r.room) (sym view) fit in
    let none : next_met_of (ring_view a) len ≡ None = ap (λ (r : RingValue). next_met_of r len) view ∙ free in
    ap (λ b. find (before (a.next + len)) (live_row b a.clear a.reached)) same
    ∙ no_place (find (before (a.next + len)) (live_row a.bytes.items a.clear a.reached))
    (sym none ∙ ap (option_map (λ (s : Stored). s.at)) (found_fit a len ok fits))

-- the record is put, with what stands behind it
put_of : (a : Inside) (seen slot c : List ℕ) (len end : ℕ) (key : RecordKey) (payload : List ℕ) → IsRing a → len ≡ record_size (length payload) → a.next + len ≤ end → end ≤ a.reached → seen ≡ a.bytes.items → slot ≡ a.bytes.items → IsRow seen end a.reached → live_row seen end a.reached ≡ live_row seen a.clear a.reached → SameOutside a.next end slot c → IsRow c a.next (a.next + record_size (length payload)) → live_row c a.next (a.next + record_size (length payload)) ≡ record { at = a.next; key = key; payload = payload } ∷ [] → IsRow c (a.next + record_size (length payload)) end → live_row c (a.next + record_size (length payload)) end ≡ [] → IsWritten a len end record { at = a.next; key = key; payload = payload } (with_items a.bytes c)
put_of a seen slot c len end key payload ok size inside ends see is row live same one one_live rest none =
    subst (λ n. IsWritten a n end record { at = a.next; key = key; payload = payload } (with_items a.bytes c)) (sym size)
    (written_of a c (with_items a.bytes c) (record_size (length payload)) end record { at = a.next; key = key; payload = payload } ok
    (size_units (length payload)) (omega arith) ends
    (subst (λ b. IsRow b end a.reached) see row)
    (ap (λ b. live_row b end a.reached) (sym see) ∙ live ∙ ap (λ b. live_row b a.clear a.reached) see) refl
    (items_with a.bytes slot c a.next end is same) (same_from a.bytes slot c a.next end is same) one one_live rest none)

pub first_behind-end-requires-clause-row : goal.first_behind-end-requires-clause-row
first_behind-end-requires-clause-row c =
    let a = c.self-2.inside in
    let to : ℕ = c.reach-self-inside.result in
    let grown : IsGrown a to c.reach-self-inside.new.bytes =
    grown_of a to c.reach-self-inside.new.bytes c.self-2.invariant c.reach-self-inside.ensures.more c.reach-self-inside.ensures.inside
    c.reach-self-inside.ensures.units c.reach-self-inside.ensures.whole c.reach-self-inside.ensures.room c.reach-self-inside.ensures.kept
    c.reach-self-inside.ensures.row c.reach-self-inside.ensures.none in
    subst (λ b. IsRow b a.clear to) (sym c.deref.ensures.value) grown.ring.clear.rest

pub first_behind-end-requires-clause-free : goal.first_behind-end-requires-clause-free
first_behind-end-requires-clause-free c =
    let a = c.self-2.inside in
    let to : ℕ = c.reach-self-inside.result in
    let grown : IsGrown a to c.reach-self-inside.new.bytes =
    grown_of a to c.reach-self-inside.new.bytes c.self-2.invariant c.reach-self-inside.ensures.more c.reach-self-inside.ensures.inside
    c.reach-self-inside.ensures.units c.reach-self-inside.ensures.whole c.reach-self-inside.ensures.room c.reach-self-inside.ensures.kept
    c.reach-self-inside.ensures.row c.reach-self-inside.ensures.none in
    let ring : Inside = record { size = a.size; reached = to; next = a.next; clear = a.clear; front = a.front; bytes = c.reach-self-inside.new.bytes } in
    free_behind ring c.turn.new.self _ c.size_of_record-len.result
    (grown_view a c.turn.new.self to c.reach-self-inside.new.bytes c.self-2.view_is grown) grown.ring
    c.turn.ensures.fits c.turn.ensures.free c.deref.ensures.value

pub put_over-requires-clause-end_units : goal.put_over-requires-clause-end_units
put_over-requires-clause-end_units c =
    omega (arith, row_units c.deref.result.now c.first_behind-end.result c.reach-self-inside.result c.first_behind-end.ensures.row, c.reach-self-inside.ensures.units)

pub invariant_of-self : goal.invariant_of-self
invariant_of-self c =
    let a = c.self-2.inside in
    let to : ℕ = c.reach-self-inside.result in
    let grown : IsGrown a to c.reach-self-inside.new.bytes =
    grown_of a to c.reach-self-inside.new.bytes c.self-2.invariant c.reach-self-inside.ensures.more c.reach-self-inside.ensures.inside
    c.reach-self-inside.ensures.units c.reach-self-inside.ensures.whole c.reach-self-inside.ensures.room c.reach-self-inside.ensures.kept
    c.reach-self-inside.ensures.row c.reach-self-inside.ensures.none in
    let ring : Inside = record { size = a.size; reached = to; next = a.next; clear = a.clear; front = a.front; bytes = c.reach-self-inside.new.bytes } in
    (put_of ring _ _ c.put_over.new.bytes c.size_of_record-len.result c.first_behind-end.result c.args.key c.args.payload.now grown.ring
    c.size_of_record-len.ensures c.first_behind-end.ensures.behind c.first_behind-end.ensures.inside c.deref.ensures.value c.deref_mut.ensures.value
    c.first_behind-end.ensures.row c.first_behind-end.ensures.live c.put_over.ensures.same c.put_over.ensures.row c.put_over.ensures.live
    c.put_over.ensures.rest c.put_over.ensures.none).ring

pub returns-clause-after : goal.returns-clause-after
returns-clause-after c =
    let a = c.self-2.inside in
    let to : ℕ = c.reach-self-inside.result in
    let grown : IsGrown a to c.reach-self-inside.new.bytes =
    grown_of a to c.reach-self-inside.new.bytes c.self-2.invariant c.reach-self-inside.ensures.more c.reach-self-inside.ensures.inside
    c.reach-self-inside.ensures.units c.reach-self-inside.ensures.whole c.reach-self-inside.ensures.room c.reach-self-inside.ensures.kept
    c.reach-self-inside.ensures.row c.reach-self-inside.ensures.none in
    let ring : Inside = record { size = a.size; reached = to; next = a.next; clear = a.clear; front = a.front; bytes = c.reach-self-inside.new.bytes } in
    written_view ring c.args.self.now c.turn.new.self (with_items ring.bytes c.put_over.new.bytes) c.size_of_record-len.result c.first_behind-end.result
    c.args.key c.args.payload.now (grown_view a c.turn.new.self to c.reach-self-inside.new.bytes c.self-2.view_is grown) c.turn.ensures.after
    c.size_of_record-len.ensures
    (put_of ring _ _ c.put_over.new.bytes c.size_of_record-len.result c.first_behind-end.result c.args.key c.args.payload.now grown.ring
    c.size_of_record-len.ensures c.first_behind-end.ensures.behind c.first_behind-end.ensures.inside c.deref.ensures.value c.deref_mut.ensures.value
    c.first_behind-end.ensures.row c.first_behind-end.ensures.live c.put_over.ensures.same c.put_over.ensures.row c.put_over.ensures.live
    c.put_over.ensures.rest c.put_over.ensures.none)

pub returns-clause-few : goal.returns-clause-few
returns-clause-few c =
    let a = c.self-2.inside in
    let to : ℕ = c.reach-self-inside.result in
    let grown : IsGrown a to c.reach-self-inside.new.bytes =
    grown_of a to c.reach-self-inside.new.bytes c.self-2.invariant c.reach-self-inside.ensures.more c.reach-self-inside.ensures.inside
    c.reach-self-inside.ensures.units c.reach-self-inside.ensures.whole c.reach-self-inside.ensures.room c.reach-self-inside.ensures.kept
    c.reach-self-inside.ensures.row c.reach-self-inside.ensures.none in
    let ring : Inside = record { size = a.size; reached = to; next = a.next; clear = a.clear; front = a.front; bytes = c.reach-self-inside.new.bytes } in
    let now : Inside = record {
      size = a.size;
      reached = to;
      next = a.next + c.size_of_record-len.result;
      clear = c.first_behind-end.result;
      front = a.front;
      bytes = with_items ring.bytes c.put_over.new.bytes;
    } in
    few_in now (ring_view now) refl
    (put_of ring _ _ c.put_over.new.bytes c.size_of_record-len.result c.first_behind-end.result c.args.key c.args.payload.now grown.ring
    c.size_of_record-len.ensures c.first_behind-end.ensures.behind c.first_behind-end.ensures.inside c.deref.ensures.value c.deref_mut.ensures.value
    c.first_behind-end.ensures.row c.first_behind-end.ensures.live c.put_over.ensures.same c.put_over.ensures.row c.put_over.ensures.live
    c.put_over.ensures.rest c.put_over.ensures.none).ring
