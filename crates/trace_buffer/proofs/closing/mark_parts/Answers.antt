use Rattle.std.proofs.Common.{◌≡◌, ℕ, ◌<◌, List, ◌∷◌, Option, Some, IfSome, length, sym, ap, ◌∙◌, subst, arith}
use Rattle.ring_bytes.specs.Value.{Stored, RingValue}
use Rattle.ring_bytes.specs.Walked.{IsAlone, behind}
use Rattle.ring_bytes.proofs.ListLemmas.{only_found}
use Rattle.ring_bytes.proofs.LiveLemmas.{alone_found}
use Rattle.trace_buffer.proofs.ClosingLemmas.{IsMarked, begun, none_to_mark, still_marked, ended_row, near_here}
use Rattle.trace_buffer.proofs.FindLemmas.{mapped}
use Rattle.trace_buffer.proofs.WalkLemmas.{left, left_here, all_left, left_next, left_none}
use Rattle.trace_buffer.proofs.closing.mark_parts.Goals as goal

its_alone : (ring : RingValue) (place : ℕ) (next : Option ℕ) → next ≡ Some place → IfSome next (IsAlone ring) → IsAlone ring place
its_alone ring place next is alone = subst (λ o. IfSome o (IsAlone ring)) is alone

pub returns-then-parts-eq0 : goal.returns-then-parts-eq0
returns-then-parts-eq0 c =
    let live : List Stored = c.args.ring.now.live in
    ended_row c.args.row.now live c.args.row.now
    (none_to_mark c.args.row.now live c.args.row.now live (sym c.requires.counted ∙ c.if-parts-eq0.true)
    (begun c.args.row.now live c.requires.near c.requires.none))

pub loop-next-init : goal.loop-next-init
loop-next-init c =
    let live : List Stored = c.args.ring.now.live in
    record {
      marked = subst (IsMarked c.args.row.now live c.args.row.now) (sym (all_left c.live_behind-next.result live c.live_behind-next.ensures.next))
          (begun c.args.row.now live c.requires.near c.requires.none);
      alone = c.live_behind-next.ensures.alone;
    }

pub key_at-key-requires : goal.key_at-key-requires
key_at-key-requires c =
    alone_found c.args.ring.now c.in-Some.place (its_alone c.args.ring.now c.in-Some.place c.loop-next.next c.in-Some.is c.loop-next.invariant.alone)

pub mark_part-requires-clause-near : goal.mark_part-requires-clause-near
mark_part-requires-clause-near c =
    let ring : RingValue = c.args.ring.now in
    let alone = its_alone ring c.in-Some.place c.loop-next.next c.in-Some.is c.loop-next.invariant.alone in
    let there = only_found c.in-Some.place ring.live alone.stored alone.alone in
    let key = mapped (λ (s : Stored). s.key) _ alone.stored c.key_at-key.result there c.key_at-key.ensures in
    let marked = subst (IsMarked c.args.row.now ring.live c.loop-next.row)
    (ap (λ o. left o ring.live) c.in-Some.is ∙ left_here c.in-Some.place ring.live alone.stored there) c.loop-next.invariant.marked in
    near_here c.args.row.now c.loop-next.row c.key_at-key.result alone.stored.key marked.same key marked.near.0

shorter : (now new : List Stored) (s : Stored) (rest : List Stored) → now ≡ s ∷ rest → new ≡ rest → length new < length now
shorter now new s rest now_is new_is =
    subst (λ ss. length ss < length now) (sym new_is) (subst (λ ss. length rest < length ss) (sym now_is) (omega arith))

pub loop-next-smaller : goal.loop-next-smaller
loop-next-smaller c =
    let ring : RingValue = c.args.ring.now in
    let alone = its_alone ring c.in-Some.place c.loop-next.next c.in-Some.is c.loop-next.invariant.alone in
    let there = only_found c.in-Some.place ring.live alone.stored alone.alone in
    shorter (left c.loop-next.next ring.live) (left c.live_behind-next-in-Some.result ring.live) alone.stored (behind c.in-Some.place ring.live)
    (ap (λ o. left o ring.live) c.in-Some.is ∙ left_here c.in-Some.place ring.live alone.stored there)
    (left_next c.in-Some.place c.live_behind-next-in-Some.result ring.live c.requires.once c.live_behind-next-in-Some.ensures.next)

pub loop-next-preserved : goal.loop-next-preserved
loop-next-preserved c =
    let ring : RingValue = c.args.ring.now in
    let alone = its_alone ring c.in-Some.place c.loop-next.next c.in-Some.is c.loop-next.invariant.alone in
    let there = only_found c.in-Some.place ring.live alone.stored alone.alone in
    let key = mapped (λ (s : Stored). s.key) _ alone.stored c.key_at-key.result there c.key_at-key.ensures in
    let marked = subst (IsMarked c.args.row.now ring.live c.loop-next.row)
    (ap (λ o. left o ring.live) c.in-Some.is ∙ left_here c.in-Some.place ring.live alone.stored there) c.loop-next.invariant.marked in
    record {
      marked = subst (IsMarked c.args.row.now ring.live c.mark_part.new.row)
          (sym (left_next c.in-Some.place c.live_behind-next-in-Some.result ring.live c.requires.once c.live_behind-next-in-Some.ensures.next))
          (still_marked c.args.row.now ring.live c.loop-next.row c.mark_part.new.row alone.stored c.key_at-key.result
          (behind c.in-Some.place ring.live) marked key c.mark_part.ensures);
      alone = c.live_behind-next-in-Some.ensures.alone;
    }

pub returns : goal.returns
returns c =
    ended_row c.args.row.now c.args.ring.now.live c.loop-next.row
    (subst (IsMarked c.args.row.now c.args.ring.now.live c.loop-next.row) (left_none c.loop-next.next c.args.ring.now.live c.in_default.is) c.loop-next.invariant.marked)
