use Rattle.std.proofs.Common.{◌≡◌, ℕ, ◌<◌, ◌&&◌, nat_lt, List, Option, Some, IfSome, length, sym, ap, ◌∙◌, subst}
use Rattle.std.specs.List.{list_any}
use Rattle.ring_bytes.specs.declared.key.RecordKey.{RecordKey}
use Rattle.ring_bytes.specs.Value.{Stored, RingValue, IsMetAt, meets_stored}
use Rattle.ring_bytes.proofs.ListLemmas.{only_found}
use Rattle.ring_bytes.proofs.LiveLemmas.{met_found}
use Rattle.trace_model.specs.Buffers.{BufferRecord, is_unread}
use Rattle.trace_model.specs.Sequences.{Sequence, is_known, sequence_in, unread_of}
use Rattle.chunk_index.specs.Value.{IndexValue}
use Rattle.trace_buffer.specs.BufferFields.{AreParts}
use Rattle.trace_buffer.specs.Records.{record_of, meets_record}
use Rattle.trace_buffer.proofs.FindLemmas.{mapped}
use Rattle.trace_buffer.proofs.RowLemmas.{sequence_is}
use Rattle.trace_buffer.proofs.StepLemmas.{met_kept}
use Rattle.trace_buffer.proofs.UnreadLemmas.{unread_is, is_more, is_none}
use Rattle.trace_buffer.proofs.WalkLemmas.{any_first, any_next, any_here, less_left, any_map, left, none_left}
use Rattle.trace_buffer.proofs.room.meets_unread.Goals as goal

its_met : (ring : RingValue) (n place : ℕ) (next : Option ℕ) → next ≡ Some place → IfSome next (IsMetAt ring n) → IsMetAt ring n place
its_met ring n place next is met = subst (λ o. IfSome o (IsMetAt ring n)) is met

pub loop-next-init : goal.loop-next-init
loop-next-init c =
    let ring : RingValue = c.args.ring.now in
    let rows : List Sequence = c.args.rows.now in
    let n : ℕ = c.args.len in
    record {
      same = any_first (meets_stored ring n) (λ s. meets_stored ring n s && is_unread rows (record_of s)) c.next_met-next.result ring.live
          (λ s is. ap (λ b. b && is_unread rows (record_of s)) is) c.requires.parts.indexed.places_once c.next_met-next.ensures.first;
      met = c.next_met-next.ensures.alone;
    }

pub key_at-key-requires : goal.key_at-key-requires
key_at-key-requires c =
    met_found c.args.ring.now c.args.len c.in-Some.place (its_met c.args.ring.now c.args.len c.in-Some.place c.loop-next.next c.in-Some.is c.loop-next.invariant.met)

pub find_row-requires : goal.find_row-requires
find_row-requires c =
    let met = its_met c.args.ring.now c.args.len c.in-Some.place c.loop-next.next c.in-Some.is c.loop-next.invariant.met in
    let key = mapped (λ (s : Stored). s.key) _ met.stored c.key_at-key.result (only_found c.in-Some.place c.args.ring.now.live met.stored met.alone) c.key_at-key.ensures in
    ap (λ (k : RecordKey). is_known c.args.rows.now k.sequence) key
    ∙ (met_kept c.args.ring.now c.args.index.now c.args.rows.now c.args.len c.in-Some.place met c.requires.parts).known

tested_is : (ring : RingValue) (index : IndexValue) (rows : List Sequence) (n place : ℕ) (met : IsMetAt ring n place) (key : RecordKey) (row : Sequence) (count : ℕ) → AreParts ring index rows → key ≡ met.stored.key → row ≡ sequence_in rows key.sequence → count ≡ unread_of row key.chunk_id key.count → (meets_stored ring n met.stored && is_unread rows (record_of met.stored)) ≡ nat_lt 0 count
tested_is ring index rows n place met key row count parts key_is row_is count_is =
    ap (λ b. b && is_unread rows (record_of met.stored)) met.met
    ∙ sym (unread_is rows met.stored key row count (met_kept ring index rows n place met parts).reads key_is row_is count_is)

pub returns-then-unread_of-gt0 : goal.returns-then-unread_of-gt0
returns-then-unread_of-gt0 c =
    let ring : RingValue = c.args.ring.now in
    let rows : List Sequence = c.args.rows.now in
    let n : ℕ = c.args.len in
    let met = its_met ring n c.in-Some.place c.loop-next.next c.in-Some.is c.loop-next.invariant.met in
    let there = only_found c.in-Some.place ring.live met.stored met.alone in
    let unread = tested_is ring c.args.index.now rows n c.in-Some.place met c.key_at-key.result c.index-rows-find_row.result c.unread_of.result c.requires.parts
    (mapped (λ (s : Stored). s.key) _ met.stored c.key_at-key.result there c.key_at-key.ensures)
    (c.index-rows-find_row.is ∙ sequence_is rows c.find_row.result c.key_at-key.result.sequence _ _ c.requires.parts.once c.find_row.ensures.within c.find_row.ensures.number)
    c.unread_of.ensures in
    let told = c.loop-next.invariant.same ∙ ap (λ o. list_any (λ (s : Stored). meets_stored ring n s && is_unread rows (record_of s)) (left o ring.live)) c.in-Some.is in
    sym
    (any_map (λ (r : BufferRecord). meets_record ring n r && is_unread rows r) record_of ring.live
    ∙ any_here (λ s. meets_stored ring n s && is_unread rows (record_of s)) c.in-Some.place ring.live met.stored
    (list_any (λ (s : Stored). meets_stored ring n s && is_unread rows (record_of s)) ring.live) there (unread ∙ is_more c.unread_of.result c.if-unread_of-gt0.true) told)

pub loop-next-smaller : goal.loop-next-smaller
loop-next-smaller c =
    let ring : RingValue = c.args.ring.now in
    let rows : List Sequence = c.args.rows.now in
    let n : ℕ = c.args.len in
    let met = its_met ring n c.in-Some.place c.loop-next.next c.in-Some.is c.loop-next.invariant.met in
    let there = only_found c.in-Some.place ring.live met.stored met.alone in
    subst (λ o. length (left c.met_behind-next.result ring.live) < length (left o ring.live)) (sym c.in-Some.is)
    (less_left (meets_stored ring n) c.in-Some.place c.met_behind-next.result ring.live met.stored c.requires.parts.indexed.places_once there c.met_behind-next.ensures.next)

pub loop-next-preserved : goal.loop-next-preserved
loop-next-preserved c =
    let ring : RingValue = c.args.ring.now in
    let rows : List Sequence = c.args.rows.now in
    let n : ℕ = c.args.len in
    let met = its_met ring n c.in-Some.place c.loop-next.next c.in-Some.is c.loop-next.invariant.met in
    let there = only_found c.in-Some.place ring.live met.stored met.alone in
    let unread = tested_is ring c.args.index.now rows n c.in-Some.place met c.key_at-key.result c.index-rows-find_row.result c.unread_of.result c.requires.parts
    (mapped (λ (s : Stored). s.key) _ met.stored c.key_at-key.result there c.key_at-key.ensures)
    (c.index-rows-find_row.is ∙ sequence_is rows c.find_row.result c.key_at-key.result.sequence _ _ c.requires.parts.once c.find_row.ensures.within c.find_row.ensures.number)
    c.unread_of.ensures in
    let told = c.loop-next.invariant.same ∙ ap (λ o. list_any (λ (s : Stored). meets_stored ring n s && is_unread rows (record_of s)) (left o ring.live)) c.in-Some.is in
    record {
      same = any_next (meets_stored ring n) (λ s. meets_stored ring n s && is_unread rows (record_of s)) c.in-Some.place c.met_behind-next.result ring.live met.stored
          (list_any (λ (s : Stored). meets_stored ring n s && is_unread rows (record_of s)) ring.live)
          (λ s is. ap (λ b. b && is_unread rows (record_of s)) is) c.requires.parts.indexed.places_once there c.met_behind-next.ensures.next
          (unread ∙ is_none c.unread_of.result c.if-unread_of-gt0.false) told;
      met = c.met_behind-next.ensures.alone;
    }

pub returns : goal.returns
returns c =
    let ring : RingValue = c.args.ring.now in
    let rows : List Sequence = c.args.rows.now in
    let n : ℕ = c.args.len in
    sym
    (any_map (λ (r : BufferRecord). meets_record ring n r && is_unread rows r) record_of ring.live
    ∙ c.loop-next.invariant.same
    ∙ none_left c.loop-next.next ring.live (λ s. meets_stored ring n s && is_unread rows (record_of s)) c.in_default.is)
