use Rattle.std.proofs.Common.{◌≡◌, ℕ, ◌<◌, true, List, [], ◌∷◌, length, IsSome, is_some, sym, ap, ◌∙◌, subst}
use Rattle.chunk_index.specs.Value.{IndexValue, place_of}
use Rattle.ring_bytes.specs.declared.key.RecordKey.{RecordKey}
use Rattle.ring_bytes.specs.Value.{Stored, RingValue, IsMetAt, without_stored}
use Rattle.ring_bytes.proofs.ListLemmas.{only_found}
use Rattle.ring_bytes.proofs.LiveLemmas.{met_found, fewer_left}
use Rattle.trace_model.specs.Buffers.{with_losses}
use Rattle.trace_model.specs.Sequences.{Sequence, is_known}
use Rattle.trace_buffer.specs.BufferFields.{AreParts, IsIndexed}
use Rattle.trace_buffer.specs.Records.{record_of}
use Rattle.trace_buffer.specs.Unfinished.{unfinished_of}
use Rattle.trace_buffer.proofs.CountLemmas.{counted_map}
use Rattle.trace_buffer.proofs.DropLemmas.{place_is}
use Rattle.trace_buffer.proofs.FindLemmas.{mapped}
use Rattle.trace_buffer.proofs.PartLemmas.{sizes, keeps_losses}
use Rattle.trace_buffer.proofs.StepLemmas.{met_kept, step_lost, ended_ring, ended_rows, ended_lost}
use Rattle.trace_buffer.proofs.UnfinishedLemmas.{there_counted, dropped_counted}
use Rattle.trace_buffer.proofs.room.make_room.Goals as goal

pub returns-in-None-clause-ring : goal.returns-in-None-clause-ring
returns-in-None-clause-ring c =
    ended_ring c.args.ring.now c.args.rows.now c.args.overwritten c.args.len c.loop-place.ring c.loop-place.index c.loop-place.rows c.loop-place.lost c.loop-place.invariant.way c.in-None.ensures.first

pub returns-in-None-clause-rows : goal.returns-in-None-clause-rows
returns-in-None-clause-rows c =
    ended_rows c.args.ring.now c.args.rows.now c.args.overwritten c.args.len c.loop-place.ring c.loop-place.index c.loop-place.rows c.loop-place.lost c.loop-place.invariant.way c.in-None.ensures.first

pub returns-in-None-clause-lost : goal.returns-in-None-clause-lost
returns-in-None-clause-lost c =
    ended_lost c.args.ring.now c.args.rows.now c.args.overwritten c.args.len c.loop-place.ring c.loop-place.index c.loop-place.rows c.loop-place.lost c.loop-place.invariant.way c.in-None.ensures.first

pub key_at-key-requires : goal.key_at-key-requires
key_at-key-requires c = met_found c.loop-place.ring c.args.len c.in-Some.place c.in-Some.ensures.alone

its_known : (ring : RingValue) (index : IndexValue) (rows : List Sequence) (n place : ℕ) (key : RecordKey) (met : IsMetAt ring n place) → AreParts ring index rows → key ≡ met.stored.key → is_known rows key.sequence ≡ true
its_known ring index rows n place key met parts is =
    ap (λ (k : RecordKey). is_known rows k.sequence) is ∙ (met_kept ring index rows n place met parts).known

pub take-requires-clause-known : goal.take-requires-clause-known
take-requires-clause-known c =
    let met = c.in-Some.ensures.alone in
    let key = mapped (λ (s : Stored). s.key) _ met.stored c.key_at-key.result (only_found c.in-Some.place c.loop-place.ring.live met.stored met.alone) c.key_at-key.ensures in
    its_known c.loop-place.ring c.loop-place.index c.loop-place.rows c.args.len c.in-Some.place c.key_at-key.result met c.loop-place.invariant.way.parts key

pub note_loss-requires-clause-known : goal.note_loss-requires-clause-known
note_loss-requires-clause-known c =
    let met = c.in-Some.ensures.alone in
    let key = mapped (λ (s : Stored). s.key) _ met.stored c.key_at-key.result (only_found c.in-Some.place c.loop-place.ring.live met.stored met.alone) c.key_at-key.ensures in
    its_known c.loop-place.ring c.loop-place.index c.loop-place.rows c.args.len c.in-Some.place c.key_at-key.result met c.loop-place.invariant.way.parts key

pub remove-requires : goal.remove-requires
remove-requires c =
    let met = c.in-Some.ensures.alone in
    let key = mapped (λ (s : Stored). s.key) _ met.stored c.key_at-key.result (only_found c.in-Some.place c.loop-place.ring.live met.stored met.alone) c.key_at-key.ensures in
    let kept = met_kept c.loop-place.ring c.loop-place.index c.loop-place.rows c.args.len c.in-Some.place met c.loop-place.invariant.way.parts in
    subst (λ (k : RecordKey). IsSome (place_of c.loop-place.index k.sequence k.chunk_id)) (sym key)
    (ap is_some
    (place_is c.loop-place.index.places met.alone.before met.alone.behind met.stored
    (subst (IsIndexed c.loop-place.index.places) met.alone.split c.loop-place.invariant.way.parts.indexed) kept.number kept.id))

pub take-requires-clause-there : goal.take-requires-clause-there
take-requires-clause-there c =
    let met = c.in-Some.ensures.alone in
    let key = mapped (λ (s : Stored). s.key) _ met.stored c.key_at-key.result (only_found c.in-Some.place c.loop-place.ring.live met.stored met.alone) c.key_at-key.ensures in
    there_counted c.loop-place.rows c.in-Some.place c.loop-place.ring.live met.stored c.key_at-key.result c.loop-place.unfinished met.alone key c.loop-place.invariant.counted

pub loop-place-preserved : goal.loop-place-preserved
loop-place-preserved c =
    let met = c.in-Some.ensures.alone in
    let key = mapped (λ (s : Stored). s.key) _ met.stored c.key_at-key.result (only_found c.in-Some.place c.loop-place.ring.live met.stored met.alone) c.key_at-key.ensures in
    let kept = met_kept c.loop-place.ring c.loop-place.index c.loop-place.rows c.args.len c.in-Some.place met c.loop-place.invariant.way.parts in
    let less : c.take.new.self ≡ unfinished_of c.loop-place.rows (without_stored c.in-Some.place c.loop-place.ring.live) =
    dropped_counted c.loop-place.rows c.in-Some.place c.loop-place.ring.live met.stored c.key_at-key.result c.loop-place.unfinished c.take.new.self met.alone key c.loop-place.invariant.counted c.take.ensures in
    record {
      way = step_lost c.args.ring.now c.args.rows.now c.args.overwritten c.args.len c.loop-place.ring c.drop_at.new.self c.loop-place.index c.remove.new.self c.loop-place.rows c.note_loss.new.rows
          c.loop-place.lost c.in-Some.place c.note_loss.result c.saturating_add-lost.result c.key_at-key.result met c.loop-place.invariant.way key c.note_loss.ensures c.saturating_add-lost.ensures c.drop_at.ensures c.remove.ensures;
      counted = counted_map (with_losses (record_of met.stored ∷ [])) c.loop-place.rows c.note_loss.new.rows c.drop_at.new.self.live c.take.new.self
          (sizes (keeps_losses (record_of met.stored ∷ []))) (less ∙ ap (λ (r : RingValue). unfinished_of c.loop-place.rows r.live) (sym c.drop_at.ensures))
          (c.note_loss.ensures.rows met.stored (sym key) kept.reads);
    }

pub loop-place-smaller : goal.loop-place-smaller
loop-place-smaller c =
    subst (λ (r : RingValue). length r.live < length c.loop-place.ring.live) (sym c.drop_at.ensures)
    (fewer_left c.loop-place.ring c.args.len c.in-Some.place c.in-Some.ensures.alone)
