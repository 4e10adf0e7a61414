use Rattle.std.proofs.Common.{◌<◌, length, sym, subst}
use Rattle.ring_bytes.specs.Value.{RingValue}
use Rattle.ring_bytes.proofs.LiveLemmas.{met_found, fewer_left}
use Rattle.buffer_speed.proofs.records.push.Goals as goal

pub drop_at-requires : goal.drop_at-requires
drop_at-requires c = met_found c.loop-place.ring c.size_of_record-len.result c.in-Some.place c.in-Some.ensures.alone

pub loop-place-smaller : goal.loop-place-smaller
loop-place-smaller c =
    subst (λ (r : RingValue). length r.live < length c.loop-place.ring.live) (sym c.drop_at.ensures)
    (fewer_left c.loop-place.ring c.size_of_record-len.result c.in-Some.place c.in-Some.ensures.alone)
