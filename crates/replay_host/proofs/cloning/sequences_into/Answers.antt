use Rattle.std.proofs.Common.{◌≡◌, ◌+◌, ◌-◌, ◌∙◌, ◌<◌, ◌≤◌, ℕ, List, length, map, subst, sym, refl, ap, arith}
use Rattle.std.proofs.lemmas.List.{get_or_read}
use Rattle.page_geometry.specs.Sizes.{record_size, payload_size}
use Rattle.chunk_plain.specs.declared.setup.ProducerSpec.{ProducerSpec}
use Rattle.chunk_plain.specs.Setup.{size_of}
use Rattle.chunk_plain.specs.Laying.{setup_of}
use Rattle.trace_buffer.specs.declared.answers.SequenceSpec.{SequenceSpec}
use Rattle.trace_buffer.specs.Made.{sequence_of, AreDistinct, AllSmall}
use Rattle.service_core.specs.Agreement.{spec_at}
use Rattle.service_core.proofs.MakeLemmas.{AllBelow, below_later, below_append, small_append, distinct_append, from_skip, made_more, ranges_long, size_is}
use Rattle.replay_host.proofs.cloning.sequences_into.Goals as goal

pub loop-place-preserved-then-writers-place : goal.loop-place-preserved-then-writers-place
loop-place-preserved-then-writers-place c =
    let i = c.loop-place.invariant in
    let below = c.loop-place-test.true in
    record {
      sequences = i.sequences ∙ sym (from_skip (setup_of c.args.producers.now c.args.writers.now) c.args.buffer c.args.writers.now c.loop-place.place below c.if-writers-place.true);
      distinct = i.distinct;
      small = i.small;
      below = below_later (c.loop-place.place + 2) (c.loop-place.place + 1 + 2) c.loop-place.specs.items (omega arith) i.below;
    }

pub bounds-producers-from : goal.bounds-producers-from
bounds-producers-from c =
    let named = c.requires.routed.1.producers c.loop-place.place c.loop-place-test.true in
    let least = named.least in
    let most = named.most in
    let long = ranges_long 0 c.args.producers.now in
    let is = c.from.ensures in
    omega (arith, least, most, long, is)

pub loop-place-preserved : goal.loop-place-preserved
loop-place-preserved c =
    let i = c.loop-place.invariant in
    let place = c.loop-place.place in
    let producers = c.args.producers.now in
    let writers = c.args.writers.now in
    let setup = setup_of producers writers in
    let one : SequenceSpec = record { sequence = place + 2; payload = c.payload_size.result; from = (spec_at writers place).from } in
    let below = c.loop-place-test.true in
    let named = c.requires.routed.1.producers place below in
    let least = named.least in
    let most = named.most in
    let long = ranges_long 0 producers in
    let is = c.from.ensures in
    let low : c.from.result - 1 < length producers = omega (arith, least, most, long, is) in
    let payload : c.payload_size.result ≡ size_of setup (spec_at writers place).producer =
    c.payload_size.ensures.value
    ∙ ap (λ (p : ProducerSpec). payload_size p.geometry.page_size p.geometry.chunks) (get_or_read producers (c.from.result - 1) c.index-producers-from.result low c.index-producers-from.is c.index-producers-from.result)
    ∙ sym (size_is producers writers c.from.result c.index-producers-from.result low)
    ∙ ap (size_of setup) is in
    let fits = subst (λ (n : ℕ). record_size n ≤ c.args.size) (sym payload) (c.requires.fits place below c.if-writers-place.false) in
    let items = c.in_ok-push.ensures.items in
    record {
      sequences = ap (λ (xs : List SequenceSpec). map sequence_of xs) items
          ∙ made_more setup c.args.buffer writers place c.loop-place.specs.items one below c.if-writers-place.false refl payload refl i.sequences;
      distinct = subst AreDistinct (sym items) (distinct_append c.loop-place.specs.items one i.below i.distinct);
      small = subst (AllSmall c.args.size) (sym items) (small_append c.args.size c.loop-place.specs.items one fits i.small);
      below = subst (AllBelow (place + 1 + 2)) (sym items)
          (below_append (place + 1 + 2) c.loop-place.specs.items one (omega arith) (below_later (place + 2) (place + 1 + 2) c.loop-place.specs.items (omega arith) i.below));
    }
