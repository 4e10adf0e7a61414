use Rattle.std.proofs.Common.{◌≡◌, ◌∙◌, ℕ, ◌-◌, get_or, sym, ap, arith}
use Rattle.trace_base.specs.declared.policy.WriterSpec.{WriterSpec}
use Rattle.page_geometry.specs.Sizes.{payload_size}
use Rattle.chunk_plain.specs.declared.setup.ChunkRange.{ChunkRange}
use Rattle.chunk_plain.specs.declared.setup.ProducerSpec.{ProducerSpec}
use Rattle.chunk_plain.specs.Setup.{Setup, range_of}
use Rattle.chunk_words.specs.Sits.{setup_in, known_by}
use Rattle.claim_arbiter.specs.Claiming.{range_in}
use Rattle.replay_host.proofs.MakingLemmas.{own_producer, own_sizes, producer_there}
use Rattle.tracesmb_c.proofs.making.make_writer.Goals as goal

pub bounds-producers-from : goal.bounds-producers-from
bounds-producers-from c =
    let below = producer_there
    (setup_in c.args.table.now) c.args.producers.now c.args.seat.place c.args.spec c.requires.setup c.requires.spec
    c.requires.producer in
    let same = c.from.ensures in omega (arith, below, same)

pub bounds-producers-from-2 : goal.bounds-producers-from-2
bounds-producers-from-2 c =
    let below = producer_there
    (setup_in c.args.table.now) c.args.producers.now c.args.seat.place c.args.spec c.requires.setup c.requires.spec
    c.requires.producer in
    let same = c.from.ensures in omega (arith, below, same)

pub returns : goal.returns
returns c =
    let setup : Setup = setup_in c.args.table.now in
    let producers = c.args.producers.now in
    let place = c.args.seat.place in
    let spec = c.args.spec in
    let range : ChunkRange = range_of setup spec.producer in
    let cut : ProducerSpec → ℕ = λ p. payload_size p.geometry.page_size p.geometry.chunks in
    let one : ProducerSpec = c.index-producers-from.result in
    let first : c.new.result.first ≡ range.first = c.new.ensures.first ∙ ap (λ p. p.0) c.chunks_of-first.ensures in
    let count : c.new.result.chunks ≡ range.count = c.new.ensures.chunks ∙ ap (λ p. p.1) c.chunks_of-first.ensures in
    let here : range ≡ range_in c.new.result =
    sym (ap (λ (n : ℕ). let r : ChunkRange = record { first = n; count = c.new.result.chunks } in r) first
    ∙ ap (λ (n : ℕ). let r : ChunkRange = record { first = range.first; count = n } in r) count) in
    let cut_here : cut (get_or producers (spec.producer - 1) one) ≡ cut (get_or producers (c.from.result - 1) one) =
    sym (ap (λ (n : ℕ). cut (get_or producers (n - 1) one)) c.from.ensures) in
    record {
      writes = c.make.ensures.writes c.args.table.now c.requires.sits c.requires.fresh c.requires.spec c.requires.producer
          (ap (range_of setup) (own_producer setup producers place spec c.requires.setup c.requires.spec c.requires.producer) ∙ here)
          (λ chunk of. own_sizes setup producers place spec c.requires.setup c.requires.spec c.requires.producer c.args.table.now.laid one
          chunk of ∙ cut_here);
      place_is = ap (λ s. s.place) c.make.ensures.seat;
      policy_is = ap (λ (s : WriterSpec). s.policy) c.make.ensures.spec;
      fresh = ap known_by c.make.ensures.seat ∙ c.requires.fresh;
      none_held = c.make.ensures.none_held;
    }
