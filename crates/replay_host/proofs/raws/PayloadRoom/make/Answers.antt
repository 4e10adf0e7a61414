-- One producer more has one size more.
use Rattle.std.proofs.Common.{◌∙◌, ◌≤◌, ℕ, List, get_or, sym, ap, subst, arith}
use Rattle.page_geometry.specs.Sizes.{payload_size}
use Rattle.chunk_plain.specs.declared.setup.ProducerSpec.{ProducerSpec}
use Rattle.replay_host.proofs.RawLinesLemmas.{most_more, sizes_more}
use Rattle.replay_host.proofs.raws.PayloadRoom.make.Goals as goal
use Rattle.replay_host.proofs.raws.PayloadRoom.make.Goals.{then-most-size, else-most-size}

pub loop-producer-preserved : goal.loop-producer-preserved
loop-producer-preserved c =
    let inv = c.loop-producer.invariant in
    let producer : ProducerSpec = c.producer-item.result in
    let size : ℕ = c.payload_size-size.result in
    let pushed = c.in_ok-push.ensures.items in
    let larger : c.loop-producer.most ≤ c.if-most-size.most =
    elim c.if-most-size.branch [ then-most-size w ↦ omega arith | else-most-size w ↦ omega arith ] in
    let last : size ≤ c.if-most-size.most = elim c.if-most-size.branch [ then-most-size w ↦ omega arith | else-most-size w ↦ omega arith ] in
    record {
      sizes = sizes_more c.args.producers.now c.loop-producer.producer-index producer c.loop-producer.sizes.items c.push.new.self.items size
          c.loop-producer-test.true inv.sizes pushed
          (c.payload_size-size.ensures.value
          ∙ ap (λ (p : ProducerSpec). payload_size p.geometry.page_size p.geometry.chunks) c.producer-item.is);
      most = λ k. subst (λ (sizes : List ℕ). get_or sizes k 0 ≤ c.if-most-size.most) (sym pushed)
          (most_more c.loop-producer.sizes.items size c.loop-producer.most c.if-most-size.most inv.most larger last k);
    }
