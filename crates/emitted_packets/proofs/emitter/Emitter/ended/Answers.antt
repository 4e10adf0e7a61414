use Rattle.std.proofs.Common.{◌≡◌, ◌∙◌, List, ℕ, length, ap, sym, subst, arith}
use Rattle.wire_varint.specs.Varint.{redundant}
use Rattle.wire_varint.proofs.Lengths.{length-redundant}
use Rattle.trace_model.specs.Images.{with_bytes}
use Rattle.trace_model.specs.Packets.{noted}
use Rattle.trace_model.specs.Calls as calls
use Rattle.emitted_packets.specs.Emitting.{IsEmitting}
use Rattle.emitted_packets.proofs.EmitLemmas.{ended_on, put_back, length_put}
use Rattle.emitted_packets.proofs.emitter.Emitter.ended.Goals as goal

pub returns-in-Some-clause-emitting : goal.returns-in-Some-clause-emitting
returns-in-Some-clause-emitting c = λ account h writing.
    let self = c.args.self.now in
    let items = self.bytes.items in
    let ending = ended_on account items self.ends.items c.pop.new.self.items self.opens.items c.in-Some.offset c.in-Some.ensures.items h writing in
    let four : List ℕ = redundant ending.size in
    let lent = c.deref_mut.ensures.value in
    let put : c.set_four.new.bytes ≡ with_bytes items c.in-Some.offset four =
    c.set_four.ensures ∙ ap (λ (xs : List ℕ). with_bytes xs c.in-Some.offset c.put_redundant.result) lent
    ∙ ap (with_bytes items c.in-Some.offset) (c.put_redundant.ensures.bytes ∙ ap redundant (omega (arith, ending.behind, c.len.ensures, self.bytes.ok.0))) in
    let long : length c.set_four.new.bytes ≡ length items =
    ap length put ∙ length_put items c.in-Some.offset four (omega (arith, length-redundant ending.size, ending.behind)) in
    subst (λ (xs : List ℕ). IsEmitting (noted account calls.Ended) xs self.ends.items c.pop.new.self.items)
    (sym (put_back items c.set_four.new.bytes self.bytes.len (omega (arith, self.bytes.ok.0)) long ∙ put)) ending.emitting
