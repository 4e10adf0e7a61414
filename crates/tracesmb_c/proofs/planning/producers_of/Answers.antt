-- One producer more is like the others.
use Rattle.std.proofs.Common.{◌≡◌, ◌∙◌, ℕ, ◌+◌, Some, List, [], ◌∷◌, ◌++◌, length, length-append, refl, subst, ap, arith}
use Rattle.std.specs.Prelude.{slice_get}
use Rattle.chunk_plain.specs.declared.setup.ProducerSpec.{ProducerSpec}
use Rattle.replay_host.proofs.MakingLemmas.{pushed_each}
use Rattle.tracesmb_c.proofs.planning.producers_of.Goals as goal

pub producers-preserved : goal.producers-preserved
producers-preserved c =
    let old : List ProducerSpec = c.producers.producers.items in
    let spec : ProducerSpec = c.args.spec in
    let items : c.push.new.self.items ≡ old ++ spec ∷ [] = c.in_ok-push.ensures.items in
    let many = c.producers.invariant.many in
    let longer = length-append old (spec ∷ []) in
    record {
      many = ap (λ (specs : List ProducerSpec). length specs) items ∙
          (let next : length (old ++ spec ∷ []) ≡ c.producers.index + 1 = omega (arith, many, longer) in next);
      each = λ place one there.
          pushed_each (λ (_ : ℕ) (s : ProducerSpec). s ≡ spec) old spec c.producers.invariant.each refl place one
          (subst (λ (specs : List ProducerSpec). slice_get specs place ≡ Some one) items there);
    }
