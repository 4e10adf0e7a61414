-- One writer more is planned.
use Rattle.std.proofs.Common.{◌≡◌, ◌∙◌, ℕ, ◌+◌, Some, List, [], ◌∷◌, ◌++◌, length, length-append, sym, subst, ap, arith}
use Rattle.std.specs.Prelude.{slice_get}
use Rattle.trace_base.specs.declared.policy.WriterSpec.{WriterSpec}
use Rattle.replay_host.proofs.MakingLemmas.{pushed_each}
use Rattle.tracesmb_c.specs.Planning.{planned_writer}
use Rattle.tracesmb_c.proofs.planning.writers_of.Goals as goal

pub writers-preserved : goal.writers-preserved
writers-preserved c =
    let old : List WriterSpec = c.writers.writers.items in
    let producers : ℕ = c.args.producers in
    let spec : WriterSpec = planned_writer producers c.writers.place in
    let items : c.push.new.self.items ≡ old ++ spec ∷ [] = c.in_ok-push.ensures.items in
    let many = c.writers.invariant.many in
    let longer = length-append old (spec ∷ []) in
    record {
      many = ap (λ (specs : List WriterSpec). length specs) items ∙
          (let next : length (old ++ spec ∷ []) ≡ c.writers.place + 1 = omega (arith, many, longer) in next);
      each = λ place one there.
          pushed_each (λ (k : ℕ) (s : WriterSpec). s ≡ planned_writer producers k) old spec c.writers.invariant.each
          (ap (planned_writer producers) (sym many)) place one
          (subst (λ (specs : List WriterSpec). slice_get specs place ≡ Some one) items there);
    }
