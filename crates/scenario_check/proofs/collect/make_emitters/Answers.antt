use Rattle.std.proofs.Common.{◌≡◌, ◌++◌, ◌∷◌, [], List, length, ap, subst, sym, arith, length-append}
use Rattle.emitted_packets.specs.declared.emitter.Emitter.{Emitter}
use Rattle.scenario_check.specs.Progress.{HaveTaken}
use Rattle.scenario_check.proofs.LineLemmas.{made_more}
use Rattle.scenario_check.proofs.collect.make_emitters.Goals as goal

pub loop-writer-preserved : goal.loop-writer-preserved
loop-writer-preserved c =
    let items : c.push.new.self.items ≡ c.loop-writer.emitters.items ++ c.new.result ∷ [] = c.in_ok-push.ensures.items in (
      omega (arith, ap length items, length-append c.loop-writer.emitters.items (c.new.result ∷ []), c.loop-writer.invariant.0),
      subst (λ (es : List Emitter). HaveTaken [] es) (sym items)
          (made_more c.loop-writer.emitters.items c.new.result c.loop-writer.invariant.1 c.new.ensures.emitting c.new.ensures.empty),
    )
