use Rattle.std.proofs.Common.{ℕ, List, length, ap, arith}
use Rattle.trace_base.specs.declared.policy.WriterSpec.{WriterSpec}
use Rattle.service_core.proofs.RoutedLemmas.{taken_long}
use Rattle.service_core.proofs.service.ServiceCore.answered.Goals as goal

pub answered-requires-clause-taken : goal.answered-requires-clause-taken
answered-requires-clause-taken g c =
    let core = c.args.self.now in
    let long = taken_long c.requires.setup c.requires.view core c.requires.agrees in
    let writers = ap (λ (ws : List WriterSpec). length ws) c.requires.agrees.writers in
    let session = c.requires.agrees.session in
    let items = ap (λ (xs : List ℕ). length xs) c.deref.ensures.value in
    omega (arith, long, writers, session, items)
