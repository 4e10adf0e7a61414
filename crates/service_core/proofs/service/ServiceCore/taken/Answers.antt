use Rattle.std.proofs.Common.{◌≡◌, ◌-◌, ℕ, List, length, get_or, subst, ap, arith}
use Rattle.trace_base.specs.declared.policy.WriterSpec.{WriterSpec}
use Rattle.service_core.proofs.RoutedLemmas.{taken_long}
use Rattle.service_core.proofs.KeptLemmas.{read_count}
use Rattle.service_core.proofs.service.ServiceCore.taken.Goals as goal

pub index-requires : goal.index-requires
index-requires g c =
    let core = c.args.self.now in
    let long = taken_long c.requires.agrees.setup c.requires.agrees.view core c.requires.agrees.agrees in
    let least = c.requires.least in
    let most = c.requires.most in
    let is = c.from.ensures in
    let joined = core.taken.ok.0 in
    omega (arith, long, least, most, is, joined)

pub returns : goal.returns
returns g c setup view agrees =
    let core = c.args.self.now in
    let least = c.requires.least in
    let most = c.requires.most in
    let is = c.from.ensures in
    let writers = ap (λ (ws : List WriterSpec). length ws) agrees.writers in
    read_count setup view core (c.args.writer - 1) agrees (omega (arith, least, most, writers)) c.index.result.now
    (subst (λ (n : ℕ). c.index.result.now ≡ get_or core.taken.items (n - 1) c.index.result.now) is c.index.ensures)
