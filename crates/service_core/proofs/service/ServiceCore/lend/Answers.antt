use Rattle.std.proofs.Common.{◌-◌, ◌∙◌, ◌<◌, ℕ, List, [], length, ap, arith}
use Rattle.std.proofs.lemmas.List.{get_or_read}
use Rattle.trace_base.specs.declared.policy.FullPolicy.TheVariants.{Ring}
use Rattle.trace_model.specs.Buffers.{Buffer, empty_buffer}
use Rattle.service_core.specs.Routing.{buffer_at}
use Rattle.service_core.proofs.RoutedLemmas.{buffers_long}
use Rattle.service_core.proofs.service.ServiceCore.lend.Goals as goal

pub index-requires : goal.index-requires
index-requires g c =
    let core = c.args.self.now in
    let long = buffers_long c.requires.agrees.setup c.requires.agrees.view core c.requires.agrees.agrees in
    let least = c.requires.least in
    let most = c.requires.most in
    let is = c.from.ensures in
    let joined = core.buffers.ok.0 in
    omega (arith, long, least, most, is, joined)

pub returns-clause-is : goal.returns-clause-is
returns-clause-is g c =
    let core = c.args.self.now in
    let long = buffers_long c.requires.agrees.setup c.requires.agrees.view core c.requires.agrees.agrees in
    let least = c.requires.least in
    let most = c.requires.most in
    let is = c.from.ensures in
    let inside : c.from.result - 1 < length core.buffers.items = omega (arith, long, least, most, is) in
    get_or_read core.buffers.items (c.from.result - 1) c.index.result.now inside c.index.ensures (empty_buffer 0 Ring [])
    ∙ ap (λ (n : ℕ). buffer_at core.buffers.items (n - 1)) is

pub returns-clause-history : goal.returns-clause-history
returns-clause-history g c setup view agrees =
    let core = c.args.self.now in
    let long = buffers_long setup view core agrees in
    let least = c.requires.least in
    let most = c.requires.most in
    let is = c.from.ensures in
    let inside : c.from.result - 1 < length core.buffers.items = omega (arith, long, least, most, is) in
    get_or_read core.buffers.items (c.from.result - 1) c.index.result.now inside c.index.ensures (empty_buffer 0 Ring [])
    ∙ ap (λ (n : ℕ). buffer_at core.buffers.items (n - 1)) is
    ∙ ap (λ (bs : List Buffer). buffer_at bs (c.args.buffer - 1)) agrees.buffers
