use Rattle.std.proofs.Common.{◌≡◌, ◌+◌, ◌-◌, ◌∙◌, ◌<◌, ℕ, [], length, get_or, ap, arith}
use Rattle.std.proofs.lemmas.List.{get_or_read}
use Rattle.trace_base.specs.declared.policy.FullPolicy.TheVariants.{Ring}
use Rattle.trace_base.specs.declared.policy.WriterSpec.{WriterSpec}
use Rattle.trace_model.specs.Sequences.{sequence_in, is_known}
use Rattle.trace_model.specs.Buffers.{Buffer, empty_buffer}
use Rattle.trace_buffer.specs.Answers.{state_of}
use Rattle.service_core.specs.declared.service.ServiceCore.{ServiceCore}
use Rattle.service_core.specs.Routing.{buffer_at}
use Rattle.service_core.specs.Agreement.{spec_at}
use Rattle.service_core.proofs.RoutedLemmas.{stands_in}
use Rattle.service_core.proofs.service.ServiceCore.state_at.Goals as goal
use Rattle.chunk_plain.specs.Setup.{no_writer}

no_buffer : Buffer
no_buffer = empty_buffer 0 Ring []

index_is : {S : Type 0} → (core : ServiceCore S) (place n : ℕ) (read : WriterSpec) → place < length core.writers.items → read ≡ get_or core.writers.items place read
    → n ≡ read.buffer → n ≡ (spec_at core.writers.items place).buffer
index_is core place n read inside is number = number ∙ ap (λ (w : WriterSpec). w.buffer) (get_or_read core.writers.items place read inside is no_writer)

pub index-requires-2 : goal.index-requires-2
index-requires-2 g c =
    let core = c.args.self.now in
    let at = stands_in core c.args.place c.requires.agrees c.requires.place in
    let low = at.inside in
    let is = index_is core c.args.place c.from-index.result c.index.result.now c.requires.place c.index.ensures c.from-index.ensures in
    let joined = core.buffers.ok.0 in
    omega (arith, low, is, joined)

pub state-requires : goal.state-requires
unfolding no_buffer
state-requires g c =
    let core = c.args.self.now in
    let at = stands_in core c.args.place c.requires.agrees c.requires.place in
    let is = index_is core c.args.place c.from-index.result c.index.result.now c.requires.place c.index.ensures c.from-index.ensures in
    let low = at.inside in
    let read = get_or_read core.buffers.items (c.from-index.result - 1) c.index-2.result.now (omega (arith, low, is)) c.index-2.ensures no_buffer in
    ap (λ (b : Buffer). is_known b.sequences (c.args.place + 2)) read
    ∙ ap (λ (n : ℕ). is_known (buffer_at core.buffers.items (n - 1)).sequences (c.args.place + 2)) is ∙ at.known

pub returns : goal.returns
unfolding no_buffer
returns g c =
    let core = c.args.self.now in
    let at = stands_in core c.args.place c.requires.agrees c.requires.place in
    let is = index_is core c.args.place c.from-index.result c.index.result.now c.requires.place c.index.ensures c.from-index.ensures in
    let low = at.inside in
    let read = get_or_read core.buffers.items (c.from-index.result - 1) c.index-2.result.now (omega (arith, low, is)) c.index-2.ensures no_buffer in
    c.state.ensures
    ∙ ap (λ (b : Buffer). state_of b.policy (sequence_in b.sequences (c.args.place + 2))) read
    ∙ ap (λ (n : ℕ). state_of (buffer_at core.buffers.items (n - 1)).policy (sequence_in (buffer_at core.buffers.items (n - 1)).sequences (c.args.place + 2))) is
