-- What the writer and the buffer count.
use Rattle.std.proofs.Common.{◌≡◌, ◌∙◌, ℕ, ◌+◌, ◌-◌, Bool, Some, sym, ap, subst, arith}
use Rattle.std.specs.Prelude.{slice_get}
use Rattle.std.proofs.lemmas.Option.{slice_get_read, same_Some}
use Rattle.trace_model.specs.Packets.{begun_count, dropped_at_begin}
use Rattle.trace_model.specs.Sequences.{sequence_in}
use Rattle.trace_buffer.specs.Answers as answers
use Rattle.trace_buffer.specs.declared.answers.SequenceState.{SequenceState}
use Rattle.chunk_plain.specs.Setup.{Setup, sequence_of}
use Rattle.service_core.specs.Routing.{buffer_at}
use Rattle.service_core.specs.Agreement.{buffer_of}
use Rattle.trace_writer.specs.declared.writer.WriterCore.{WriterCore}
use Rattle.trace_writer.specs.Agreement.{counted}
use Rattle.trace_writer.specs.Core.{CoreAgrees}
use Rattle.replay_host.specs.Counting.{buffers_now, packets_counted, packets_now}
use Rattle.replay_host.specs.Standing.{IsSeated}
use Rattle.replay_host.proofs.CountingLemmas.{left_same}
use Rattle.replay_host.proofs.counting.Host+W+W+Writer+W+Service.sequence_counts.Goals as goal

pub returns : goal.returns
returns g c core at =
    let means = g.W.Words.means in
    let host = c.args.self.now in
    let place : ℕ = c.args.place in
    let setup : Setup = means.setup host.table in
    let buffers = buffers_now means host in
    let joined = host.writers.ok.0 in
    let many = c.requires.host.stands.many in
    let below = c.requires.place in
    let read : slice_get host.writers.items place ≡ Some c.index-writer.result.now =
    slice_get_read host.writers.items _ place c.index-writer.result.now joined
    (omega (arith, joined, many, below)) c.index-writer.ensures in
    let same : c.index-writer.result.now ≡ core = same_Some _ _ (sym read ∙ at) in
    let seated : IsSeated means host.table place core = c.requires.host.stands.seated place core at in
    let agrees : CoreAgrees setup place (means.view host.table core.seat) c.index-writer.result.now =
    subst (λ (w : WriterCore _). CoreAgrees setup place (means.view host.table core.seat) w) (sym same) seated.agrees in
    let here : place + 2 - 2 ≡ place = omega arith in
    let state = c.state-state.ensures setup (means.service_view host.table host.helper.service.seat) c.requires.host.stands.served.agrees
    ∙ ap (λ (p : ℕ). answers.state_of (buffer_at buffers (buffer_of setup p - 1)).policy
    (sequence_in (buffer_at buffers (buffer_of setup p - 1)).sequences (sequence_of place))) here in
    c.packets_left.ensures
    ∙ left_same c.begun.result c.dropped_at_begin.result (counted (begun_count (means.view host.table core.seat).calls))
    (counted (dropped_at_begin (means.view host.table core.seat).calls))
    c.state-state.result _ (c.begun.ensures setup place (means.view host.table core.seat) agrees)
    (c.dropped_at_begin.ensures setup place (means.view host.table core.seat) agrees) state
    ∙ ap (λ (b : Bool). packets_now means host place b (means.view host.table core.seat).calls) (sym c.if-marked.false)

pub returns-then-marked : goal.returns-then-marked
returns-then-marked g c core at =
    let means = g.W.Words.means in
    let host = c.args.self.now in
    let place : ℕ = c.args.place in
    let setup : Setup = means.setup host.table in
    let buffers = buffers_now means host in
    let here : place + 2 - 2 ≡ place = omega arith in
    let state = c.state-state.ensures setup (means.service_view host.table host.helper.service.seat) c.requires.host.stands.served.agrees
    ∙ ap (λ (p : ℕ). answers.state_of (buffer_at buffers (buffer_of setup p - 1)).policy
    (sequence_in (buffer_at buffers (buffer_of setup p - 1)).sequences (place + 2))) here in
    c.packets_counted.ensures ∙ ap (λ (s : SequenceState). packets_counted s) state
    ∙ ap (λ (b : Bool). packets_now means host place b (means.view host.table core.seat).calls) (sym c.if-marked.true)
