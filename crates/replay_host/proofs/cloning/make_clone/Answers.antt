use Rattle.std.proofs.Common.{◌-◌, ◌∙◌, ◌≤◌, ℕ, map, sym, ap, subst}
use Rattle.page_geometry.specs.Sizes.{record_size}
use Rattle.trace_model.specs.Buffers.{empty_buffer}
use Rattle.chunk_plain.specs.Laying.{setup_of}
use Rattle.chunk_plain.specs.Setup.{size_of, producer_of}
use Rattle.trace_buffer.specs.Made.{sequence_of}
use Rattle.service_core.specs.Making.{buffer_spec_at}
use Rattle.replay_host.proofs.CloneMadeLemmas.{made_at, ok_is}
use Rattle.replay_host.proofs.cloning.make_clone.Goals as goal

pub sequences_into-requires-clause-fits : goal.sequences_into-requires-clause-fits
sequences_into-requires-clause-fits c = λ place below named.
    let setup = setup_of c.args.producers.now c.args.writers.now in
    subst (λ (n : ℕ). record_size (size_of setup (producer_of setup place)) ≤ (buffer_spec_at c.args.buffers.now (n - 1)).size) (named ∙ sym c.from.ensures)
    (c.requires.fits place below)

pub returns : goal.returns
returns c =
    let setup = setup_of c.args.producers.now c.args.writers.now in
    let buffers = c.args.buffers.now in
    let sequences = map sequence_of c.deref.result.now in
    let made = ap (map sequence_of) c.deref.ensures.value ∙ c.in_ok-sequences.ensures.sequences in
    ok_is c.make.result _ _ c.make.ensures
    (ap (λ (n : ℕ). empty_buffer (buffer_spec_at buffers (n - 1)).size (buffer_spec_at buffers (n - 1)).policy sequences) c.from.ensures
    ∙ made_at setup buffers c.args.buffer sequences c.requires.least c.requires.most made)
