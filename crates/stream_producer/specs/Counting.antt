-- What became of the packets of sequences whose writers aren't there to say what they began: what reads and losses counted.
use Rattle.std.specs.Prelude.{ℕ, suc, ◌+◌, ◌-◌, min, List, [], ◌∷◌}
use Rattle.trace_base.specs.declared.limits.TheConstants.{MAX_NUMBER}
use Rattle.trace_base.specs.declared.policy.WriterSpec.{WriterSpec}
use Rattle.trace_model.specs.Buffers.{Buffer}
use Rattle.trace_model.specs.Sequences.{sequence_in}
use Rattle.chunk_plain.specs.Setup.{sequence_of}
use Rattle.trace_buffer.specs.Answers.{state_of}
use Rattle.trace_buffer.specs.declared.answers.SequenceState.{SequenceState}
use Rattle.loss_report.specs.declared.counts.SequenceCounts.{SequenceCounts}
use Rattle.service_core.specs.Routing.{buffer_at}

-- what is printed of a sequence: as many packets were begun as are under one of the causes
abbrev pub counts_read : SequenceState → SequenceCounts
counts_read state = record {
  begun = min (state.delivered + state.dropped + state.overwritten + state.discarded + state.cut) MAX_NUMBER;
  delivered = state.delivered;
  dropped = state.dropped;
  overwritten = state.overwritten;
  discarded = state.discarded;
  cut = state.cut;
}

-- the same of each writer's sequence, of which the first has this place
abbrev pub counts_from : List Buffer → (place : ℕ) → List WriterSpec → List SequenceCounts
counts_from buffers place [] = []
counts_from buffers place (spec ∷ specs) =
    counts_read (state_of (buffer_at buffers (spec.buffer - 1)).policy
    (sequence_in (buffer_at buffers (spec.buffer - 1)).sequences (sequence_of place)))
    ∷ counts_from buffers (suc place) specs
