-- The report's text, after its format (docs/FORMATS.md): a line for each buffer, for each sequence, and for each flush request that was
-- answered.
use Rattle.std.specs.Prelude.{ℕ, suc, List, [], ◌∷◌, ◌++◌, codes}
use Rattle.trace_base.specs.declared.limits.TheConstants.{FIRST_SEQUENCE}
use Rattle.trace_base.specs.declared.policy.FullPolicy.{FullPolicy}
use Rattle.trace_base.specs.declared.policy.FullPolicy.TheVariants.{Ring, Discard}
use Rattle.trace_buffer.specs.declared.answers.BufferCounts.{BufferCounts}
use Rattle.loss_report.specs.declared.counts.SequenceCounts.{SequenceCounts}
use Rattle.loss_report.specs.Lines.{Entry, line_text}

-- a name and the number behind it
abbrev pub entry : List ℕ → ℕ → Entry
entry name value = record { name = name; value = value }

-- a buffer's policy, and the name of its size
abbrev pub size_name : FullPolicy → List ℕ
size_name Ring = codes "ring bytes"
size_name Discard = codes "discard bytes"

-- the line of a buffer
abbrev pub buffer_line : ℕ → BufferCounts → List ℕ
buffer_line number counts =
    line_text (entry (codes "buffer") number)
    (entry (size_name counts.policy) counts.bytes
    ∷ entry (codes "placed") counts.placed
    ∷ entry (codes "rewritten") counts.rewritten
    ∷ entry (codes "overwritten") counts.overwritten
    ∷ entry (codes "discarded") counts.discarded
    ∷ entry (codes "unpatched") counts.unpatched
    ∷ entry (codes "padding") counts.padding
    ∷ [])

-- the line of a sequence
abbrev pub sequence_line : ℕ → SequenceCounts → List ℕ
sequence_line number counts =
    line_text (entry (codes "sequence") number)
    (entry (codes "begun") counts.begun
    ∷ entry (codes "delivered") counts.delivered
    ∷ entry (codes "dropped") counts.dropped
    ∷ entry (codes "overwritten") counts.overwritten
    ∷ entry (codes "discarded") counts.discarded
    ∷ entry (codes "cut") counts.cut
    ∷ [])

-- the line of a flush request that was answered
abbrev pub flush_line : ℕ → ℕ → List ℕ
flush_line number chunks = line_text (entry (codes "flush") number) (entry (codes "chunks") chunks ∷ [])

-- the lines of some things, which have the numbers from this one on
abbrev pub lines_of : {T : Type 0} → (ℕ → T → List ℕ) → ℕ → List T → List ℕ
lines_of line number [] = []
lines_of line number (one ∷ others) = line number one ++ lines_of line (suc number) others

-- buffers and flush requests count from 1, and sequences from the first that a writer has
abbrev pub report_text : List BufferCounts → List SequenceCounts → List ℕ → List ℕ
report_text buffers sequences flushes =
    lines_of buffer_line 1 buffers ++ (lines_of sequence_line FIRST_SEQUENCE sequences ++ lines_of flush_line 1 flushes)
