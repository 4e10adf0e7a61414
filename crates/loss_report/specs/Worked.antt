-- Worked reports.
use Rattle.std.specs.Prelude.{◌≡◌, List, [], ◌∷◌, ◌++◌, codes}
use Rattle.trace_base.specs.declared.policy.FullPolicy.TheVariants.{Ring, Discard}
use Rattle.trace_buffer.specs.declared.answers.BufferCounts.{BufferCounts}
use Rattle.loss_report.specs.declared.counts.SequenceCounts.{SequenceCounts}
use Rattle.loss_report.specs.declared.raws.RawAnswer.TheVariants.{Kept, Rewritten, Duplicate, Discarded, TooFar, BadChunk, WrongTarget}
use Rattle.loss_report.specs.declared.raws.RawLine.{RawLine}
use Rattle.loss_report.specs.Raws.{raw_text}
use Rattle.loss_report.specs.Report.{report_text}

abbrev ring_counts : BufferCounts
ring_counts =
    record { policy = Ring; bytes = 4096; placed = 15; rewritten = 0; overwritten = 1; discarded = 0; unpatched = 0; padding = 144 }

abbrev discard_counts : BufferCounts
discard_counts =
    record { policy = Discard; bytes = 4096; placed = 13; rewritten = 0; overwritten = 0; discarded = 2; unpatched = 0; padding = 0 }

abbrev overwritten_counts : SequenceCounts
overwritten_counts = record { begun = 15; delivered = 14; dropped = 0; overwritten = 1; discarded = 0; cut = 0 }

abbrev discarded_counts : SequenceCounts
discarded_counts = record { begun = 15; delivered = 13; dropped = 0; overwritten = 0; discarded = 2; cut = 0 }

abbrev committed_counts : BufferCounts
committed_counts =
    record { policy = Ring; bytes = 65536; placed = 2; rewritten = 1; overwritten = 0; discarded = 0; unpatched = 0; padding = 0 }

-- one line `raw` for each answer
abbrev committed_lines : List RawLine
committed_lines =
    record { line = 5; answer = Kept }
    ∷ record { line = 6; answer = Duplicate }
    ∷ record { line = 7; answer = TooFar }
    ∷ record { line = 8; answer = BadChunk 0 }
    ∷ record { line = 9; answer = WrongTarget 1 }
    ∷ record { line = 12; answer = Rewritten }
    ∷ record { line = 340; answer = Discarded }
    ∷ []

-- of nothing; of a ring buffer with one writer; of two buffers with a writer each, and two flush requests; of a ring buffer without a
-- writer, a flush request and lines `raw`
pub record WorkedReports : Type 0 where
  pub empty : report_text [] [] [] ≡ []
  pub one : report_text (ring_counts ∷ []) (overwritten_counts ∷ []) []
      ≡ codes "buffer 1 ring bytes 4096 placed 15 rewritten 0 overwritten 1 discarded 0 unpatched 0 padding 144\n"
      ++ codes "sequence 2 begun 15 delivered 14 dropped 0 overwritten 1 discarded 0 cut 0\n"
  pub two : report_text (ring_counts ∷ discard_counts ∷ []) (overwritten_counts ∷ discarded_counts ∷ []) (0 ∷ 120 ∷ [])
      ≡ codes "buffer 1 ring bytes 4096 placed 15 rewritten 0 overwritten 1 discarded 0 unpatched 0 padding 144\n"
      ++ codes "buffer 2 discard bytes 4096 placed 13 rewritten 0 overwritten 0 discarded 2 unpatched 0 padding 0\n"
      ++ codes "sequence 2 begun 15 delivered 14 dropped 0 overwritten 1 discarded 0 cut 0\n"
      ++ codes "sequence 3 begun 15 delivered 13 dropped 0 overwritten 0 discarded 2 cut 0\n"
      ++ codes "flush 1 chunks 0\n"
      ++ codes "flush 2 chunks 120\n"
  pub raws : report_text (committed_counts ∷ []) [] (0 ∷ []) ++ raw_text committed_lines
      ≡ codes "buffer 1 ring bytes 65536 placed 2 rewritten 1 overwritten 0 discarded 0 unpatched 0 padding 0\n"
      ++ codes "flush 1 chunks 0\n"
      ++ codes "raw 5 kept\n"
      ++ codes "raw 6 duplicate\n"
      ++ codes "raw 7 too far\n"
      ++ codes "raw 8 bad chunk 0\n"
      ++ codes "raw 9 wrong target 1\n"
      ++ codes "raw 12 rewritten\n"
      ++ codes "raw 340 discarded\n"
