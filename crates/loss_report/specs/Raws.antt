-- The lines of the report on lines `raw`, after its format (docs/FORMATS.md): the number of each in the text, and what its commit was
-- answered.
use Rattle.std.specs.Prelude.{ℕ, List, ◌++◌, codes, decimal}
use Rattle.trace_model.specs.Arrivals as model
use Rattle.loss_report.specs.declared.counts.Done.{Done}
use Rattle.loss_report.specs.declared.raws.RawAnswer.{RawAnswer}
use Rattle.loss_report.specs.declared.raws.RawAnswer.TheVariants.{Kept, Rewritten, Duplicate, Discarded, TooFar, BadChunk, WrongTarget}
use Rattle.loss_report.specs.declared.raws.RawLine.{RawLine}
use Rattle.loss_report.specs.Report.{lines_of, report_text}

-- what became of a chunk whose arrival a buffer answered so
abbrev pub answer_of : model.Arrived → RawAnswer
answer_of model.Kept = Kept
answer_of model.Rewritten = Rewritten
answer_of model.Duplicate = Duplicate
answer_of model.Discarded = Discarded
answer_of model.TooFar = TooFar
answer_of (model.BadChunk fragment) = BadChunk fragment

-- the words of an answer
unfoldable pub answer_words : RawAnswer → List ℕ
answer_words Kept = codes "kept"
answer_words Rewritten = codes "rewritten"
answer_words Duplicate = codes "duplicate"
answer_words Discarded = codes "discarded"
answer_words TooFar = codes "too far"
answer_words (BadChunk fragment) = codes "bad chunk " ++ decimal fragment
answer_words (WrongTarget buffer) = codes "wrong target " ++ decimal buffer

-- the line of an answer
unfoldable pub raw_line : RawLine → List ℕ
raw_line raw = codes "raw " ++ (decimal raw.line ++ (codes " " ++ (answer_words raw.answer ++ codes "\n")))

-- the lines of these answers, which have the numbers of their lines, and not those of their places
abbrev pub raw_text : List RawLine → List ℕ
raw_text raws = lines_of (λ place raw. raw_line raw) 1 raws

-- the report of what a replay or a run left
abbrev pub done_text : Done → List ℕ
done_text done = report_text done.buffers.items done.sequences.items done.flushes.items ++ raw_text done.raws.items
