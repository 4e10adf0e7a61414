-- How far the lines of a summary were written.
use Rattle.std.proofs.Common.{◌≡◌, ℕ, List, [], ◌∷◌, ◌++◌, sym, ap, ◌∙◌, append_assoc}
use Rattle.std.proofs.lemmas.List.{append-nil}
use Rattle.byte_io.specs.Bytes.{Intake, after_told, TakesPart, TakesUpTo}
use Rattle.byte_io.proofs.Told.{up_to_start, after_told_again}
use Rattle.trace_summary.specs.declared.summary.Totals.{Totals}
use Rattle.trace_summary.specs.declared.summary.Summary.{Summary}
use Rattle.trace_summary.specs.Counts.{sequence_line, last_line, lines_text, summary_text}

-- all lines but these are written, and the last one isn't
pub record HasWritten (old now : Intake) (summary : Summary) (left : List (ℕ × Totals)) : Type 0 where
  pub up_to : TakesUpTo old now (summary_text summary) (lines_text left ++ last_line summary.packets summary.bytes)

pub lines_start : (old : Intake) (summary : Summary) → HasWritten old old summary summary.sequences.entries
unfolding summary_text
lines_start old summary = record { up_to = up_to_start old (summary_text summary) }

-- a piece of what is left
piece_more : (old now new : Intake) (all piece rest : List ℕ) → TakesUpTo old now all (piece ++ rest) → new ≡ after_told now piece → TakesUpTo old new all rest
piece_more old now new all piece rest h wrote = record {
  part = h.part ++ piece;
  cut = h.cut ∙ sym (append_assoc h.part piece rest);
  taken = wrote ∙ ap (λ intake. after_told intake piece) h.taken ∙ after_told_again old h.part piece;
}

piece_part : (old now new : Intake) (all piece rest : List ℕ) → TakesUpTo old now all (piece ++ rest) → TakesPart now new piece → TakesPart old new all
piece_part old now new all piece rest h wrote = record {
  part = h.part ++ wrote.part;
  rest = wrote.rest ++ rest;
  cut = h.cut ∙ ap (λ xs. h.part ++ (xs ++ rest)) wrote.cut ∙ ap (λ xs. h.part ++ xs) (append_assoc wrote.part wrote.rest rest)
      ∙ sym (append_assoc h.part wrote.part (wrote.rest ++ rest));
  taken = wrote.taken ∙ ap (λ intake. after_told intake wrote.part) h.taken ∙ after_told_again old h.part wrote.part;
}

first_line : (line : List ℕ) (left : List (ℕ × Totals)) (last : List ℕ) (line_is : List ℕ) → line_is ≡ line → (line ++ lines_text left) ++ last ≡ line_is ++ (lines_text left ++ last)
first_line line left last line_is e = append_assoc line (lines_text left) last ∙ ap (λ xs. xs ++ (lines_text left ++ last)) (sym e)

pub lines_more : (old now new : Intake) (summary : Summary) (sequence : ℕ) (totals : Totals) (left : List (ℕ × Totals)) (line : List ℕ)
    → HasWritten old now summary ((sequence, totals) ∷ left) → line ≡ sequence_line sequence totals → new ≡ after_told now line → HasWritten old new summary left
lines_more old now new summary sequence totals left line h is wrote = record {
  up_to = piece_more old now new (summary_text summary) line (lines_text left ++ last_line summary.packets summary.bytes)
      (rw (← first_line (sequence_line sequence totals) left (last_line summary.packets summary.bytes) line is) h.up_to) wrote;
}

pub lines_part : (old now new : Intake) (summary : Summary) (sequence : ℕ) (totals : Totals) (left : List (ℕ × Totals)) (line : List ℕ)
    → HasWritten old now summary ((sequence, totals) ∷ left) → line ≡ sequence_line sequence totals → TakesPart now new line → TakesPart old new (summary_text summary)
lines_part old now new summary sequence totals left line h is wrote =
    piece_part old now new (summary_text summary) line (lines_text left ++ last_line summary.packets summary.bytes)
    (rw (← first_line (sequence_line sequence totals) left (last_line summary.packets summary.bytes) line is) h.up_to) wrote

-- the last line
pub lines_end : (old now new : Intake) (summary : Summary) (line : List ℕ) → HasWritten old now summary [] → line ≡ last_line summary.packets summary.bytes
    → new ≡ after_told now line → new ≡ after_told old (summary_text summary)
lines_end old now new summary line h is wrote =
    wrote ∙ ap (after_told now) is ∙ ap (λ intake. after_told intake (last_line summary.packets summary.bytes)) h.up_to.taken
    ∙ after_told_again old h.up_to.part (last_line summary.packets summary.bytes) ∙ ap (after_told old) (sym h.up_to.cut)

pub lines_last : (old now new : Intake) (summary : Summary) (line : List ℕ) → HasWritten old now summary [] → line ≡ last_line summary.packets summary.bytes
    → TakesPart now new line → TakesPart old new (summary_text summary)
lines_last old now new summary line h is wrote =
    piece_part old now new (summary_text summary) line [] (rw (is, append-nil) h.up_to) wrote
