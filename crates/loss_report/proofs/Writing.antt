-- What a sink has taken while the pieces of a text are written in turn.
use Rattle.std.proofs.Common.{◌≡◌, ℕ, suc, ◌+◌, ◌<◌, List, ◌++◌, length, drop, get_or, map, refl, sym, ◌∙◌, ap, arith, append_assoc, add-one}
use Rattle.std.specs.Prelude.{codes}
use Rattle.std.proofs.Math.Seq.{drop-cons}
use Rattle.byte_io.specs.Bytes.{Intake, after_told, TakesPart, TakesUpTo}
use Rattle.byte_io.proofs.Told.{after_told_again}
use Rattle.loss_report.specs.declared.fields.Field.{Field}
use Rattle.loss_report.specs.Fields.{entry_of}
use Rattle.loss_report.specs.Lines.{entry_text, others_text}
use Rattle.loss_report.specs.Report.{lines_of}

-- one piece more was taken
pub up_to_next : (old mid new : Intake) (bytes piece rest before : List ℕ) → TakesUpTo old mid bytes before → before ≡ piece ++ rest
    → new ≡ after_told mid piece → TakesUpTo old new bytes rest
up_to_next old mid new bytes piece rest before done split taken = record {
  part = done.part ++ piece;
  cut = done.cut ∙ ap (λ behind. done.part ++ behind) split ∙ sym (append_assoc done.part piece rest);
  taken = taken ∙ ap (λ intake. after_told intake piece) done.taken ∙ after_told_again old done.part piece;
}

-- a part of one piece more was taken
pub up_to_fault : (old mid new : Intake) (bytes piece rest before : List ℕ) → TakesUpTo old mid bytes before → before ≡ piece ++ rest
    → TakesPart mid new piece → TakesPart old new bytes
up_to_fault old mid new bytes piece rest before done split part = record {
  part = done.part ++ part.part;
  rest = part.rest ++ rest;
  cut = done.cut ∙ ap (λ behind. done.part ++ behind) (split ∙ ap (λ front. front ++ rest) part.cut ∙ append_assoc part.part part.rest rest)
      ∙ sym (append_assoc done.part part.part (part.rest ++ rest));
  taken = part.taken ∙ ap (λ intake. after_told intake part.part) done.taken ∙ after_told_again old done.part part.part;
}

-- the fields from one on
others_next : (fields : List Field) (i : ℕ) (d : Field) → i < length fields
    → others_text (map entry_of (drop i fields)) ≡ (codes " " ++ entry_text (entry_of (get_or fields i d))) ++ others_text (map entry_of (drop (i + 1) fields))
others_next fields i d below = rw (add-one, drop-cons fields i d) refl

-- the lines from one on
lines_next : {T : Type 0} → (line : ℕ → T → List ℕ) (number i : ℕ) (xs : List T) (d : T) → i < length xs
    → lines_of line (i + number) (drop i xs) ≡ line (i + number) (get_or xs i d) ++ lines_of line (i + 1 + number) (drop (i + 1) xs)
lines_next line number i xs d below =
    let turn : suc (i + number) ≡ i + 1 + number = omega arith in
    rw (drop-cons xs i d) (ap (λ n. line (i + number) (get_or xs i d) ++ lines_of line n (drop (suc i) xs)) turn ∙ ap (λ n. line (i + number) (get_or xs i d) ++ lines_of line (i + 1 + number) (drop n xs)) (let next : suc i ≡ i + 1 = omega arith in next))

-- one field more
pub others_more : (old mid new : Intake) (fields : List Field) (i : ℕ) (d : Field) → i < length fields
    → TakesUpTo old mid (others_text (map entry_of fields)) (others_text (map entry_of (drop i fields)))
    → new ≡ after_told mid (codes " " ++ entry_text (entry_of (get_or fields i d)))
    → TakesUpTo old new (others_text (map entry_of fields)) (others_text (map entry_of (drop (i + 1) fields)))
others_more old mid new fields i d below done taken = up_to_next old mid new _ _ _ _ done (others_next fields i d below) taken

pub others_fault : (old mid new : Intake) (fields : List Field) (i : ℕ) (d : Field) → i < length fields
    → TakesUpTo old mid (others_text (map entry_of fields)) (others_text (map entry_of (drop i fields)))
    → TakesPart mid new (codes " " ++ entry_text (entry_of (get_or fields i d)))
    → TakesPart old new (others_text (map entry_of fields))
others_fault old mid new fields i d below done part = up_to_fault old mid new _ _ _ _ done (others_next fields i d below) part

-- one line more
pub lines_more : {T : Type 0} → (line : ℕ → T → List ℕ) (old mid new : Intake) (number i : ℕ) (xs : List T) (d : T) → i < length xs
    → TakesUpTo old mid (lines_of line number xs) (lines_of line (i + number) (drop i xs)) → new ≡ after_told mid (line (i + number) (get_or xs i d))
    → TakesUpTo old new (lines_of line number xs) (lines_of line (i + 1 + number) (drop (i + 1) xs))
lines_more line old mid new number i xs d below done taken = up_to_next old mid new _ _ _ _ done (lines_next line number i xs d below) taken

pub lines_fault : {T : Type 0} → (line : ℕ → T → List ℕ) (old mid new : Intake) (number i : ℕ) (xs : List T) (d : T) → i < length xs
    → TakesUpTo old mid (lines_of line number xs) (lines_of line (i + number) (drop i xs)) → TakesPart mid new (line (i + number) (get_or xs i d))
    → TakesPart old new (lines_of line number xs)
lines_fault line old mid new number i xs d below done part = up_to_fault old mid new _ _ _ _ done (lines_next line number i xs d below) part
