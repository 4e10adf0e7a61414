-- The counts of requests stay, and the answer comes behind the others.
use Rattle.std.proofs.Common.{◌∙◌, ℕ, List, [], ◌∷◌, ◌++◌, length, replicate, sym, ap}
use Rattle.loss_report.specs.declared.raws.RawAnswer.{RawAnswer}
use Rattle.replay_model.specs.ActNotes.{Told}
use Rattle.replay_host.specs.Tally.{nobody}
use Rattle.replay_host.proofs.TallyLemmas.{sums_told, answered_told, fits_append, told_append}
use Rattle.replay_host.proofs.flushes.Flushes.tell.Goals as goal

pub returns-clause-tally : goal.returns-clause-tally
returns-clause-tally c notes writers tally =
    let sums = sums_told notes (nobody writers) c.args.answer in
    record {
      few = tally.few;
      many = tally.many;
      notes_fit = fits_append writers notes (Told c.args.answer ∷ []) tally.notes_fit tt;
      room = tally.room;
      chunks = tally.chunks ∙ ap (λ (xs : List ℕ). xs ++ replicate tally.room 0) (sym sums);
      made = tally.made ∙ ap (λ (xs : List ℕ). length xs) (sym sums);
      answered = λ place below. tally.answered place below ∙ sym (answered_told place notes c.args.answer);
      told = c.in-Ok.ensures.items ∙ ap (λ (answers : List RawAnswer). answers ++ c.args.answer ∷ []) tally.told
          ∙ sym (told_append notes (Told c.args.answer ∷ []));
    }
