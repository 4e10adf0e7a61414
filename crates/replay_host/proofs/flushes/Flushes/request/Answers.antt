-- A request takes the room that is there for it.
use Rattle.std.proofs.Common.{◌≡◌, ◌∙◌, ℕ, zero, suc, ◌+◌, ◌<◌, List, [], ◌∷◌, ◌++◌, length, replicate, sym, ap, append_assoc, append-nil, length-append, arith}
use Rattle.std.proofs.lemmas.List.{length-replicate}
use Rattle.replay_model.specs.ActNotes.{Requested, answers_in}
use Rattle.replay_model.specs.Flushes.{flush_sums}
use Rattle.replay_host.specs.Tally.{nobody}
use Rattle.replay_host.proofs.TallyLemmas.{sums_request, answered_request, fits_append, told_append}
use Rattle.replay_host.proofs.flushes.Flushes.request.Goals as goal

-- one of the rooms is taken
room_taken : (sums : List ℕ) (room : ℕ) → 0 < room → (left : ℕ) × (sums ++ replicate room 0 ≡ (sums ++ 0 ∷ []) ++ replicate left 0)
room_taken sums zero some = absurd (omega (arith, some))
room_taken sums (suc room) some = (room, sym (append_assoc sums (0 ∷ []) (replicate room 0)))

pub returns-clause-tally : goal.returns-clause-tally
returns-clause-tally c notes writers tally =
    let sums : List ℕ = flush_sums notes (nobody writers) in
    let long : length (sums ++ replicate tally.room 0) ≡ length sums + tally.room =
    length-append sums (replicate tally.room 0) ∙ ap (λ (n : ℕ). length sums + n) (length-replicate tally.room 0) in
    let items = ap (λ (xs : List ℕ). length xs) tally.chunks in
    let made = tally.made in
    let left = room_taken sums tally.room (omega (arith, long, items, made, c.requires)) in
    let next = sums_request notes writers in
    let longer : length (flush_sums (notes ++ Requested ∷ []) (nobody writers)) ≡ length sums + 1 = ap (λ (xs : List ℕ). length xs) next ∙ length-append sums (0 ∷ []) in
    record {
      few = tally.few;
      many = tally.many;
      notes_fit = fits_append writers notes (Requested ∷ []) tally.notes_fit tt;
      room = left.0;
      chunks = tally.chunks ∙ left.1 ∙ ap (λ (xs : List ℕ). xs ++ replicate left.0 0) (sym next);
      made = ap (λ (n : ℕ). n + 1) made ∙ sym longer;
      answered = λ place below. tally.answered place below ∙ sym (answered_request place notes);
      told = tally.told ∙ sym (told_append notes (Requested ∷ []) ∙ append-nil (answers_in notes));
    }
