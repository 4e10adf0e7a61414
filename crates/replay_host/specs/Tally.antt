-- What is kept of flush requests, for each the chunks that its answers named so far, and of the answers to commits.
use Rattle.std.specs.Prelude.{◌≡◌, ℕ, zero, suc, ◌^◌, ◌<◌, ◌≤◌, List, [], ◌∷◌, ◌++◌, length, replicate, vec_len, slice_index, is_some, if◌then◌else◌}
use Rattle.trace_base.specs.declared.limits.TheConstants.{MAX_WRITERS}
use Rattle.chunk_plain.specs.Views.{Taken, none_taken}
use Rattle.replay_model.specs.ActNotes.{ActNote, Requested, Answered, Told, answers_in}
use Rattle.replay_model.specs.Flushes.{first_answer, flush_sums}
use Rattle.replay_host.specs.declared.flushes.Flushes.{Flushes}

-- so many writers of which nothing was taken
abbrev pub nobody : ℕ → List Taken
nobody zero = []
nobody (suc count) = none_taken ∷ nobody count

-- how many requests the writer at this place has answered: an answer is to all before it
abbrev pub answered_by : (place : ℕ) → List ActNote → ℕ
answered_by place [] = 0
answered_by place (Requested ∷ notes) = if is_some (first_answer place notes) then suc (answered_by place notes) else answered_by place notes
answered_by place (Answered other chunks ∷ notes) = answered_by place notes
answered_by place (Told answer ∷ notes) = answered_by place notes

-- each answer to a request is of one of so many writers, and names a number of 32 bits
abbrev pub AreAnswers : (writers : ℕ) → List ActNote → Type 0
AreAnswers writers [] = Unit {0}
AreAnswers writers (Requested ∷ notes) = AreAnswers writers notes
AreAnswers writers (Answered place chunks ∷ notes) = (place < writers) × (chunks < 2 ^ 32) × AreAnswers writers notes
AreAnswers writers (Told answer ∷ notes) = AreAnswers writers notes

-- The counts and the answers to commits are those of these notes, of so many writers; for each request that is to come there is room.
pub record IsTally (notes : List ActNote) (writers : ℕ) (flushes : Flushes) : Type 0 where
  pub few : writers ≤ MAX_WRITERS
  pub many : vec_len flushes.answered ≡ writers
  pub notes_fit : AreAnswers writers notes
  pub room : ℕ
  pub chunks : flushes.chunks.items ≡ flush_sums notes (nobody writers) ++ replicate room 0
  pub made : flushes.made ≡ length (flush_sums notes (nobody writers))
  pub answered : (place : ℕ) → place < writers → slice_index flushes.answered.items place ≡ answered_by place notes
  pub told : flushes.answers.items ≡ answers_in notes
