-- What the report says of each flush request.
use Rattle.std.specs.Prelude.{ℕ, suc, ◌+◌, ◌==◌, List, [], ◌∷◌, Option, Some, None, unwrap_or, if◌then◌else◌}
use Rattle.chunk_plain.specs.Views.{Taken}
use Rattle.scenario_text.specs.declared.scenario.LineKind.{LineKind}
use Rattle.scenario_text.specs.declared.scenario.LineKind.TheVariants as line
use Rattle.scenario_text.specs.declared.scenario.NumberedLine.{NumberedLine}
use Rattle.replay_model.specs.ActNotes.{ActNote, Requested, Answered, Told}

-- one for a line that makes a flush request
abbrev pub request_count : LineKind → ℕ
request_count line.Request = 1
request_count other = 0

-- how many flush requests these lines make
abbrev pub requests_in : List NumberedLine → ℕ
requests_in [] = 0
requests_in (one ∷ lines) = request_count one.what + requests_in lines

-- the number in the first answer of the writer at this place; an answer is to all requests before it
abbrev pub first_answer : (place : ℕ) → List ActNote → Option ℕ
first_answer place [] = None
first_answer place (Requested ∷ notes) = first_answer place notes
first_answer place (Answered other chunks ∷ notes) = if other == place then Some chunks else first_answer place notes
first_answer place (Told answer ∷ notes) = first_answer place notes

-- The sum over the writers from this place on: of each the number in its first answer or, where it gave none, that of the chunks that were
-- taken of it in all.
abbrev pub chunks_answered : List ActNote → (place : ℕ) → List Taken → ℕ
chunks_answered notes place [] = 0
chunks_answered notes place (taken ∷ others) = unwrap_or (first_answer place notes) taken.count + chunks_answered notes (suc place) others

-- the same for each request, by the answers behind it
abbrev pub flush_sums : List ActNote → List Taken → List ℕ
flush_sums [] taken = []
flush_sums (Requested ∷ notes) taken = chunks_answered notes 0 taken ∷ flush_sums notes taken
flush_sums (Answered place chunks ∷ notes) taken = flush_sums notes taken
flush_sums (Told answer ∷ notes) taken = flush_sums notes taken
