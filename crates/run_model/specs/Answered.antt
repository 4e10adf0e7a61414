-- What becomes of the flush requests of a run: the calls of a writer that gave answers, the numbers of the report, and what the service has read of
-- its writers once all is settled.
use Rattle.std.specs.Prelude.{◌≡◌, ℕ, zero, suc, ◌+◌, ◌<◌, ◌==◌, ◌&&◌, nat_lt, Bool, List, [], ◌∷◌, length, if◌then◌else◌}
use Rattle.std.specs.List.{list_any}
use Rattle.trace_model.specs.Calls.{Call}
use Rattle.chunk_plain.specs.Setup.{Setup}
use Rattle.chunk_plain.specs.Views.{At, Letter, Asked, Heard, Reply, ServiceView, WriterView, asked_in}
use Rattle.scenario_text.specs.Scenario.{Parts}
use Rattle.replay_model.specs.Flushes.{requests_in}

-- ---- a writer

-- whether one of these answers was given when so many calls were noted
abbrev pub is_answered_behind : (calls : ℕ) → List Reply → Bool
is_answered_behind calls answers = list_any (λ (answer : Reply). answer.calls == calls) answers

-- Calls that were noted behind so many others, without the flushes of answers: each of these is the last call before its answer.
abbrev pub without_answers : (at : ℕ) → List Reply → List Call → List Call
without_answers at answers [] = []
without_answers at answers (call ∷ calls) =
    if is_answered_behind (suc at) answers then without_answers (suc at) answers calls else call ∷ without_answers (suc at) answers calls

-- the calls that a writer noted, without those flushes
abbrev pub answered_out : WriterView → List Call
answered_out view = without_answers 0 view.letters.answers view.calls

-- ---- the report

-- the chunks in the first answer of the writer at this place to this request or a later one, of those that were read; none without one
abbrev pub chunks_to : (flush place : ℕ) → List Letter → ℕ
chunks_to flush place [] = 0
chunks_to flush place (Asked events ∷ letters) = chunks_to flush place letters
chunks_to flush place (Heard other number chunks ∷ letters) =
    if (other == place) && nat_lt flush (suc number) then chunks else chunks_to flush place letters

-- their sum over so many writers
abbrev pub sum_to : (flush writers : ℕ) → List Letter → ℕ
sum_to flush zero letters = 0
sum_to flush (suc place) letters = sum_to flush place letters + chunks_to flush place letters

-- the sums of so many requests from this one on
abbrev pub sums_from : (flush count writers : ℕ) → List Letter → List ℕ
sums_from flush zero writers letters = []
sums_from flush (suc count) writers letters = sum_to flush writers letters ∷ sums_from (suc flush) count writers letters

-- what the report says of requests: of each that was made one sum, in their order
abbrev pub run_sums : (writers : ℕ) → List Letter → List ℕ
run_sums writers letters = sums_from 1 (asked_in letters) writers letters

-- ---- at the end

-- As many requests were made as lines ask for. Where there is one, the service has read of each writer an answer to the last one.
pub record HasAnsweredAll (scenario : Parts) (setup : Setup) (service : ServiceView) : Type 0 where
  pub requests : asked_in service.letters ≡ requests_in scenario.lines
  pub last : 0 < asked_in service.letters → (place : ℕ) → place < length setup.writers
      → (n : ℕ) × (chunks : ℕ) × At service.letters n (Heard place (asked_in service.letters) chunks)
