-- Worked examples of what a report says of flush requests, and of which of a writer's calls are the flushes of its answers.
use Rattle.std.specs.Prelude.{◌≡◌, true, List, [], ◌∷◌}
use Rattle.trace_model.specs.Calls.{Call, Begun, Number, Finished, Flushed}
use Rattle.chunk_plain.specs.Views.{Asked, Heard, Reply}
use Rattle.run_model.specs.Answered.{run_sums, without_answers}

-- a packet, a flush that a line asked for, and two flushes of answers: one behind the packet, one behind the line's flush
abbrev pub answered_twice : List Call
answered_twice = Begun true ∷ Number 8 1 ∷ Finished ∷ Flushed ∷ Flushed ∷ Flushed ∷ []

-- these answers
abbrev pub two_answers : List Reply
two_answers = record { flush = 1; chunks = 1; calls = 4 } ∷ record { flush = 2; chunks = 1; calls = 6 } ∷ []

-- Answers of two writers, or of one, as the service read them, and the numbers of the requests in their order.
pub record WorkedAnswers : Type 0 where
  -- each writer answered the second request, the first one had answered the first too, and that was read twice
  pub each : run_sums 2 (Asked 0 ∷ Heard 0 1 3 ∷ Heard 0 1 3 ∷ Asked 3 ∷ Heard 1 2 4 ∷ Heard 0 2 5 ∷ []) ≡ 7 ∷ 9 ∷ []
  -- an answer to a later request is one to those before it; the first that was read counts
  pub later : run_sums 1 (Asked 0 ∷ Asked 0 ∷ Asked 4 ∷ Heard 0 2 5 ∷ Heard 0 3 6 ∷ []) ≡ 5 ∷ 5 ∷ 6 ∷ []
  -- one of two writers was read
  pub one : run_sums 2 (Asked 0 ∷ Heard 1 1 2 ∷ []) ≡ 2 ∷ []
  -- no answer was read, and no request made
  pub none_read : run_sums 2 (Asked 7 ∷ []) ≡ 0 ∷ []
  pub none_made : run_sums 2 [] ≡ []
  -- without the flushes of its answers a writer has noted what the lines ask of it
  pub asked : without_answers 0 two_answers answered_twice ≡ Begun true ∷ Number 8 1 ∷ Finished ∷ Flushed ∷ []
  pub unasked : without_answers 0 [] answered_twice ≡ answered_twice
