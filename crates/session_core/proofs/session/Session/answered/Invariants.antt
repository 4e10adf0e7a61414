use Rattle.std.proofs.Common.{◌≡◌, ℕ, ◌<◌, false, slice_index_or}
use Rattle.session_core.specs.Sessions.{answer_at, HasAnswered}
use Rattle.session_core.proofs.session.Session.answered.Given as goal

-- each writer so far has answered
abbrev pub invariant-loop-place : goal.invariant-loop-place
invariant-loop-place l = (place : ℕ) → place < l.place → slice_index_or l.closed place false ≡ false
    → HasAnswered (answer_at l.self place) l.flush (slice_index_or l.taken place 0)
