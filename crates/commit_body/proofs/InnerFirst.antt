-- The open holes with the inner ones first, as the messages of a packet end.
use Rattle.std.proofs.Common.{◌≡◌, ℕ, [], ◌∷◌, reverse, ap, ◌∙◌}
use Rattle.std.proofs.lemmas.List.{reverse-append}
use Rattle.commit_body.specs.declared.closed.Closed.{Closed}
use Rattle.commit_body.specs.Pending.{Pending, AddsHole, ClosesHole}

-- a hole that is opened is the innermost one
pub inner_first_added : (old new : Pending) (chunk_id offset : ℕ) → AddsHole old new chunk_id offset
    → reverse new.holes ≡ record { chunk_id = chunk_id; offset = offset } ∷ reverse old.holes
inner_first_added old new chunk_id offset adds =
    ap (λ (pending : Pending). reverse pending.holes) adds ∙ reverse-append old.holes (record { chunk_id = chunk_id; offset = offset } ∷ [])

-- and so is the one that is closed
pub inner_first_closed : (old new : Pending) (held value : ℕ) (answer : Closed) (closes : ClosesHole old new held value answer)
    → reverse old.holes ≡ closes.hole ∷ reverse new.holes
inner_first_closed old new held value answer closes = ap reverse closes.innermost ∙ reverse-append new.holes (closes.hole ∷ [])
