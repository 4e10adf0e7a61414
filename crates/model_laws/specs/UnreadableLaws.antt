-- Which fragment of a chunk can't be read: the number that a bad chunk is answered with is that of the first such fragment.
use Rattle.std.specs.Prelude.{◌≡◌, ◌↔◌, ℕ, ◌<◌, List, All}
use Rattle.trace_model.specs.Reading.{Unreadable, reading_of}
use Rattle.trace_model.specs.Unread.{IsFirstUnread}

-- The number of a payload that can't be read is that of its first fragment that can't.
abbrev pub UnreadableIsFirst : Type 0
UnreadableIsFirst = (count : ℕ) (payload : List ℕ) (number : ℕ) → All (λ byte. byte < 256) payload
    → (reading_of count payload ≡ Unreadable number) ↔ IsFirstUnread count payload number
