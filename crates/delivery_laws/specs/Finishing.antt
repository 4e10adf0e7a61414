-- Histories that come to an end: all chunks of a sequence come, it is closed, and a read goes over all of it.
use Rattle.std.specs.Prelude.{◌≡◌, ℕ, suc, ◌==◌, ◌≤◌, ◌⊎◌, Bool, true, List, [], ◌∷◌, MatchBool, None, if◌then◌else◌, ⊤}
use Rattle.trace_model.specs.Packets.{Packet}
use Rattle.trace_model.specs.History.{Event, Arrives, Closed, Read}

-- each packet was kept, never given up, and finished
abbrev pub AllWhole : List Packet → Type 0
AllWhole [] = ⊤
AllWhole (packet ∷ packets) =
    (packet.kept ≡ true) × (packet.given_up ≡ None) × (packet.finished ≡ true) × AllWhole packets

-- The sequence is closed once so many of its chunks have come, and then there is a read of it whose limit is at least so many
-- packets. What comes behind is free.
abbrev pub Finishes : (sequence chunks packets come : ℕ) → Bool → List Event → Type 0
Finishes sequence chunks packets come closed [] = ⊥
Finishes sequence chunks packets come closed (Arrives other chunk_id chunk ∷ events) =
    Finishes sequence chunks packets (if other == sequence then suc come else come) closed events
Finishes sequence chunks packets come closed (Closed other ∷ events) =
    MatchBool (other == sequence)
    ((come ≡ chunks) × Finishes sequence chunks packets come true events)
    (Finishes sequence chunks packets come closed events)
Finishes sequence chunks packets come closed (Read other limit ∷ events) =
    ((other ≡ sequence) × (closed ≡ true) × (packets ≤ limit)) ⊎ Finishes sequence chunks packets come closed events
Finishes sequence chunks packets come closed (event ∷ events) = Finishes sequence chunks packets come closed events
