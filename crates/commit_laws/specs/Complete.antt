-- When nothing of a stream is absent: the buffer has the bytes for each commit, and is read at the end.
use Rattle.std.specs.Prelude.{◌≡◌, ℕ, suc, ◌+◌, ◌*◌, ◌≤◌, max, Bool, true, false, not, ◌&&◌, List, [], ◌∷◌, ◌++◌, length, map, filter, if◌then◌else◌}
use Rattle.trace_base.specs.declared.limits.TheConstants.{MAX_FRAGMENTS}
use Rattle.trace_model.specs.Buffers.{Buffer}
use Rattle.trace_model.specs.History.{Event, Committed, reads_of, state_after}
use Rattle.trace_model.specs.Packets.{Packet, body_of, is_lost}
use Rattle.trace_model.specs.Sequences.{Sequence, is_among, is_known, sequence_in}
use Rattle.trace_model.specs.Tells.{IsTold}

-- Of these packets, in the order of their begins, the places of those that were emitted and never dropped, among the emissions of all: they have a chain,
-- and it has no drop mark, since a chain ends in one exactly where its packet was given up (the cut). The first emission here is at this place.
abbrev pub kept_places : ℕ → List Packet → List ℕ
kept_places place [] = []
kept_places place (packet ∷ packets) =
    if packet.finished
    then (if is_lost packet then kept_places (suc place) packets else place ∷ kept_places (suc place) packets)
    else kept_places place packets

-- the bodies of those packets that `kept_places` names: they were emitted and never dropped
abbrev pub kept_bodies : List Packet → List (List ℕ)
kept_bodies packets = map body_of (filter (λ packet. packet.finished && not (is_lost packet)) packets)

-- The records tell of the emitted packets at these places, of each in a record of its own, and of no others.
abbrev pub TellsAt : List (List ℕ) → ℕ → Bool → ℕ → List ℕ → List (List ℕ) → Type 0
TellsAt emitted sequence first next [] records = records ≡ []
TellsAt emitted sequence first next (place ∷ places) [] = ⊥
TellsAt emitted sequence first next (place ∷ places) (bytes ∷ records) =
    IsTold emitted sequence first next place bytes × TellsAt emitted sequence false (suc place) places records

-- how many of these events are commits to a buffer with these sequences
abbrev pub commits_to : List Sequence → List Event → ℕ
commits_to sequences [] = 0
commits_to sequences (Committed image patches ∷ events) =
    (if is_known sequences image.sequence then 1 else 0) + commits_to sequences events
commits_to sequences (event ∷ events) = commits_to sequences events

-- the size of the largest record of these sequences
abbrev pub largest_record : List Sequence → ℕ
largest_record [] = 0
largest_record (state ∷ others) = max state.size (largest_record others)

-- Behind these events, by which the sequence is closed, the buffer is read: these sequences of it, one behind another, each with what is left of a
-- limit. That is at least as many packets as the commits could bring to each of them. What comes behind is free.
pub record IsReadOut (sequence : ℕ) (buffer : Buffer) (events : List Event) : Type 0 where
  pub before : List Event
  pub closed : (sequence_in (state_after buffer before).sequences sequence).closed ≡ true
  pub limit : ℕ
  pub numbers : List ℕ
  pub later : List Event
  pub cut : events ≡ before ++ (reads_of limit (state_after buffer before) numbers ++ later)
  pub read : is_among sequence numbers ≡ true
  pub unlimited : length numbers * (MAX_FRAGMENTS * commits_to buffer.sequences events) ≤ limit
