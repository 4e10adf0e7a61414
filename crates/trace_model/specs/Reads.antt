-- What a read delivers of a row, what it passes, and where it ends.
use Rattle.std.specs.Prelude.{ℕ, ◌-◌, Bool, true, false, ◌&&◌, ◌||◌, not, ◌==◌, List, [], ◌∷◌, count_by, if◌then◌else◌}
use Rattle.trace_model.specs.Counts.{raised, one_if}
use Rattle.trace_model.specs.Sequences.{Sequence, Cursor, first_place, sequence_in, changed_at}
use Rattle.trace_model.specs.Buffers.{Buffer}
use Rattle.trace_model.specs.Row.{Fate, Whole, Marked, IntoLost, CutOff, Open, Chain, Link, Joined, Gap, Stop, bytes_of, row_from_cursor, Why, End}
use Rattle.trace_model.specs.Walks.{is_accepted}

-- why a packet isn't delivered: its writer dropped it; it was overwritten, or discarded; none of these
pub data Cause : Type 0 where
  Dropped : Cause
  Lost : Cause
  Cut : Cause

-- what a read does at a link: it delivers the packet; it passes it and counts it under a cause; it passes something that
-- is no packet, or was counted before; it ends
pub data Turn : Type 0 where
  Delivers : Turn
  Counts : Cause → Turn
  Skips : Turn
  Ends : Turn

-- what a read does with a chain of this fate: it is delivered only where it has its start and isn't spoilt
abbrev pub turn_by : Fate → (headless spoilt : Bool) → Turn
turn_by Open headless spoilt = Ends
turn_by Whole true spoilt = Skips
turn_by Whole false spoilt = if spoilt then Counts Cut else Delivers
turn_by Marked headless spoilt = if headless then Skips else Counts Dropped
turn_by IntoLost headless spoilt = if headless then Skips else Counts Lost
turn_by CutOff headless spoilt = if headless then Skips else Counts Cut

-- The chain awaits a patch still, or its bytes aren't fields that writers may write: this project's profile, in which what a
-- service hands on is whole messages and has none of the service's own fields. Only a whole chain is asked.
abbrev pub is_spoilt : Chain → Bool
is_spoilt chain = chain.awaits || not (is_accepted (bytes_of chain.pieces))

-- what a read does with a link of the row
abbrev pub turn_of : Link → Turn
turn_of (Joined chain) = turn_by chain.fate chain.headless (is_spoilt chain)
turn_of (Gap at next lost) = Skips
turn_of (Stop at why may) = Ends

-- the link is delivered
abbrev pub delivers : Turn → Bool
delivers Delivers = true
delivers other = false

-- the read ends before the link
abbrev pub ends : Turn → Bool
ends Ends = true
ends other = false

-- the causes are the same
abbrev pub is_same_cause : Cause → Cause → Bool
is_same_cause Dropped Dropped = true
is_same_cause Lost Lost = true
is_same_cause Cut Cut = true
is_same_cause cause other = false

-- the link is counted under this cause
abbrev pub counts_under : Cause → Turn → Bool
counts_under cause (Counts other) = is_same_cause cause other
counts_under cause turn = false

-- the links that a read passes, delivered ones among them, and those that are left
abbrev pub passed_by : ℕ → List Link → List Link
passed_by limit [] = []
passed_by limit (link ∷ links) =
    if ends (turn_of link) || (delivers (turn_of link) && (limit == 0)) then []
    else link ∷ passed_by (limit - one_if (delivers (turn_of link))) links

-- the links that a read with this limit leaves
abbrev pub left_by : ℕ → List Link → List Link
left_by limit [] = []
left_by limit (link ∷ links) =
    if ends (turn_of link) || (delivers (turn_of link) && (limit == 0)) then link ∷ links
    else left_by (limit - one_if (delivers (turn_of link))) links

-- a packet as a read delivers it: its body, and whether the service marks it
pub record Delivery : Type 0 where
  pub body : List ℕ
  pub marked : Bool

-- the packet that a link has
abbrev pub link_bytes : Link → List ℕ
link_bytes (Joined chain) = bytes_of chain.pieces
link_bytes (Gap at next lost) = []
link_bytes (Stop at why may) = []

-- the packets of the links that are delivered; the mark stands where something was passed before
abbrev pub delivered_of : Bool → List Link → List Delivery
delivered_of marked [] = []
delivered_of marked (link ∷ links) =
    if delivers (turn_of link)
    then record { body = link_bytes link; marked = marked } ∷ delivered_of false links
    else delivered_of true links

-- whether something was passed since the last delivery
abbrev pub missing_after : Bool → List Link → Bool
missing_after missing [] = missing
missing_after missing (link ∷ links) = missing_after (not (delivers (turn_of link))) links

-- where the cursor stands behind a link
abbrev pub next_of : Cursor → Link → Cursor
next_of cursor (Joined chain) = chain.next
next_of cursor (Gap at next lost) = next
next_of cursor (Stop at why may) = cursor

-- the cursor behind the links that were passed
abbrev pub cursor_after : Cursor → List Link → Cursor
cursor_after cursor [] = cursor
cursor_after cursor (link ∷ links) = cursor_after (next_of cursor link) links

-- how many links have such a turn
abbrev pub count_of : (Turn → Bool) → List Link → ℕ
count_of test links = count_by (λ link. test (turn_of link)) links

-- the sequence once a read has passed these links
abbrev pub sequence_after : List Link → Sequence → Sequence
sequence_after links state = record state {
  cursor = cursor_after state.cursor links;
  missing = missing_after state.missing links;
  delivered = raised state.delivered (count_of delivers links);
  dropped = raised state.dropped (count_of (counts_under Dropped) links);
  lost = raised state.lost (count_of (counts_under Lost) links);
  cut = raised state.cut (count_of (counts_under Cut) links);
}

-- the first delivery of a sequence is marked, and one before which something was passed
abbrev pub is_marked : Sequence → Bool
is_marked state = state.missing || (state.delivered == 0)

-- what a read of a sequence with a limit delivers, and the buffer after it
abbrev pub delivered_by : Buffer → ℕ → ℕ → List Delivery
delivered_by buffer sequence limit =
    let state = sequence_in buffer.sequences sequence in
    delivered_of (is_marked state) (passed_by limit (row_from_cursor buffer state))

-- the buffer after a read of one of its sequences
abbrev pub with_read : Buffer → ℕ → ℕ → Buffer
with_read buffer sequence limit = record buffer {
  sequences =
      changed_at sequence
      (sequence_after (passed_by limit (row_from_cursor buffer (sequence_in buffer.sequences sequence))))
      buffer.sequences;
}

-- Where a read ends

-- where a row stops, and why
pub record StopPlace : Type 0 where
  pub at : Cursor
  pub why : Why

-- the last link of a row is its stop place
abbrev pub stop_place : List Link → StopPlace
stop_place [] = record { at = first_place; why = End }
stop_place (Joined chain ∷ links) = stop_place links
stop_place (Gap at next lost ∷ links) = stop_place links
stop_place (Stop at why may ∷ links) = record { at = at; why = why }

-- why a read ended
pub data ReadEnd : Type 0 where
  -- as many packets as the limit were delivered, and one more is due
  AtLimit : ReadEnd
  -- the read met the stop place, or a chain that reaches it
  Stopped : StopPlace → ReadEnd

-- why a read ends before these links
abbrev pub end_before : List Link → ReadEnd
end_before [] = Stopped (stop_place [])
end_before (link ∷ links) = if delivers (turn_of link) then AtLimit else Stopped (stop_place (link ∷ links))

-- why a read with this limit ends
abbrev pub read_end : ℕ → List Link → ReadEnd
read_end limit links = end_before (left_by limit links)

-- The same one link at a time, as a reader goes on: the sequence once one thing was passed, up to a place.
abbrev pub advanced : Cursor → Turn → Sequence → Sequence
advanced to turn state = record state {
  cursor = to;
  missing = not (delivers turn);
  delivered = raised state.delivered (one_if (delivers turn));
  dropped = raised state.dropped (one_if (counts_under Dropped turn));
  lost = raised state.lost (one_if (counts_under Lost turn));
  cut = raised state.cut (one_if (counts_under Cut turn));
}
