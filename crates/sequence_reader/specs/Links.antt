-- The next link of a row, as a reader finds it.
use Rattle.std.specs.Prelude.{◌≡◌, ℕ, ◌+◌, ◌^◌, ◌≤◌, Bool, true, false, List, [], ◌∷◌, length, if◌then◌else◌}
use Rattle.trace_model.specs.Buffers.{Buffer}
use Rattle.trace_model.specs.Reads.{Turn, Delivers, Ends, turn_of, next_of, link_bytes, stop_place, delivers}
use Rattle.trace_model.specs.Row as row
use Rattle.trace_model.specs.Row.{Link, Joined, bytes_of, joined_to}
use Rattle.trace_model.specs.Sequences.{Cursor}
use Rattle.trace_model.specs.Walks.{is_accepted}
use Rattle.trace_buffer.specs.Answers.{turn_value}
use Rattle.trace_buffer.specs.declared.answers.Passed.{Passed}
use Rattle.trace_buffer.specs.declared.answers.Passed.TheVariants.{Dropped, Overwritten, Cut, Nothing}
use Rattle.sequence_reader.specs.declared.ends.Why.{Why}
use Rattle.sequence_reader.specs.declared.link.Chain.{Chain}
use Rattle.sequence_reader.specs.declared.link.Fate.{Fate}
use Rattle.sequence_reader.specs.declared.link.Fate.TheVariants.{Whole, Marked, IntoLost, CutOff, Open}
use Rattle.sequence_reader.specs.declared.link.Found.{Found}
use Rattle.sequence_reader.specs.declared.link.Found.TheVariants as found
use Rattle.sequence_reader.specs.declared.spot.Bounds.{Bounds}
use Rattle.sequence_reader.specs.declared.spot.Spot.{Spot}
use Rattle.sequence_reader.specs.Ends.{stop_told}
use Rattle.sequence_reader.specs.Spots.{rows_of, cursor_of, IsSpot, reach_of}
use Rattle.sequence_reader.specs.declared.step.Piece.{Piece}
use Rattle.sequence_reader.specs.Steps.{IsPieceAt, IsStopAt}

-- a fate as one of the model
abbrev pub fate_value : Fate → row.Fate
fate_value Whole = row.Whole
fate_value Marked = row.Marked
fate_value IntoLost = row.IntoLost
fate_value CutOff = row.CutOff
fate_value (Open why) = row.Open

-- where a chain stands open, the stop place behind it is told
abbrev pub TellsStop : List Link → Fate → Type 0
TellsStop links Whole = Unit {0}
TellsStop links Marked = Unit {0}
TellsStop links IntoLost = Unit {0}
TellsStop links CutOff = Unit {0}
TellsStop links (Open why) = IsStopAt links why true

-- the row begins with this chain, whose end was met
pub record IsEnded (links rest : List Link) (chain : row.Chain) (fate : Fate) : Type 0 where
  pub links_are : links ≡ Joined chain ∷ rest
  pub fate_is : chain.fate ≡ fate_value fate
  pub stop : TellsStop rest fate

-- a reader has followed a chain up to a spot
pub record IsWalked (buffer : Buffer) (bounds : Bounds) (chain : Chain) : Type 0 where
  pub seen : row.Chain
  pub headless : seen.headless ≡ chain.headless
  pub awaits : seen.awaits ≡ chain.awaits
  pub next : seen.next ≡ cursor_of chain.next
  pub len : length (bytes_of seen.pieces) ≡ chain.len
  pub on : chain.goes_on ≡ true
      → rows_of buffer bounds.sequence (cursor_of chain.at) ≡ joined_to seen (rows_of buffer bounds.sequence (cursor_of chain.next))
  pub ended : chain.goes_on ≡ false
      → IsEnded (rows_of buffer bounds.sequence (cursor_of chain.at)) (rows_of buffer bounds.sequence (cursor_of chain.next))
      seen chain.fate
  pub spot : IsSpot buffer bounds chain.next
  pub further : reach_of chain.at + chain.len ≤ reach_of chain.next
  pub near : reach_of chain.next ≤ 2 ^ 59

-- the bytes of the first link
abbrev pub first_bytes : List Link → List ℕ
first_bytes [] = []
first_bytes (link ∷ links) = link_bytes link

-- where the chain is whole, has its start and awaits nothing, this is what the packet check says of its bytes
abbrev pub Judges : Buffer → Bounds → Chain → Bool → Type 0
Judges buffer bounds chain accepted = chain.fate ≡ Whole → chain.headless ≡ false → chain.awaits ≡ false
    → accepted ≡ is_accepted (first_bytes (rows_of buffer bounds.sequence (cursor_of chain.at)))

-- as what a chain that isn't delivered is passed
abbrev pub passed_in : Fate → Passed
passed_in Marked = Dropped
passed_in IntoLost = Overwritten
passed_in Whole = Cut
passed_in CutOff = Cut
passed_in (Open why) = Cut

-- as what a chain of this fate is passed: one without its start counts as nothing
abbrev pub passed_by : Fate → Bool → Passed
passed_by fate headless = if headless then Nothing else passed_in fate

-- the row begins with a link, at which a read does this, and goes on at that place
pub record IsLink (links rest : List Link) (turn : Turn) (next : Cursor) : Type 0 where
  pub link : Link
  pub links_are : links ≡ link ∷ rest
  pub turn_is : turn_of link ≡ turn
  pub next_is : (cursor : Cursor) → next_of cursor link ≡ next

-- a read ends at the row's first link, for this reason
pub record EndsAt (links : List Link) (why : Why) : Type 0 where
  pub link : Link
  pub rest : List Link
  pub links_are : links ≡ link ∷ rest
  pub turn_is : turn_of link ≡ Ends
  pub told : stop_told (stop_place links) ≡ why

-- the next link is passed, and this is behind it
pub record IsPassedLink (buffer : Buffer) (bounds : Bounds) (spot next : Spot) (passed : Passed) : Type 0 where
  pub is : IsLink (rows_of buffer bounds.sequence (cursor_of spot)) (rows_of buffer bounds.sequence (cursor_of next))
      (turn_value passed) (cursor_of next)
  pub kept : delivers (turn_value passed) ≡ false
  pub behind : IsSpot buffer bounds next

-- the next link is a packet to be delivered, so long, and this is behind it
pub record IsPacket (buffer : Buffer) (bounds : Bounds) (spot next : Spot) (first : Piece) (len : ℕ) : Type 0 where
  pub begins : IsPieceAt buffer bounds spot first
  pub is : IsLink (rows_of buffer bounds.sequence (cursor_of spot)) (rows_of buffer bounds.sequence (cursor_of next))
      Delivers (cursor_of next)
  pub long : length (link_bytes is.link) ≡ len
  pub few : len ≤ 2 ^ 59
  pub behind : IsSpot buffer bounds next

-- what a reader finds at a spot: the end, a link to pass, or a packet
abbrev pub Finds : Buffer → Bounds → Spot → Found → Type 0
Finds buffer bounds spot (found.Ends why) = EndsAt (rows_of buffer bounds.sequence (cursor_of spot)) why
Finds buffer bounds spot (found.Passes passed next) = IsPassedLink buffer bounds spot next passed
Finds buffer bounds spot (found.Delivers first len next) = IsPacket buffer bounds spot next first len
