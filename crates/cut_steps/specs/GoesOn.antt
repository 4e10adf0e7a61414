-- A packet more of whose bytes are noted than stand in the pages: its writer has no chunk to go on in.
use Rattle.std.specs.Prelude.{◌≡◌, ℕ, ◌≤◌, false, IsTrue, List, [], ◌∷◌, ◌++◌, length, None, ⊤}
use Rattle.trace_model.specs.Packets.{Packet, flat, open_length, open_places, body_of}
use Rattle.trace_model.specs.Sequences.{is_among}
use Rattle.trace_model.specs.Cut.{Begins}

-- each number is at least so large
abbrev pub AllFrom : ℕ → List ℕ → Type 0
AllFrom bound [] = ⊤
AllFrom bound (n ∷ numbers) = (bound ≤ n) × AllFrom bound numbers

-- The second is the packet with all that its writer was asked to write; of the first all bytes stand in the pages. The
-- second may have further open lengths, all of them behind those bytes, and among them those that may come.
pub record GoesOn (standing packet : Packet) (coming : List ℕ) : Type 0 where
  pub kept : packet.kept ≡ standing.kept
  pub follows_flush : packet.follows_flush ≡ standing.follows_flush
  pub given_up : packet.given_up ≡ None
  pub finished : packet.finished ≡ false
  pub closed : packet.text.closed ≡ standing.text.closed
  pub bytes : Begins (flat open_length standing.text.levels) (body_of packet)
  pub further : List ℕ
  pub places : open_places packet.text.levels ≡ further ++ open_places standing.text.levels
  pub behind : AllFrom (length (flat open_length standing.text.levels)) further
  pub come : (n : ℕ) → IsTrue (is_among n coming) → IsTrue (is_among n further)
