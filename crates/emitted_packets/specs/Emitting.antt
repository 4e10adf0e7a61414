-- What one writer has emitted, and what it has written of the packet that it writes.
use Rattle.std.specs.Prelude.{◌≡◌, ℕ, ◌+◌, true, false, List, [], ◌∷◌, ◌++◌, length, map, reverse, None, ⊤}
use Rattle.trace_model.specs.Packets.{Account, Packet, flat, open_length, open_places, emissions_in}
use Rattle.packet_runs.specs.Pieces.{pieces, AreEnds}

-- where the last of these ends is
abbrev pub last_end : ℕ → List ℕ → ℕ
last_end start [] = start
last_end start (end ∷ ends) = last_end end ends

-- none of the packets was dropped
abbrev pub AreKept : List Packet → Type 0
AreKept [] = ⊤
AreKept (packet ∷ older) = (packet.kept ≡ true) × (packet.given_up ≡ None) × (packet.follows_loss ≡ false) × AreKept older

-- these are the bytes of the packet so far, and the places of its open lengths, the innermost last
pub record Writes (packet : Packet) (start : ℕ) (bytes opens : List ℕ) : Type 0 where
  pub level : List ℕ
  pub outer : List (List ℕ)
  pub levels : packet.text.levels ≡ level ∷ outer
  pub bytes_are : bytes ≡ flat open_length (level ∷ outer)
  pub places : map (λ place. start + place) (open_places (level ∷ outer)) ≡ reverse opens

-- what is written of the newest packet, where it isn't finished
abbrev pub IsGoingOn : List Packet → ℕ → List ℕ → List ℕ → Type 0
IsGoingOn [] start bytes opens = (bytes ≡ []) × (opens ≡ [])
IsGoingOn (packet ∷ older) start bytes opens = (packet.finished ≡ true → (bytes ≡ []) × (opens ≡ []))
    × (packet.finished ≡ false → Writes packet start bytes opens)

-- the bytes are those of the finished packets, up to these ends, and then what is written of the newest one
pub record IsEmitting (account : Account) (bytes ends opens : List ℕ) : Type 0 where
  pub done : List ℕ
  pub current : List ℕ
  pub cut : bytes ≡ done ++ current
  pub last : last_end 0 ends ≡ length done
  pub rising : AreEnds (length done) 0 ends
  pub finished : pieces done 0 ends ≡ emissions_in account.packets
  pub kept : AreKept account.packets
  pub goes_on : IsGoingOn account.packets (length done) current opens
