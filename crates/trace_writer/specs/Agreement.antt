-- A writer agrees with the view of its seat: its packets, their chunks, and what it counts.
use Rattle.std.specs.Prelude.{◌≡◌, ℕ, ◌+◌, ◌-◌, ◌≤◌, min, ⊤, vec_len, Bool, true, false, List, [], ◌∷◌, length, map, reverse, Option, Some, None}
use Rattle.trace_base.specs.declared.limits.TheConstants.{MAX_PACKET_LEN}
use Rattle.trace_model.specs.Counts.{last_count}
use Rattle.trace_model.specs.Packets.{Packet, Account, account_of, body_of, front_of, open_places, is_lost, newest_is_lost, is_writing, begun_count, dropped_at_begin}
use Rattle.commit_body.specs.Pending.{Pending}
use Rattle.chunk_plain.specs.Setup.{Setup}
use Rattle.chunk_plain.specs.Views.{WriterView}
use Rattle.trace_writer.specs.declared.fragment.OpenFragment.{OpenFragment}
use Rattle.trace_writer.specs.declared.packet.OpenPacket.{OpenPacket}
use Rattle.trace_writer.specs.declared.state.State.{State}
use Rattle.trace_writer.specs.declared.state.State.TheVariants.{Idle, Between, Writing, Dropping, Stalled}
use Rattle.trace_writer.specs.declared.state.Writer.{Writer}
use Rattle.trace_writer.specs.Site.{Site, site_of, IsRoute}
use Rattle.trace_writer.specs.Filled.{HasByte}
use Rattle.trace_writer.specs.Ids.{HasIds}
use Rattle.trace_writer.specs.States.{InFragment, IsIdle, IsBehind, IsStuck}

-- the packet that is begun has this length without its front mark, and these messages are open in it
pub record IsMeasured (open_one : OpenPacket) (packet : Packet) : Type 0 where
  pub len : open_one.len + length (front_of packet) ≡ length (body_of packet)
  pub starts : map (λ (start : ℕ). start + length (front_of packet)) open_one.starts.items ≡ reverse (map (λ (at : ℕ). at + 4) (open_places packet.text.levels))

-- a packet is written into a chunk
pub record IsWritingInto (site : Site) (account : Account) (view : WriterView) (pending : Pending) (fragment : OpenFragment) : Type 0 where
  pub packet : Packet
  pub older : List Packet
  pub packets : account.packets ≡ packet ∷ older
  pub unflushed : account.flushed ≡ false
  pub inside : InFragment site packet older view pending fragment []
  pub byte : HasByte fragment
  pub ids : HasIds fragment (MAX_PACKET_LEN + length (front_of packet) - length (body_of packet))

-- a packet is thrown away
pub record IsThrownAway (site : Site) (account : Account) (view : WriterView) (pending : Pending) : Type 0 where
  pub packet : Packet
  pub older : List Packet
  pub packets : account.packets ≡ packet ∷ older
  pub unflushed : account.flushed ≡ false
  pub lost : is_lost packet ≡ true
  pub idle : IsIdle site account view pending

-- the state of a writer is the one that its account, its view and its patches say
abbrev pub StateAgrees : Site → Account → WriterView → Pending → State → Type 0
StateAgrees site account view pending (Idle next_position) = (next_position ≡ length view.begun) × IsIdle site account view pending
StateAgrees site account view pending (Between chunk) = IsBehind site account view pending chunk
StateAgrees site account view pending (Writing fragment) = IsWritingInto site account view pending fragment
StateAgrees site account view pending (Dropping next_position) = (next_position ≡ length view.begun) × IsThrownAway site account view pending
StateAgrees site account view pending (Stalled next_position) = (next_position ≡ length view.begun) × IsStuck site account.packets view

-- whether a packet is begun, and how long it is
abbrev pub IsInPacketOf : List Packet → Option OpenPacket → Type 0
IsInPacketOf packets None = is_writing packets ≡ false
IsInPacketOf [] (Some open_one) = ⊥
IsInPacketOf (packet ∷ older) (Some open_one) = (packet.finished ≡ false) × IsMeasured open_one packet

-- a packet is begun
abbrev pub is_begun : Option OpenPacket → Bool
is_begun None = false
is_begun (Some open_one) = true

-- whether the state is one of a packet that is begun; a writer stalls in this packet or between two
abbrev pub is_inside : Option OpenPacket → State → Bool
is_inside packet (Idle next_position) = false
is_inside packet (Between chunk) = false
is_inside packet (Writing fragment) = true
is_inside packet (Dropping next_position) = true
is_inside packet (Stalled next_position) = is_begun packet

-- So many bytes of the packet need no further chunk: they fit into the held one, or are thrown away, or nothing is written.
abbrev pub NeedsNoChunk : State → ℕ → Type 0
NeedsNoChunk (Idle next_position) more = ⊥
NeedsNoChunk (Between chunk) more = ⊥
NeedsNoChunk (Writing fragment) more = fragment.at + more ≤ vec_len fragment.held.body.payload
NeedsNoChunk (Dropping next_position) more = ⊤
NeedsNoChunk (Stalled next_position) more = ⊤

-- its length so far, and how many messages are open in it
abbrev pub len_of : Option OpenPacket → ℕ
len_of None = 0
len_of (Some open_one) = open_one.len

-- how many nested messages are open
abbrev pub open_message_count : Option OpenPacket → ℕ
open_message_count None = 0
open_message_count (Some open_one) = length open_one.starts.items

-- a count stays at its type's end
abbrev pub counted : ℕ → ℕ
counted n = min n last_count

-- a writer is as the calls in its seat's view say
pub record Agrees (setup : Setup) (place : ℕ) (view : WriterView) (writer : Writer) : Type 0 where
  pub route : IsRoute setup place writer.route
  pub state : StateAgrees (site_of setup place writer.route) (account_of view.calls) view writer.pending writer.state
  pub packet : IsInPacketOf (account_of view.calls).packets writer.packet
  pub inside : is_inside writer.packet writer.state ≡ is_begun writer.packet
  pub follows : is_begun writer.packet ≡ false → writer.follows_loss ≡ newest_is_lost (account_of view.calls).packets
  pub begun : writer.begun ≡ counted (begun_count view.calls)
  pub dropped : writer.dropped ≡ counted (dropped_at_begin view.calls)

-- the same without its chunk, while a place for the next packet is found
pub record AgreesBetween (setup : Setup) (place : ℕ) (view : WriterView) (writer : Writer) : Type 0 where
  pub route : IsRoute setup place writer.route
  pub between : is_writing (account_of view.calls).packets ≡ false
  pub none_begun : is_begun writer.packet ≡ false
  pub follows : writer.follows_loss ≡ newest_is_lost (account_of view.calls).packets
  pub begun : writer.begun ≡ counted (begun_count view.calls)
  pub dropped : writer.dropped ≡ counted (dropped_at_begin view.calls)
