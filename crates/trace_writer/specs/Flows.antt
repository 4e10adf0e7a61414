-- How the writing of a packet goes on, whichever packet it is: the code that streams bytes doesn't know it.
use Rattle.std.specs.Prelude.{◌≡◌, ℕ, ◌+◌, ◌<◌, Bool, true, false, List, [], ◌∷◌, ◌++◌, length, vec_len}
use Rattle.trace_base.specs.declared.policy.WriterPolicy.{WriterPolicy}
use Rattle.trace_base.specs.declared.policy.WriterPolicy.TheVariants.{Drops, Stalls, StallsThenDrops}
use Rattle.trace_model.specs.Packets.{Packet, Account, with_more, given_up_packet, body_of}
use Rattle.commit_body.specs.Pending.{Pending}
use Rattle.chunk_plain.specs.Setup.{Setup}
use Rattle.chunk_plain.specs.Views.{WriterView}
use Rattle.cut_steps.specs.Writing.{with_open}
use Rattle.trace_writer.specs.declared.flow.Flow.{Flow}
use Rattle.trace_writer.specs.declared.flow.Flow.TheVariants.{Going, Stopped}
use Rattle.trace_writer.specs.declared.fragment.OpenFragment.{OpenFragment}
use Rattle.trace_writer.specs.declared.route.Route.{Route}
use Rattle.trace_writer.specs.Site.{Site, site_of}
use Rattle.trace_writer.specs.Filled.{HasByte}
use Rattle.trace_writer.specs.Ids.{HasIds}
use Rattle.trace_writer.specs.States.{InFragment, IsIdle, IsStuck}

-- some packet is written
pub record IsInPacket (site : Site) (view : WriterView) (pending : Pending) (fragment : OpenFragment) : Type 0 where
  pub packet : Packet
  pub older : List Packet
  pub inside : InFragment site packet older view pending fragment []

-- The packet has to run on from the fragment: all of its chunk is filled, or no nested length fits any more; and there is a position for the next chunk.
pub record HasToRunOn (fragment : OpenFragment) : Type 0 where
  pub filled : vec_len fragment.held.body.payload < fragment.at + 4
  pub ids : HasIds fragment 1

-- the newest packet is given up, with all that its writer was asked to write of it
abbrev pub with_loss : Packet → List Packet → Account
with_loss packet older = record { packets = given_up_packet packet ∷ older; flushed = false }

-- No chunk is there for the rest of the newest packet: its writer gave it up, or has stalled.
abbrev pub StopsAs : WriterPolicy → Site → Packet → List Packet → WriterView → Pending → Type 0
StopsAs Drops site packet older view pending = IsIdle site (with_loss packet older) view pending
StopsAs Stalls site packet older view pending = IsStuck site (packet ∷ older) view
StopsAs (StallsThenDrops tries) site packet older view pending = IsIdle site (with_loss packet older) view pending

-- a packet stopped where no chunk was free: it is given up, or its writer stalled, as the policy says
abbrev pub IsStopped : Site → Packet → List Packet → WriterView → Pending → Type 0
IsStopped site packet older view pending = StopsAs site.policy site packet older view pending

-- Bytes of a packet

-- The bytes were written to the packet.
pub record PutsOn (site : Site) (old new : WriterView) (before after : Pending) (fragment next : OpenFragment) (bytes : List ℕ) : Type 0 where
  pub calls : new.calls ≡ old.calls
  pub holes : length after.holes ≡ length before.holes
  pub keeps : (packet : Packet) (older : List Packet) → InFragment site packet older old before fragment []
      → InFragment site (with_more bytes packet) older new after next []
  pub ids : (further : ℕ) → HasIds fragment (length bytes + further) → HasIds next further
  pub byte : HasByte fragment → HasByte next

-- The packet stops before all these bytes were written, whatever its writer is asked to write behind them.
pub record StopsIn (site : Site) (old new : WriterView) (before after : Pending) (fragment : OpenFragment) (bytes : List ℕ) : Type 0 where
  pub calls : new.calls ≡ old.calls
  pub stopped : (packet : Packet) (older : List Packet) (more : List ℕ) → InFragment site packet older old before fragment []
      → IsStopped site (with_more (bytes ++ more) packet) older new after
  pub stopped_nested : (packet : Packet) (older : List Packet) (more : List ℕ) → InFragment site packet older old before fragment []
      → IsStopped site (with_open (with_more (bytes ++ more) packet)) older new after

-- the packet doesn't go on
abbrev pub is_stopped : Flow → Bool
is_stopped (Going next) = false
is_stopped (Stopped next_position) = true

-- the bytes were written, or the packet stopped among them
abbrev pub Flows : Setup → ℕ → Route → WriterView → WriterView → Pending → Pending → OpenFragment → List ℕ → Flow → Type 0
Flows setup place route old new before after fragment bytes (Going next) =
    PutsOn (site_of setup place route) old new before after fragment next bytes
Flows setup place route old new before after fragment bytes (Stopped next_position) =
    StopsIn (site_of setup place route) old new before after fragment bytes × (next_position ≡ length new.begun)

-- The end of a chunk: all bytes of the payload are used, or a nested length comes next that doesn't fit

-- the packet goes on in a next chunk
pub record RunsOn (site : Site) (old new : WriterView) (before after : Pending) (fragment next : OpenFragment) : Type 0 where
  pub calls : new.calls ≡ old.calls
  pub holes : after.holes ≡ before.holes
  pub start : next.start ≡ 0
  pub at : next.at ≡ 4
  pub continues : next.continues ≡ true
  pub position : next.held.position ≡ fragment.held.position + 1
  pub size : vec_len next.held.body.payload ≡ site.size
  pub full : fragment.at ≡ site.size → (packet : Packet) (older : List Packet) → InFragment site packet older old before fragment []
      → InFragment site packet older new after next []
  pub length_next : (packet : Packet) (older : List Packet) → InFragment site packet older old before fragment []
      → InFragment site packet older new after next (length (body_of packet) ∷ [])

-- the packet stops where it stands, of which more was to be written
pub record StopsHere (site : Site) (old new : WriterView) (before after : Pending) (fragment : OpenFragment) : Type 0 where
  pub calls : new.calls ≡ old.calls
  pub full : fragment.at ≡ site.size → (packet : Packet) (older : List Packet) (rest : List ℕ) → 0 < length rest
      → InFragment site packet older old before fragment [] → IsStopped site (with_more rest packet) older new after
  pub full_nested : fragment.at ≡ site.size → (packet : Packet) (older : List Packet) (rest : List ℕ)
      → InFragment site packet older old before fragment [] → IsStopped site (with_open (with_more rest packet)) older new after
  pub length_next : (packet : Packet) (older : List Packet) → InFragment site packet older old before fragment []
      → IsStopped site (with_open packet) older new after

-- the packet runs on in a new chunk, or stops
abbrev pub Continues : Setup → ℕ → Route → WriterView → WriterView → Pending → Pending → OpenFragment → Flow → Type 0
Continues setup place route old new before after fragment (Going next) =
    RunsOn (site_of setup place route) old new before after fragment next
Continues setup place route old new before after fragment (Stopped next_position) =
    StopsHere (site_of setup place route) old new before after fragment × (next_position ≡ length new.begun)

-- Nested lengths

-- a nested length is set aside
pub record SetsAside (site : Site) (old new : WriterView) (before after : Pending) (fragment next : OpenFragment) : Type 0 where
  pub calls : new.calls ≡ old.calls
  pub holes : length after.holes ≡ length before.holes + 1
  pub keeps : (packet : Packet) (older : List Packet) → InFragment site packet older old before fragment []
      → InFragment site (with_open packet) older new after next []
  pub ids : (further : ℕ) → HasIds fragment (4 + further) → HasIds next further
  pub byte : HasByte next

-- the packet stops with the length that was to come
pub record CannotSetAside (site : Site) (old new : WriterView) (before after : Pending) (fragment : OpenFragment) : Type 0 where
  pub calls : new.calls ≡ old.calls
  pub stopped : (packet : Packet) (older : List Packet) → InFragment site packet older old before fragment []
      → IsStopped site (with_open packet) older new after

-- four bytes were set aside for a nested length, or the packet stopped
abbrev pub SetsLength : Setup → ℕ → Route → WriterView → WriterView → Pending → Pending → OpenFragment → Flow → Type 0
SetsLength setup place route old new before after fragment (Going next) =
    SetsAside (site_of setup place route) old new before after fragment next
SetsLength setup place route old new before after fragment (Stopped next_position) =
    CannotSetAside (site_of setup place route) old new before after fragment × (next_position ≡ length new.begun)

-- A call's part of a packet

-- what the call adds is written to the packet, so many bytes
pub record WritesOn (site : Site) (old new : WriterView) (before after : Pending) (fragment next : OpenFragment) (count : ℕ) (change : Packet → Packet) : Type 0 where
  pub calls : new.calls ≡ old.calls
  pub keeps : (packet : Packet) (older : List Packet) → InFragment site packet older old before fragment []
      → InFragment site (change packet) older new after next []
  pub ids : (further : ℕ) → HasIds fragment (count + further) → HasIds next further
  pub byte : HasByte fragment → HasByte next

-- the packet stops in the call
pub record CannotWrite (site : Site) (old new : WriterView) (before after : Pending) (fragment : OpenFragment) (change : Packet → Packet) : Type 0 where
  pub calls : new.calls ≡ old.calls
  pub stopped : (packet : Packet) (older : List Packet) → InFragment site packet older old before fragment []
      → IsStopped site (change packet) older new after

-- the field was written, or the packet stopped in it
abbrev pub Writes : Setup → ℕ → Route → WriterView → WriterView → Pending → Pending → OpenFragment → ℕ → (Packet → Packet) → Flow → Type 0
Writes setup place route old new before after fragment count change (Going next) =
    WritesOn (site_of setup place route) old new before after fragment next count change
Writes setup place route old new before after fragment count change (Stopped next_position) =
    CannotWrite (site_of setup place route) old new before after fragment change × (next_position ≡ length new.begun)
