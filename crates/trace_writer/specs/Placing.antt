-- Where a packet can begin, and what its begin does to the view of the writer's seat.
use Rattle.std.specs.Prelude.{◌≡◌, ◌+◌, ◌-◌, ◌*◌, ◌<◌, ◌≤◌, Bool, true, false, not, None, List, [], ◌∷◌, ◌++◌, length, vec_len, ⊤, Result, MatchResult}
use Rattle.trace_base.specs.declared.limits.TheConstants.{MAX_FRAGMENTS, MAX_PACKET_LEN}
use Rattle.trace_base.specs.declared.policy.WriterPolicy.{WriterPolicy}
use Rattle.trace_model.specs.Calls as call
use Rattle.trace_model.specs.Packets.{Packet, Account}
use Rattle.commit_body.specs.Pending.{Pending}
use Rattle.chunk_plain.specs.Views.{WriterView}
use Rattle.chunk_plain.specs.Drafts.{MayFollow, head_at}
use Rattle.trace_writer.specs.declared.begin.Place.{Place}
use Rattle.trace_writer.specs.declared.begin.Place.TheVariants.{Behind, Nowhere}
use Rattle.trace_writer.specs.declared.chunk.HeldChunk.{HeldChunk}
use Rattle.trace_writer.specs.declared.fault.Begun.{Begun}
use Rattle.trace_writer.specs.declared.fault.CallFault.{CallFault}
use Rattle.trace_writer.specs.declared.fault.CallFault.TheVariants as fault_of
use Rattle.trace_writer.specs.declared.fragment.OpenFragment.{OpenFragment}
use Rattle.trace_writer.specs.declared.state.State.{State}
use Rattle.trace_writer.specs.declared.state.State.TheVariants.{Idle, Between, Writing, Dropping as Throwing, Stalled}
use Rattle.trace_writer.specs.Asked.{begun_as, stops_with}
use Rattle.trace_writer.specs.Empty.{is_stalled}
use Rattle.trace_writer.specs.Helping.{refuses}
use Rattle.trace_writer.specs.Headers.{held_head}
use Rattle.trace_writer.specs.Drafted.{IsFit, CountsNext}
use Rattle.trace_writer.specs.Site.{Site}
use Rattle.trace_writer.specs.Ids.{last_position, least_filled}
use Rattle.trace_writer.specs.States.{InFragment, IsIdle, has_room}

-- a packet as it begins, without its front mark
pub record IsBare (account : Account) (packet : Packet) : Type 0 where
  pub kept : packet.kept ≡ true
  pub given_up : packet.given_up ≡ None
  pub finished : packet.finished ≡ false
  pub follows_flush : packet.follows_flush ≡ account.flushed
  pub levels : packet.text.levels ≡ [] ∷ []
  pub closed : packet.text.closed ≡ []

-- a fragment was started in the chunk
pub record IsStarted (chunk : HeldChunk) (fragment : OpenFragment) : Type 0 where
  pub held : fragment.held ≡ chunk.held
  pub start : fragment.start ≡ chunk.at
  pub at : fragment.at ≡ chunk.at + 4
  pub count : fragment.count ≡ chunk.count + 1
  pub continues : fragment.continues ≡ chunk.continues

-- A packet can begin in the chunk, behind what it holds, and has ids for all its bytes.
pub record IsRoomy (site : Site) (account : Account) (view : WriterView) (pending : Pending) (chunk : HeldChunk) : Type 0 where
  pub fit : IsFit site.setup view chunk chunk.count chunk.at
  pub follows : MayFollow (head_at view chunk.held.position) (held_head (chunk.count + 1) chunk.continues)
  pub room : chunk.at + 12 ≤ vec_len chunk.held.body.payload
  pub few : chunk.count < MAX_FRAGMENTS
  pub ids : MAX_PACKET_LEN + least_filled ≤ (last_position - chunk.held.position) * least_filled
  pub apart : chunk.continues ≡ true → 0 < chunk.at
  pub begins : (packet : Packet) (counted new : WriterView) (fragment : OpenFragment) → IsBare account packet → IsStarted chunk fragment
      → CountsNext chunk view counted → new.begun ≡ counted.begun
      → InFragment site packet account.packets new pending fragment []

-- a chunk is held in which a packet can begin
abbrev pub is_roomy : State → Bool
is_roomy (Idle next_position) = false
is_roomy (Between chunk) = has_room (vec_len chunk.held.body.payload) chunk
is_roomy (Writing fragment) = false
is_roomy (Throwing next_position) = false
is_roomy (Stalled next_position) = false

-- a packet can begin without a further chunk, or the writer begins none
abbrev pub BeginsHere : State → Type 0
BeginsHere (Idle next_position) = ⊥
BeginsHere (Between chunk) = has_room (vec_len chunk.held.body.payload) chunk ≡ true
BeginsHere (Writing fragment) = ⊥
BeginsHere (Throwing next_position) = ⊥
BeginsHere (Stalled next_position) = ⊤

-- a packet can begin there; or nowhere
abbrev pub IsPlace : Site → Account → WriterView → Pending → Place → Type 0
IsPlace site account view pending (Behind chunk) = IsRoomy site account view pending chunk
IsPlace site account view pending (Nowhere next_position) = (next_position ≡ length view.begun) × IsIdle site account view pending

-- there is a chunk to begin a packet in
abbrev pub is_behind : Place → Bool
is_behind (Behind chunk) = true
is_behind (Nowhere next_position) = false

-- A packet is begun at a place that was found. Where none was it is dropped, by a writer that loses packets, and one that stalls begins none.
pub record BeginsAt (policy : WriterPolicy) (place : Place) (answer : Result Begun CallFault) (old new : List call.Call) (after : State) : Type 0 where
  pub stops : stops_with answer ≡ not (is_behind place)
  pub calls : new ≡ old ++ begun_as (not (is_behind place)) policy
  pub stalls : is_stalled after ≡ refuses policy (not (is_behind place))
  pub answers : MatchResult answer (λ _. is_stalled after ≡ false) (λ fault. (fault ≡ fault_of.Stalled) × (is_stalled after ≡ true))
