-- What a call of a writer does to the view of its seat, and the cut that the writer's chunks are.
use Rattle.std.specs.Prelude.{◌≡◌, ℕ, ◌+◌, ◌-◌, Bool, false, List, [], ◌∷◌, ◌++◌, ⊤}
use Rattle.wire_varint.specs.Varint.{redundant}
use Rattle.trace_base.specs.declared.policy.WriterPolicy.{WriterPolicy}
use Rattle.trace_base.specs.declared.policy.WriterPolicy.TheVariants.{Drops, Stalls, StallsThenDrops}
use Rattle.trace_model.specs.Calls.{Call, GivenUp}
use Rattle.trace_model.specs.Images.{Image, Patch, with_bytes}
use Rattle.trace_model.specs.Cut.{IsCut, last_runs_on, newest_goes_on}
use Rattle.trace_model.specs.Packets.{Packet, packets_of, is_lost, body_of}
use Rattle.trace_model.specs.Pages.{Page}
use Rattle.trace_model.specs.Row.{Chain, bytes_of}
use Rattle.trace_model.specs.Written.{chains_of}
use Rattle.commit_body.specs.Patches.{hole_chunks, with_lasts}
use Rattle.commit_body.specs.Pending.{Pending}
use Rattle.chunk_plain.specs.Views.{WriterView}
use Rattle.chunk_plain.specs.Steps.{notes_call}
use Rattle.chunk_plain.specs.Histories.{completed_images, completed_patches}
use Rattle.trace_writer.specs.declared.flow.Flow.{Flow}
use Rattle.trace_writer.specs.declared.flow.Flow.TheVariants as flow
use Rattle.trace_writer.specs.declared.fragment.OpenFragment.{OpenFragment}
use Rattle.trace_writer.specs.declared.state.State.{State}
use Rattle.trace_writer.specs.declared.state.State.TheVariants.{Idle, Between, Writing, Dropping, Stalled}
use Rattle.trace_writer.specs.declared.state.Writer.{Writer}
use Rattle.trace_writer.specs.Headers.{flags_value}

-- behind what was written for a call the call is noted, and that the packet was given up
abbrev pub StopsBehind : WriterPolicy → Writer → Writer → WriterView → WriterView → Call → ℕ → Type 0
StopsBehind Drops old new before after call next_position =
    (new ≡ record old { state = Dropping next_position }) × (after ≡ notes_call (notes_call before call) GivenUp)
StopsBehind Stalls old new before after call next_position = (new ≡ record old { state = Stalled next_position }) × (after ≡ notes_call before call)
StopsBehind (StallsThenDrops tries) old new before after call next_position =
    (new ≡ record old { state = Dropping next_position }) × (after ≡ notes_call (notes_call before call) GivenUp)

-- a packet begins behind the last one, or stops at its begin
abbrev pub GoesBehind : Writer → Writer → WriterView → WriterView → Call → Flow → Type 0
GoesBehind old new before after call (flow.Going fragment) = (new ≡ record old { state = Writing fragment })
    × (after ≡ notes_call before call)
GoesBehind old new before after call (flow.Stopped next_position) = StopsBehind old.route.spec.policy old new before after call next_position

-- The images of a writer

-- the held chunk so far, with the size of its last fragment put in
abbrev pub held_image : ℕ → ℕ → ℕ → Bool → List ℕ → Image
held_image place position count continues payload =
    record { sequence = place + 2; chunk_id = position; count = count; flags = flags_value continues false false; payload = payload }

-- the held payload with the size of its last fragment put in
abbrev pub fragment_payload : OpenFragment → List ℕ
fragment_payload fragment = with_bytes fragment.held.body.payload.items fragment.start (redundant (fragment.at - fragment.start - 4))

-- what a writer holds, as an image
abbrev pub held_images : ℕ → State → List Image
held_images place (Idle next_position) = []
held_images place (Between chunk) = held_image place chunk.held.position chunk.count chunk.continues chunk.held.body.payload.items ∷ []
held_images place (Writing fragment) = held_image place fragment.held.position fragment.count fragment.continues (fragment_payload fragment) ∷ []
held_images place (Dropping next_position) = []
held_images place (Stalled next_position) = []

-- the patches that weren't sent count as those of the held chunk
abbrev pub held_patches : Pending → State → List (List Patch)
held_patches pending (Idle next_position) = []
held_patches pending (Between chunk) = with_lasts (hole_chunks pending.holes) pending.unsent ∷ []
held_patches pending (Writing fragment) = with_lasts (hole_chunks pending.holes) pending.unsent ∷ []
held_patches pending (Dropping next_position) = []
held_patches pending (Stalled next_position) = []

-- what a writer completed, and what it holds as an image
abbrev pub images_so_far : ℕ → WriterView → Writer → List Image
images_so_far place view writer = completed_images view.begun ++ held_images place writer.state

-- the patches that a writer sent, and those that it has still to send
abbrev pub patches_so_far : WriterView → Writer → List (List Patch)
patches_so_far view writer = completed_patches view.begun ++ held_patches writer.pending writer.state

-- These images, the last of which is that of the held chunk if there is one, are a cut of the packets. Where none is held
-- the last of them runs on exactly where the newest packet goes on.
pub record HasCut (size sequence : ℕ) (calls : List Call) (images : List Image) (patches : List (List Patch)) (held : List Image) : Type 0 where
  pub cut : IsCut size sequence calls images patches
  pub ends : held ≡ [] → last_runs_on false cut.pages ≡ newest_goes_on (packets_of calls)

-- the bytes of the newest chain
abbrev pub newest_bytes : List Chain → List ℕ
newest_bytes [] = []
newest_bytes (chain ∷ older) = bytes_of chain.pieces

-- Unless the newest packet is lost, all that its writer was asked to write of it stands in the pages, with four bytes for each length that
-- is open.
abbrev pub NewestIsWhole : List Packet → List Page → Type 0
NewestIsWhole [] pages = ⊤
NewestIsWhole (packet ∷ older) pages = is_lost packet ≡ false → newest_bytes (chains_of pages) ≡ body_of packet
