-- Which chunk a writer holds, by the view of its seat.
use Rattle.std.proofs.Common.{◌≡◌, ◌∙◌, ℕ, true, false, not, List, [], ◌∷◌, ◌++◌, length, refl, sym, ap, subst, arith, length-append}
use Rattle.wire_varint.specs.Varint.{redundant}
use Rattle.trace_model.specs.Images.{Image}
use Rattle.trace_model.specs.Packets.{Packet, Account, account_of}
use Rattle.commit_body.specs.Pending.{Pending}
use Rattle.chunk_plain.specs.Views.{BegunChunk, Held, Completed, WriterView, Draft}
use Rattle.trace_writer.specs.declared.chunk.HeldChunk.{HeldChunk}
use Rattle.trace_writer.specs.declared.fragment.OpenFragment.{OpenFragment}
use Rattle.trace_writer.specs.declared.state.State.{State}
use Rattle.trace_writer.specs.declared.state.State.TheVariants.{Idle, Between, Writing, Dropping, Stalled}
use Rattle.trace_writer.specs.Agreement.{StateAgrees}
use Rattle.trace_writer.specs.Core.{last_is_held}
use Rattle.trace_writer.specs.Empty.{is_empty}
use Rattle.trace_writer.specs.Laws.{NewestIsHeld, HeldIsPublished, IsHeldImage}
use Rattle.trace_writer.specs.OwnSteps.{NoneHeld}
use Rattle.trace_writer.specs.Site.{Site, site_of}
use Rattle.trace_writer.specs.Filled.{frames}
use Rattle.trace_writer.specs.Outcomes.{held_image, held_images, fragment_payload}
use Rattle.trace_writer.specs.States.{InFragment, IsBehind}
use Rattle.trace_writer.proofs.holding.KeptChunks.{shown_none_held}
use Rattle.trace_writer.proofs.packets.Ending.{behind_payload}
use Rattle.trace_writer.proofs.holding.Payloads.{laid_behind, written_ended}
use Rattle.trace_writer.proofs.holding.Seats.{shows_long}

none_last : (begun : List BegunChunk) → NoneHeld begun → last_is_held begun ≡ false
none_last [] none = refl
none_last (Held chunk head ∷ begun) none = absurd none
none_last (Completed chunk content ∷ []) none = refl
none_last (Completed chunk content ∷ next ∷ begun) none = none_last (next ∷ begun) none

pub held_last : (begun : List BegunChunk) (chunk : ℕ) (head : Draft) → last_is_held (begun ++ Held chunk head ∷ []) ≡ true
held_last [] chunk head = refl
held_last (one ∷ []) chunk head = refl
held_last (one ∷ next ∷ begun) chunk head = held_last (next ∷ begun) chunk head

state_holds : (site : Site) (account : Account) (view : WriterView) (pending : Pending) (state : State) → StateAgrees site account view pending state
    → last_is_held view.begun ≡ not (is_empty state)
state_holds site account view pending (Idle next_position) agrees = none_last view.begun (shown_none_held site 0 view.begun agrees.1.pages agrees.1.shown)
state_holds site account view pending (Between chunk) agrees = ap last_is_held agrees.begun ∙ held_last agrees.completed chunk.held.chunk agrees.draft
state_holds site account view pending (Writing fragment) agrees =
    ap last_is_held agrees.inside.begun ∙ held_last agrees.inside.completed fragment.held.chunk agrees.inside.draft
state_holds site account view pending (Dropping next_position) agrees = none_last view.begun (shown_none_held site 0 view.begun agrees.1.idle.pages agrees.1.idle.shown)
state_holds site account view pending (Stalled next_position) agrees = none_last view.begun (shown_none_held site 0 view.begun agrees.1.pages agrees.1.shown)

pub newest_is_held : NewestIsHeld
newest_is_held setup place view writer agrees goes =
    state_holds (site_of setup place writer.route) (account_of view.calls) view writer.pending writer.state agrees.writes.state ∙ agrees.holds goes

-- What of it was published

between_published : (site : Site) (account : Account) (view : WriterView) (pending : Pending) (place : ℕ) (chunk : HeldChunk) → IsBehind site account view pending chunk
    → IsHeldImage view (held_image place chunk.held.position chunk.count chunk.continues chunk.held.body.payload.items)
between_published site account view pending place chunk behind =
    let many = ap (λ (xs : List (List ℕ)). length xs) behind.parts in
    record {
      completed = behind.completed;
      chunk = chunk.held.chunk;
      draft = behind.draft;
      begun = behind.begun;
      position = behind.position ∙ sym (shows_long site 0 behind.completed behind.pages behind.shown);
      head = behind.drafted.head;
      before = behind.before;
      count = omega (arith, behind.filled.count_is, many, length-append behind.before (behind.last ∷ []));
      rest = frames (behind.last ∷ []) ++ behind.filled.rest;
      payload = behind_payload site account view pending chunk behind;
      bytes = behind.drafted.bytes;
    }

writing_published : (site : Site) (packet : Packet) (older : List Packet) (view : WriterView) (pending : Pending) (place : ℕ) (fragment : OpenFragment)
    → InFragment site packet older view pending fragment []
    → IsHeldImage view (held_image place fragment.held.position fragment.count fragment.continues (fragment_payload fragment))
writing_published site packet older view pending place fragment w =
    record {
      completed = w.completed;
      chunk = fragment.held.chunk;
      draft = w.draft;
      begun = w.begun;
      position = w.position ∙ sym (shows_long site 0 w.completed w.pages w.shown);
      head = w.drafted.head;
      before = w.done;
      count = w.written.count_is;
      rest = redundant (length w.now) ++ (w.now ++ w.written.rest);
      payload = written_ended fragment.held.body.payload.items fragment.start fragment.at fragment.count w.done w.now w.written ∙ laid_behind w.done w.now w.written.rest;
      bytes = w.drafted.bytes;
    }

only_image : (one image : Image) → one ∷ [] ≡ image ∷ [] → one ≡ image
only_image one image e = let same : one ∷ [] ≡ image ∷ [] = e in cc

none_images : (image : Image) → [] ≡ image ∷ [] → ⊥
none_images image e = let same : [] ≡ image ∷ [] = e in cc

state_published : (site : Site) (account : Account) (view : WriterView) (pending : Pending) (place : ℕ) (state : State) (image : Image) → StateAgrees site account view pending state
    → held_images place state ≡ image ∷ [] → IsHeldImage view image
state_published site account view pending place (Idle next_position) image agrees is = absurd (none_images image is)
state_published site account view pending place (Between chunk) image agrees is =
    subst (IsHeldImage view) (only_image (held_image place chunk.held.position chunk.count chunk.continues chunk.held.body.payload.items) image is)
    (between_published site account view pending place chunk agrees)
state_published site account view pending place (Writing fragment) image agrees is =
    subst (IsHeldImage view) (only_image (held_image place fragment.held.position fragment.count fragment.continues (fragment_payload fragment)) image is)
    (writing_published site agrees.packet agrees.older view pending place fragment agrees.inside)
state_published site account view pending place (Dropping next_position) image agrees is = absurd (none_images image is)
state_published site account view pending place (Stalled next_position) image agrees is = absurd (none_images image is)

pub held_is_published : HeldIsPublished
held_is_published setup place view writer agrees image is =
    state_published (site_of setup place writer.route) (account_of view.calls) view writer.pending place writer.state image agrees.writes.state is
