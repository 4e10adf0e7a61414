-- What a writer that agrees with its view has written.
use Rattle.std.proofs.Common.{◌≡◌, ◌∙◌, ℕ, ◌+◌, false, List, ◌∷◌, length, refl, sym, ap, subst, arith}
use Rattle.trace_model.specs.Images.{Image}
use Rattle.trace_model.specs.Packets.{packets_of}
use Rattle.chunk_plain.specs.Setup.{Setup, IsLaid, HasProducer, IsChunkOf, range_of, producer_of}
use Rattle.chunk_plain.specs.Views.{WriterView}
use Rattle.chunk_plain.specs.Histories.{completed_images}
use Rattle.world_model.specs.FirstBuffers.{payload_at}
use Rattle.world_model.specs.Accounts as accounts
use Rattle.trace_writer.specs.declared.state.State.{State}
use Rattle.trace_writer.specs.declared.state.State.TheVariants.{Idle, Between, Writing, Dropping, Stalled}
use Rattle.trace_writer.specs.declared.state.Writer.{Writer}
use Rattle.trace_writer.specs.Agreement.{Agrees}
use Rattle.trace_writer.specs.Core.{WriterAgrees}
use Rattle.trace_writer.specs.Empty.{is_stalled}
use Rattle.trace_writer.specs.Outcomes.{held_images, held_patches, NewestIsWhole}
use Rattle.trace_writer.proofs.seat_calls.CoreLemmas.{between_counts, writing_counts, idle_counts, dropping_counts, stalled_counts}
use Rattle.trace_writer.proofs.accounts.CutLaws.{nothing_is_kept_back}
use Rattle.trace_writer.proofs.holding.HeldLaws.{newest_is_held, held_is_published}
use Rattle.replay_model.specs.Does.{Wrote}

-- what was begun was completed, or is held
pub begun_many : (setup : Setup) (place : ℕ) (view : WriterView) (writer : Writer) → Agrees setup place view writer → (state : State) → writer.state ≡ state
    → length view.begun ≡ length (completed_images view.begun) + length (held_images place state)
begun_many setup place view writer agrees (Idle next_id) is =
    let counts = idle_counts setup place view writer next_id is agrees in let a = counts.begun_is in let b = counts.completed_is in omega arith
begun_many setup place view writer agrees (Between chunk) is =
    let counts = between_counts setup place view writer chunk is agrees in let a = counts.begun_is in let b = counts.completed_is in omega arith
begun_many setup place view writer agrees (Writing fragment) is =
    let counts = writing_counts setup place view writer fragment is agrees in let a = counts.begun_is in let b = counts.completed_is in omega arith
begun_many setup place view writer agrees (Dropping next_id) is =
    let counts = dropping_counts setup place view writer next_id is agrees in let a = counts.begun_is in let b = counts.completed_is in omega arith
begun_many setup place view writer agrees (Stalled next_id) is =
    let counts = stalled_counts setup place view writer next_id is agrees in let a = counts.begun_is in let b = counts.completed_is in omega arith

-- at most one chunk is held
one_held : (place : ℕ) (state : State) (one other : Image) (others : List Image) → held_images place state ≡ one ∷ other ∷ others → ⊥
one_held place (Idle next_id) one other others is = absurd (cc)
one_held place (Between chunk) one other others is = absurd (let long = ap (λ (xs : List Image). length xs) is in omega arith)
one_held place (Writing fragment) one other others is = absurd (let long = ap (λ (xs : List Image). length xs) is in omega arith)
one_held place (Dropping next_id) one other others is = absurd (cc)
one_held place (Stalled next_id) one other others is = absurd (cc)

-- the payload size of a writer's chunks is that of its producer
pub size_is : (setup : Setup) (place : ℕ) (view : WriterView) (writer : Writer) → WriterAgrees setup place view writer → IsLaid setup
    → HasProducer setup (producer_of setup place) → writer.route.payload_size ≡ payload_at setup place
size_is setup place view writer agrees laid producer =
    let some = laid.some (producer_of setup place) producer in
    let first : IsChunkOf setup (producer_of setup place) (range_of setup (producer_of setup place)).first = record { least = omega arith; below = omega arith } in
    sym (agrees.writes.route.sizes (range_of setup (producer_of setup place)).first first)
    ∙ laid.sizes (producer_of setup place) (range_of setup (producer_of setup place)).first first

-- What a writer has written that agrees with its view, and isn't stalled.
pub wrote : (setup : Setup) (place : ℕ) (view : WriterView) (writer : Writer) → WriterAgrees setup place view writer → is_stalled writer.state ≡ false
    → IsLaid setup → HasProducer setup (producer_of setup place) → Wrote setup place view
wrote setup place view writer agrees going laid producer =
    let size = size_is setup place view writer agrees laid producer in
    let most = agrees.writes.route.most in
    let kept = nothing_is_kept_back setup place view writer agrees going in
    let written : (cut : accounts.HasCut (payload_at setup place) place view (held_images place writer.state)) × NewestIsWhole (packets_of view.calls) cut.cut.pages =
    subst (λ (n : ℕ). (cut : accounts.HasCut n place view (held_images place writer.state)) × NewestIsWhole (packets_of view.calls) cut.cut.pages) size (
      record {
        unsent = held_patches writer.pending writer.state;
        cut = kept.0.cut;
        ends = kept.0.ends;
        possible = agrees.possible;
        small = omega arith;
      },
      kept.1,
    ) in
    record {
      held = held_images place writer.state;
      cut = written.0;
      whole = written.1;
      holds = newest_is_held setup place view writer agrees going;
      begun = begun_many setup place view writer agrees.writes writer.state refl;
      stands = λ image is. held_is_published setup place view writer agrees image is;
      only = one_held place writer.state;
      claims = agrees.claims;
    }
