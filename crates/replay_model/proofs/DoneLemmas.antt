-- What is known of a scenario's world once its lines are done, whoever did them: all that its report counts and its reads deliver follows from that.
use Rattle.std.proofs.Common.{◌≡◌, ◌∙◌, ℕ, suc, ◌+◌, ◌<◌, true, false, List, [], length, Some, sym, ap}
use Rattle.std.specs.Prelude.{slice_get}
use Rattle.std.proofs.lemmas.Option.{slice_get_within, get_or_from_slice_get, slice_get-get_or}
use Rattle.trace_base.specs.declared.policy.WriterSpec.{WriterSpec}
use Rattle.trace_model.specs.Cut.{newest_goes_on}
use Rattle.trace_model.specs.Packets.{packets_of, lost_count}
use Rattle.trace_model.specs.Sequences.{Sequence, IsFresh, sequence_in, is_known}
use Rattle.model_laws.specs.Losses.{HasShapeOf}
use Rattle.model_laws.proofs.LossLemmas.{losses_change_no_shape}
use Rattle.delivery_laws.specs.DeliveryLaws.{IsAccountOf}
use Rattle.delivery_laws.specs.Orders as orders
use Rattle.delivery_laws.specs.WriterSheets.{sheets_of}
use Rattle.chunk_plain.specs.Setup.{Setup, no_writer}
use Rattle.chunk_plain.specs.World.{World, writer}
use Rattle.chunk_plain.specs.Histories.{history_of}
use Rattle.world_model.specs.FirstBuffers.{payload_at}
use Rattle.scenario_text.specs.Scenario.{Parts}
use Rattle.scenario_text.specs.Accepted.{calls_asked}
use Rattle.scenario_text.specs.Raws.{HasNoRaw}
use Rattle.trace_writer.specs.Claims.{KeepsClaims}
use Rattle.trace_writer.specs.Helping.{loses}
use Rattle.service_core.specs.Agreement.{spec_at}
use Rattle.replay_model.specs.ActNotes.{ActNote}
use Rattle.replay_model.specs.Played.{IsSetupOf, IsPlayed, buffers_of}
use Rattle.replay_model.specs.Written.{HasWritten}
use Rattle.replay_model.proofs.AccountLemmas.{many_writers, has_written, history_in_order}
use Rattle.replay_model.proofs.LostLemmas.{only_losers_lose}
use Rattle.replay_model.proofs.OwnedLemmas.{HasOwned, owned_itself}
use Rattle.replay_model.proofs.PlayedLemmas.{played_stands, setup_writers, writers_lose}
use Rattle.replay_model.proofs.RawLemmas.{schedule_committed_none}

-- The world's chunks are owned. Each writer has noted what the lines ask of it, with losses and flushes between packets, and loses a packet only if its
-- policy is to; its claims are of its producer's chunks, and its own chunks are a cut of its packets, whose pages come in order in the history,
-- where no line commits a chunk in its name.
pub record IsDone (scenario : Parts) (setup : Setup) (world : World) : Type 0 where
  pub setup_is : IsSetupOf scenario setup
  pub many : length world.writers ≡ length setup.writers
  pub owned : HasOwned world
  pub shape : (place : ℕ) → place < length setup.writers → HasShapeOf (calls_asked (suc place) scenario.lines) (writer world place).calls
  pub loses_by : (place : ℕ) → place < length setup.writers → 0 < lost_count (packets_of (writer world place).calls) → loses (spec_at setup.writers place).policy ≡ true
  pub claims : (place : ℕ) → place < length setup.writers → KeepsClaims setup place (writer world place)
  pub wrote : (place : ℕ) → place < length setup.writers → HasWritten setup place (writer world place)
  pub order : (place : ℕ) (inside : place < length setup.writers) → HasNoRaw scenario.lines place
      → orders.InOrder (sheets_of (newest_goes_on (packets_of (writer world place).calls)) (wrote place inside).cut.cut.pages) (place + 2) 0 false []
      (history_of world.service)

-- so it is of each replay
pub played_done : (scenario : Parts) (setup : Setup) (world : World) (notes : List ActNote) → IsPlayed scenario setup world notes → IsDone scenario setup world
played_done scenario setup world notes played =
    let h = played_stands scenario setup world notes played in
    record {
      setup_is = played.setup_is;
      many = many_writers setup world h.1 h.0;
      owned = owned_itself world h.1;
      shape = λ place inside.
          losses_change_no_shape (calls_asked (suc place) scenario.lines) (writer world place).calls (writers_lose scenario setup world notes played place);
      loses_by = λ place inside some. only_losers_lose scenario setup (buffers_of scenario setup) world notes played.plays place some;
      claims = λ place inside. (h.0.wrote place inside).claims;
      wrote = λ place inside. has_written setup world h.1 place (h.0.wrote place inside);
      order = λ place inside none.
          history_in_order setup world h.1 place (h.0.wrote place inside) h.0.sorted inside
          (schedule_committed_none scenario setup (buffers_of scenario setup) world notes place played.plays none);
    }

module _ (scenario : Parts) (setup : Setup) (world : World) (done : IsDone scenario setup world) where
  module _ (place : ℕ) (spec : WriterSpec) (get : slice_get scenario.writers place ≡ Some spec) where
    pub there : slice_get setup.writers place ≡ Some spec
    there = ap (λ (specs : List WriterSpec). slice_get specs place) (setup_writers scenario setup done.setup_is) ∙ get

    pub within : place < length setup.writers
    within = slice_get_within setup.writers place spec there

    pub spec_is : spec_at setup.writers place ≡ spec
    spec_is = get_or_from_slice_get setup.writers place spec no_writer there

  pub spec_there : (place : ℕ) → place < length setup.writers → slice_get scenario.writers place ≡ Some (spec_at setup.writers place)
  spec_there place inside =
      ap (λ (specs : List WriterSpec). slice_get specs place) (sym (setup_writers scenario setup done.setup_is))
      ∙ slice_get-get_or setup.writers place no_writer inside

  -- the account of a writer's sequence, in a buffer that has it
  pub account_of : (place : ℕ) (inside : place < length setup.writers) → HasNoRaw scenario.lines place → (sequences : List Sequence) (record_size : ℕ)
      → is_known sequences (place + 2) ≡ true → IsFresh (place + 2) record_size (sequence_in sequences (place + 2))
      → IsAccountOf (payload_at setup place) (writer world place).calls (done.wrote place inside).cut.cut.pages sequences (place + 2) record_size (history_of world.service)
  account_of place inside none sequences record_size known start = record {
    possible = (done.wrote place inside).cut.possible;
    cut = (done.wrote place inside).cut.cut.cut;
    known = known;
    start = start;
    order = done.order place inside none;
  }
