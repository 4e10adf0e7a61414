-- What an answer to a flush request promises in a run: once as many chunks of its writer have come as it counts, the next read of all that is due
-- settles what became of each packet that the writer had emitted when it answered.
use Rattle.std.specs.Prelude.{◌≡◌, ℕ, ◌<◌, ◌≤◌, List, [], ◌∷◌, ◌++◌, length, take}
use Rattle.trace_model.specs.Calls.{Call, Flushed}
use Rattle.trace_model.specs.Causes.{fixed_after}
use Rattle.trace_model.specs.History as model
use Rattle.trace_model.specs.Packets.{packets_of, begun_count}
use Rattle.trace_model.specs.Pages.{Page}
use Rattle.trace_model.specs.Written.{chains_of}
use Rattle.delivery_laws.specs.FlushLaws.{arrivals_of, IsFlushed, AreSettled}
use Rattle.chunk_plain.specs.Histories.{history_of}
use Rattle.chunk_plain.specs.Setup.{Setup, sequence_of}
use Rattle.chunk_plain.specs.Views.{At, Reply}
use Rattle.chunk_plain.specs.World.{World, writer}
use Rattle.world_model.specs.FirstBuffers.{payload_at}
use Rattle.scenario_text.specs.Limits.{IsSetUp}
use Rattle.scenario_text.specs.Scenario.{Parts}
use Rattle.replay_model.specs.Played.{first_buffer}
use Rattle.replay_model.specs.Written.{HasWritten}
use Rattle.run_model.specs.Settled.{IsRun}

-- The calls that the writer at this place had noted before the flush of the answer are the first ones, and the first of its pages, as many as the
-- answer counts, are a cut of their packets. Behind these events the outcome is fixed of each of these packets: it is delivered, or absent
-- under one cause.
pub record IsSettledBehind (scenario : Parts) (setup : Setup) (world : World) (place : ℕ) (answer : Reply) (events : List model.Event) : Type 0 where
  pub wrote : HasWritten setup place (writer world place)
  pub before : List Call
  pub calls : take answer.calls (writer world place).calls ≡ before ++ Flushed ∷ []
  pub pages : List Page
  pub count_is : length pages ≡ answer.chunks
  pub flushed : IsFlushed (payload_at setup place) (writer world place).calls wrote.cut.cut.pages before pages
  pub settled : AreSettled (fixed_after (sequence_of place) (first_buffer scenario setup place) events) (packets_of before) (chains_of pages)

-- In a run, let as many chunks of a writer have come as one of its answers counts, and then let there be a read of its sequence whose limit is at
-- least the number of its packets. Behind the read each packet is settled that it had begun when it answered.
abbrev pub EveryRunFlushIsSettled : Type 0
EveryRunFlushIsSettled = (scenario : Parts) (setup : Setup) (world : World) → IsRun scenario setup world
    → IsSetUp scenario.buffers scenario.producers scenario.writers
    → (place n : ℕ) (answer : Reply) → place < length setup.writers → At (writer world place).letters.answers n answer
    → (early later : List model.Event) (limit : ℕ) → history_of world.service ≡ early ++ model.Read (sequence_of place) limit ∷ later
    → answer.chunks ≤ arrivals_of (sequence_of place) early → begun_count (writer world place).calls ≤ limit
    → IsSettledBehind scenario setup world place answer (early ++ model.Read (sequence_of place) limit ∷ [])
