-- Which claims a writer had made in vain where it lost a packet, and what it had done by then.
use Rattle.std.specs.Prelude.{◌≡◌, ℕ, suc, ◌≤◌, false, List, ◌++◌, length, map}
use Rattle.std.specs.List.{All, flat_map}
use Rattle.trace_model.specs.Calls.{Call, Begun, GivenUp}
use Rattle.chunk_plain.specs.Owned.{won_chunks}
use Rattle.chunk_plain.specs.Setup.{Setup, producer_of, range_of}
use Rattle.chunk_plain.specs.Views.{Ask, At, WriterView, chunk_of}
use Rattle.claim_arbiter.specs.Claiming.{AllClaimed, lost_asks}
use Rattle.trace_writer.specs.Helping.{rounds_for}
use Rattle.service_core.specs.Agreement.{spec_at}
use Rattle.schedule_laws.specs.Resting.{IsBetweenCalls}

-- What a writer has done goes on: its calls, its claims and its chunks are those before and these more. All of these claims were made once
-- the calls before were noted, and the chunks that were begun are those that they won, in their order.
pub record GoesOnInTurn (old new : WriterView) : Type 0 where
  pub calls : List Call
  pub asks : List Ask
  pub calls_are : new.calls ≡ old.calls ++ calls
  pub asks_are : new.asked ≡ old.asked ++ asks
  pub chunks_are : map chunk_of new.begun ≡ map chunk_of old.begun ++ won_chunks asks
  pub later : All (λ (ask : Ask). length old.calls ≤ ask.calls) asks

-- The last of these claims are so many whole rounds in vain, one behind the other, made when so many calls were noted: each asked for each
-- chunk of the producer once, in rising order, and found it claimed.
pub record EndsInVain (setup : Setup) (producer many : ℕ) (asks : List Ask) (calls : ℕ) : Type 0 where
  pub before : List Ask
  -- the page words that each round found
  pub rounds : List (List ℕ)
  pub count_is : length rounds ≡ many
  pub each : All (λ (words : List ℕ). (length words ≡ (range_of setup producer).count) × AllClaimed setup (range_of setup producer).first words) rounds
  pub asks_are : asks ≡ before ++ flat_map (lost_asks calls (range_of setup producer).first) rounds

-- The writer at this place lost a packet in a call that was made when so many calls were noted, and behind which there were so many. What
-- it had done behind it is an account of a writer between two calls: it had begun just the chunks that its claims had won, in their
-- order, and the last of its claims were rounds in vain: one, or one more than its policy lets it ask for help. From there it went on to
-- what it has done by now.
pub record HasVainRounds (setup : Setup) (place : ℕ) (view : WriterView) (calls behind : ℕ) : Type 0 where
  -- what it had done just behind the call that lost the packet
  pub front : WriterView
  pub noted : length front.calls ≡ behind
  pub between : IsBetweenCalls setup place front
  pub in_turn : won_chunks front.asked ≡ map chunk_of front.begun
  pub rounds : EndsInVain setup (producer_of setup place) (rounds_for (spec_at setup.writers place).policy) front.asked calls
  pub goes_on : GoesOnInTurn front view

-- Each loss has rounds of claims in vain of its own. They stand last among the claims of the very call that lost the packet, which is noted
-- behind them: where one was dropped, that is its begin; where one was given up, the call that is noted just before.
pub record LosesInVain (setup : Setup) (place : ℕ) (view : WriterView) : Type 0 where
  pub dropped : (index : ℕ) → At view.calls index (Begun false) → HasVainRounds setup place view index (suc index)
  pub given_up : (index : ℕ) → At view.calls index GivenUp → (call : ℕ) × (index ≡ suc call) × HasVainRounds setup place view call (suc index)
