-- How emitters go on with the lines of a scenario.
use Rattle.std.specs.Prelude.{◌≡◌, ℕ, ◌+◌, ◌≤◌, List, length, fold, Some, slice_get}
use Rattle.trace_base.specs.declared.limits.TheConstants.{MAX_SCENARIO_PACKET_BYTES}
use Rattle.trace_model.specs.Calls.{Call}
use Rattle.trace_model.specs.Packets.{Account, account_of, noted, nothing_yet}
use Rattle.emitted_packets.specs.declared.emitter.Emitter.{Emitter}
use Rattle.emitted_packets.specs.Emitting.{IsEmitting}
use Rattle.scenario_text.specs.declared.scenario.LineKind.{LineKind}
use Rattle.scenario_text.specs.declared.scenario.LineKind.TheVariants.{Packet, Begin, Add, Nest, Unnest, End, Flush}
use Rattle.scenario_text.specs.declared.scenario.NumberedLine.{NumberedLine}
use Rattle.scenario_text.specs.Accepted.{calls_asked, AreAccepted}
use Rattle.scenario_text.specs.Lengths.{lines_len}

-- ---- one writer

-- an emitter holds what the account says
abbrev pub Holds : Account → Emitter → Type 0
Holds account emitter = IsEmitting account emitter.bytes.items emitter.ends.items emitter.opens.items

-- the calls may come, and make its packets so many bytes longer
pub record MayTake (calls : List Call) (more : ℕ) (old : Emitter) : Type 0 where
  pub account : Account
  pub holds : Holds account old
  pub accepted : AreAccepted account calls
  pub short : length old.bytes.items + more ≤ MAX_SCENARIO_PACKET_BYTES

-- the calls came, made its packets so many bytes longer, and finished at most so many of them
pub record Takes (calls : List Call) (more packets : ℕ) (old new : Emitter) : Type 0 where
  pub holds : (account : Account) → Holds account old → AreAccepted account calls → Holds (fold noted account calls) new
  pub long : length new.bytes.items ≡ length old.bytes.items + more
  pub few : length new.ends.items ≤ length old.ends.items + packets

-- ---- lines

-- the writer that a line names, and 0 for a line that names none
abbrev pub named_writer : LineKind → ℕ
named_writer (Packet writer nodes) = writer
named_writer (Begin writer) = writer
named_writer (Add writer nodes) = writer
named_writer (Nest writer field) = writer
named_writer (Unnest writer) = writer
named_writer (End writer) = writer
named_writer (Flush writer) = writer
named_writer other = 0

-- the emitter of the writer with this number has taken what the lines ask of it
pub record HasTaken (number : ℕ) (lines : List NumberedLine) (emitter : Emitter) : Type 0 where
  pub holds : Holds (account_of (calls_asked number lines)) emitter
  pub long : length emitter.bytes.items ≤ lines_len lines
  pub few : length emitter.ends.items ≤ length lines

-- so have all of them
abbrev pub HaveTaken : List NumberedLine → List Emitter → Type 0
HaveTaken lines emitters = (place : ℕ) (emitter : Emitter) → slice_get emitters place ≡ Some emitter → HasTaken (place + 1) lines emitter

-- so many writers accept what the lines ask of them, and all that is within the limit of a scenario
pub record MayCome (writers : ℕ) (lines : List NumberedLine) : Type 0 where
  pub accepted : (place : ℕ) → place + 1 ≤ writers → AreAccepted nothing_yet (calls_asked (place + 1) lines)
  pub short : lines_len lines ≤ MAX_SCENARIO_PACKET_BYTES
