-- Of which writers a run may take chunks while its threads run, and how many.
use Rattle.std.specs.Prelude.{◌≡◌, ℕ, suc, ◌+◌, ◌*◌, ◌<◌, ◌≤◌, ◌==◌, ◌&&◌, ◌||◌, Bool, true, false, List, [], ◌∷◌, length, if◌then◌else◌}
use Rattle.std.specs.List.{flat_map, list_any}
use Rattle.trace_base.specs.declared.policy.WriterPolicy.{WriterPolicy}
use Rattle.trace_base.specs.declared.policy.WriterPolicy.TheVariants.{Drops, Stalls, StallsThenDrops}
use Rattle.chunk_plain.specs.Setup.{Setup, producer_of, range_of}
use Rattle.chunk_plain.specs.Views.{ServiceView, taken_of}
use Rattle.scenario_text.specs.declared.scenario.LineKind.{LineKind}
use Rattle.scenario_text.specs.declared.scenario.LineKind.TheVariants as line
use Rattle.scenario_text.specs.declared.scenario.NumberedLine.{NumberedLine}
use Rattle.scenario_text.specs.Accepted.{own_kinds}
use Rattle.service_core.specs.Agreement.{spec_at}
use Rattle.service_core.specs.Taking.{places_of}
use Rattle.run_model.specs.Scraped.{is_scraped_by}

-- whether a line collects the producer
abbrev pub collects : (producer : ℕ) → LineKind → Bool
collects producer (line.Collect number) = producer == number
collects producer other = false

-- one of the lines collects the producer
abbrev pub is_collected_by : List NumberedLine → ℕ → Bool
is_collected_by lines producer = list_any (λ line. collects producer line.what) lines

-- whether a writer with this policy asks for help where it needs a chunk and finds none free
abbrev pub asks_help : WriterPolicy → Bool
asks_help Drops = false
asks_help Stalls = true
asks_help (StallsThenDrops tries) = true

-- whether a line has its writer begin a packet
abbrev pub begins_packet : LineKind → Bool
begins_packet (line.Packet writer fields) = true
begins_packet (line.Begin writer) = true
begins_packet other = false

-- whether the writer with this number has such a line; one that has none never needs a chunk
abbrev pub begins_packets : (number : ℕ) → List NumberedLine → Bool
begins_packets number lines = list_any begins_packet (own_kinds number lines)

-- whether the writer at this place asks for help: its policy is to, and it begins a packet
abbrev pub may_ask : Setup → List NumberedLine → (place : ℕ) → Bool
may_ask setup lines place = asks_help (spec_at setup.writers place).policy && begins_packets (suc place) lines

-- whether one of the producer's writers does
abbrev pub has_asker : Setup → List NumberedLine → (producer : ℕ) → Bool
has_asker setup lines producer = list_any (may_ask setup lines) (places_of producer 0 setup.writers)

-- Somebody may have the producer's chunks taken while the threads run: a line that collects it; one that scrapes it, which collects first;
-- or one of its own writers, which asks for help. (No line of a run closes a producer.)
abbrev pub may_be_collected : Setup → List NumberedLine → (producer : ℕ) → Bool
may_be_collected setup lines producer =
    is_collected_by lines producer || (is_scraped_by lines producer || has_asker setup lines producer)

-- the producer whose chunks a line has taken: one that collects, and one that scrapes, which collects first
abbrev pub taken_by_line : LineKind → List ℕ
taken_by_line (line.Collect producer) = producer ∷ []
taken_by_line (line.Scrape producer) = producer ∷ []
taken_by_line other = []

-- the producers whose chunks these lines have taken, in their order
abbrev pub taken_by_lines : List NumberedLine → List ℕ
taken_by_lines lines = flat_map (λ (one : NumberedLine). taken_by_line one.what) lines

-- how often a producer stands among some
abbrev pub times_in : (producer : ℕ) → List ℕ → ℕ
times_in producer [] = 0
times_in producer (one ∷ others) = (if one == producer then 1 else 0) + times_in producer others

-- Of a writer at most so many chunks were taken as its producer has, times how often the producer stands among these. Of one of whose producer's
-- writers one asks for help nothing is said.
abbrev pub TakenAtMost : Setup → List NumberedLine → (producers : List ℕ) → ServiceView → Type 0
TakenAtMost setup lines producers view =
    (place : ℕ) → place < length setup.writers → has_asker setup lines (producer_of setup place) ≡ false
    → (taken_of view place).count ≤ times_in (producer_of setup place) producers * (range_of setup (producer_of setup place)).count

-- Where none of a producer's writers asks for help, no more chunks of a writer are taken than lines allow that collect or scrape it, each of them as
-- many as there are: so none where no line does.
abbrev pub CollectedByLines : Setup → List NumberedLine → ServiceView → Type 0
CollectedByLines setup lines view = TakenAtMost setup lines (taken_by_lines lines) view
