-- Of which writers a run may know parts of a chunk: of those whose producer a line scrapes.
use Rattle.std.specs.Prelude.{◌≡◌, ℕ, ◌<◌, ◌==◌, Bool, false, List, length}
use Rattle.std.specs.List.{list_any}
use Rattle.chunk_plain.specs.Setup.{Setup, producer_of, sequence_of}
use Rattle.chunk_plain.specs.Views.{Noted, Partial, ServiceView}
use Rattle.scenario_text.specs.declared.scenario.LineKind.{LineKind}
use Rattle.scenario_text.specs.declared.scenario.LineKind.TheVariants as line
use Rattle.scenario_text.specs.declared.scenario.NumberedLine.{NumberedLine}

-- whether a line scrapes the producer
abbrev pub scrapes : (producer : ℕ) → LineKind → Bool
scrapes producer (line.Scrape number) = producer == number
scrapes producer other = false

-- one of the lines scrapes the producer
abbrev pub is_scraped_by : List NumberedLine → ℕ → Bool
is_scraped_by lines producer = list_any (λ line. scrapes producer line.what) lines

-- whether a note is of finished fragments of a chunk of the sequence, taken before it was complete
abbrev pub is_part_of : (sequence : ℕ) → Noted → Bool
is_part_of sequence (Partial other chunk_id count) = other == sequence
is_part_of sequence other = false

-- one of the notes is
abbrev pub has_part : (sequence : ℕ) → List Noted → Bool
has_part sequence notes = list_any (is_part_of sequence) notes

-- Finished fragments of a chunk that wasn't complete were noted of no writer but those whose producer one of these lines scrapes.
abbrev pub ScrapedByLines : Setup → List NumberedLine → ServiceView → Type 0
ScrapedByLines setup lines view =
    (place : ℕ) → place < length setup.writers → is_scraped_by lines (producer_of setup place) ≡ false
    → has_part (sequence_of place) view.events ≡ false
