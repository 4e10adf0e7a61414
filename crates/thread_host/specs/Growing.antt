-- How what a service knows grows, whose calls are made one after another by whoever holds its lock.
use Rattle.std.specs.Prelude.{◌≡◌, ◌⊎◌, ℕ, zero, suc, ◌≤◌, true, List, [], ◌∷◌, length}
use Rattle.std.specs.List.{flat_map}
use Rattle.trace_model.specs.History as model
use Rattle.chunk_plain.specs.Letters.{hears_answer, requests}
use Rattle.chunk_plain.specs.Setup.{Setup}
use Rattle.chunk_plain.specs.Views.{ServiceView, asked_in}
use Rattle.chunk_words.specs.Moves.{IsLastAnswer, IsNoOlder}
use Rattle.scenario_text.specs.declared.scenario.NumberedLine.{NumberedLine}
use Rattle.service_core.specs.Reading.{noted_read}
use Rattle.service_core.specs.Scraping.{TakesAndScrapes}
use Rattle.service_core.specs.Taking.{Takes, noted_more, places_of}
use Rattle.run_model.specs.Collected.{may_be_collected}
use Rattle.run_model.specs.Scraped.{is_scraped_by}

-- Complete chunks of a producer's writers were taken; somebody may have it collected: a line, or one of its writers, which asks for help.
abbrev pub IsCollect : Setup → List NumberedLine → ServiceView → ServiceView → Type 0
IsCollect setup lines old new =
    (producer taken : ℕ) × (may_be_collected setup lines producer ≡ true) × Takes setup (places_of producer 0 setup.writers) taken old new

-- Such were taken, and then the finished fragments of the chunks that these writers hold; one of the lines scrapes the producer.
abbrev pub IsScrape : Setup → List NumberedLine → ServiceView → ServiceView → Type 0
IsScrape setup lines old new = (producer taken : ℕ) × (is_scraped_by lines producer ≡ true) × TakesAndScrapes setup producer taken old new

-- Reads were noted, and nothing else.
abbrev pub IsReading : ServiceView → ServiceView → Type 0
IsReading old new = (reads : List model.Event) × (new ≡ noted_more old (flat_map noted_read reads))

-- An answer of the writer at this place was read that was its last one in some world, and nothing else: 0 and 0 where it had given none there. It is to a request that was made, and to no older
-- one than any that was read of the writer before; what was read to the same request is the same.
pub record HearsLast (place : ℕ) (old new : ServiceView) : Type 0 where
  pub flush : ℕ
  pub chunks : ℕ
  pub made : flush ≤ asked_in old.letters
  pub heard : IsNoOlder old place flush chunks
  pub last : IsLastAnswer new place flush chunks
  pub view : new ≡ hears_answer old place flush chunks

-- One answer was read of each of so many writers, in rising number, and nothing else.
abbrev pub IsHearing : (writers : ℕ) → ServiceView → ServiceView → Type 0
IsHearing zero old new = new ≡ old
IsHearing (suc place) old new = (between : ServiceView) × IsHearing place old between × HearsLast place between new

-- The next flush request was made, and nothing else.
abbrev pub IsRequesting : ServiceView → ServiceView → Type 0
IsRequesting old new = new ≡ requests old

-- by one call
abbrev pub GrowsOnce : Setup → List NumberedLine → ServiceView → ServiceView → Type 0
GrowsOnce setup lines old new =
    IsCollect setup lines old new
    ⊎ (IsScrape setup lines old new ⊎ (IsReading old new ⊎ (IsHearing (length setup.writers) old new ⊎ IsRequesting old new)))

-- The view is what these calls made of the earlier one: each collects a producer that somebody may have collected, scrapes one that one of
-- the lines scrapes, reads, reads an answer of each writer, or makes a flush request, and leaves one of these views to the next.
abbrev pub GrowsBy : Setup → List NumberedLine → List ServiceView → ServiceView → ServiceView → Type 0
GrowsBy setup lines [] old new = new ≡ old
GrowsBy setup lines (view ∷ views) old new = GrowsOnce setup lines old view × GrowsBy setup lines views view new

-- there are such calls
abbrev pub Grows : Setup → List NumberedLine → ServiceView → ServiceView → Type 0
Grows setup lines old new = ∥ ((views : List ServiceView) × GrowsBy setup lines views old new) ∥₁
