-- What the service's own lines have it do while threads run, one behind the other, and what comes between them.
use Rattle.std.specs.Prelude.{◌≡◌, ◌⊎◌, ℕ, Bool, true, false, List, [], ◌∷◌, ◌++◌}
use Rattle.std.specs.List.{filter, flat_map}
use Rattle.trace_model.specs.Buffers.{Buffer}
use Rattle.trace_model.specs.Delivery.{Delivered}
use Rattle.trace_model.specs.History as model
use Rattle.trace_model.specs.History.{buffers_after}
use Rattle.chunk_plain.specs.Histories.{history_of}
use Rattle.chunk_plain.specs.Letters.{hears_answer, requests}
use Rattle.chunk_plain.specs.Setup.{Setup}
use Rattle.chunk_plain.specs.Views.{ServiceView}
use Rattle.scenario_text.specs.declared.scenario.LineKind.{LineKind}
use Rattle.scenario_text.specs.declared.scenario.LineKind.TheVariants.{Collect, Scrape, Read, Request}
use Rattle.scenario_text.specs.declared.scenario.NumberedLine.{NumberedLine}
use Rattle.service_core.specs.Reading.{noted_read, reads_in}
use Rattle.service_core.specs.Scraping.{TakesAndScrapes}
use Rattle.service_core.specs.Taking.{Takes, noted_more, places_of}
use Rattle.run_model.specs.Collected.{has_asker}
use Rattle.run_model.specs.Reads.{ReadsUpTo}

-- whether the service plays the line itself
abbrev pub is_service_line : LineKind → Bool
is_service_line (Collect producer) = true
is_service_line (Scrape producer) = true
is_service_line (Read buffer limit) = true
is_service_line Request = true
is_service_line _ = false

-- the lines that it plays itself, in their order
abbrev pub service_lines : List NumberedLine → List NumberedLine
service_lines lines = filter (λ (line : NumberedLine). is_service_line line.what) lines

-- ---- between lines

-- What may come between two of them: complete chunks are taken of the writers of a producer one of whose writers asks for help, or an answer of a
-- writer to flush requests is read.
abbrev pub ComesBetween : Setup → List NumberedLine → (old new : ServiceView) → Type 0
ComesBetween setup lines old new =
    ((producer taken : ℕ) × (has_asker setup lines producer ≡ true) × Takes setup (places_of producer 0 setup.writers) taken old new)
    ⊎ ((place flush chunks : ℕ) × (new ≡ hears_answer old place flush chunks))

-- Such came, one behind the other, each of which left one of these views to the next; and nothing else.
abbrev pub GoesBetween : Setup → List NumberedLine → List ServiceView → (old new : ServiceView) → Type 0
GoesBetween setup lines [] old new = new ≡ old
GoesBetween setup lines (view ∷ views) old new = ComesBetween setup lines old view × GoesBetween setup lines views view new

-- ---- lines

-- What one line does: it takes the complete chunks of the producer's writers, in rising number; or it takes them, and then the finished fragments of the
-- chunks that these writers hold; or it reads the buffer, by what it holds then; or it makes the next flush request. Any other line is a writer's, and
-- does nothing here.
abbrev pub PlaysLine : Setup → (first : List Buffer) → LineKind → (old new : ServiceView) → Type 0
PlaysLine setup first (Collect producer) old new = (taken : ℕ) × Takes setup (places_of producer 0 setup.writers) taken old new
PlaysLine setup first (Scrape producer) old new = (taken : ℕ) × TakesAndScrapes setup producer taken old new
PlaysLine setup first (Read buffer limit) old new =
    new ≡ noted_more old (flat_map noted_read (reads_in setup (buffers_after first (history_of old)) buffer limit))
PlaysLine setup first Request old new = new ≡ requests old
PlaysLine setup first _ old new = new ≡ old

-- These lines were played, one behind the other, and nothing came besides but what may come between lines of the scenario.
abbrev pub PlaysLines : Setup → (first : List Buffer) → (scenario lines : List NumberedLine) → (old new : ServiceView) → Type 0
PlaysLines setup first scenario [] old new = (views : List ServiceView) × GoesBetween setup scenario views old new
PlaysLines setup first scenario (line ∷ lines) old new =
    (views : List ServiceView) × (here there : ServiceView) × GoesBetween setup scenario views old here × PlaysLine setup first line.what here there
    × PlaysLines setup first scenario lines there new

-- The service played all its lines, in their order, between these two views.
abbrev pub PlaysAll : Setup → (first : List Buffer) → (scenario : List NumberedLine) → (old new : ServiceView) → Type 0
PlaysAll setup first scenario old new = ∥ PlaysLines setup first scenario (service_lines scenario) old new ∥₁

-- ---- a write failed

-- The first of these lines were played, then the reads of the next one up to a record whose write failed, and no line behind that.
pub record PlaysUpTo (setup : Setup) (first : List Buffer) (scenario lines : List NumberedLine) (old new : ServiceView) : Type 0 where
  pub done : List NumberedLine
  pub line : NumberedLine
  pub later : List NumberedLine
  pub all : lines ≡ done ++ line ∷ later
  pub here : ServiceView
  pub there : ServiceView
  pub plays : PlaysLines setup first scenario done old here
  pub next : Delivered
  pub ends : ReadsUpTo setup first line.what (history_of here) (history_of there) next
  pub view : there ≡ noted_more here (flat_map noted_read (ends.firsts ++ model.Read ends.sequence ends.count ∷ []))
  pub views : List ServiceView
  pub behind : GoesBetween setup scenario views there new

-- So it was with the service's own lines.
abbrev pub PlaysSome : Setup → (first : List Buffer) → (scenario : List NumberedLine) → (old new : ServiceView) → Type 0
PlaysSome setup first scenario old new = ∥ PlaysUpTo setup first scenario (service_lines scenario) old new ∥₁
