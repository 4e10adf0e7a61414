-- Scenarios that are for a command.
use Rattle.std.proofs.Common.{◌≡◌, ◌∙◌, ℕ, false, Option, Some, None, List, [], ◌∷◌, ◌++◌, refl, ap}
use Rattle.command_words.specs.declared.command.Command.TheVariants.{Replay, Run, Clone}
use Rattle.scenario_text.specs.declared.scenario.LineKind.{LineKind}
use Rattle.scenario_text.specs.declared.scenario.LineKind.TheVariants.{Packet, Begin, Add, Nest, Unnest, End, Flush, Collect, Scrape, Close, Read, Request, CloneBuffer, Raw}
use Rattle.scenario_text.specs.declared.scenario.NumberedLine.{NumberedLine}
use Rattle.scenario_text.specs.Accepted.{closes}
use Rattle.scenario_text.specs.Clones.{clones_by, clones_in, ClonesNone}
use Rattle.scenario_text.specs.Raws.{is_raw, RawsNone}
use Rattle.thread_host.specs.Hosts.{ClosesNone}
use Rattle.tracesmb_top.specs.Refusals.{unfit_words, unfit_or, unfit_in}

-- a line that fits `run` closes no producer
fit_closes : (what : LineKind) → unfit_words Run what ≡ None → (producer : ℕ) → closes producer what ≡ false
unfolding unfit_words closes
fit_closes (Packet writer fields) fits producer = refl
fit_closes (Begin writer) fits producer = refl
fit_closes (Add writer fields) fits producer = refl
fit_closes (Nest writer field) fits producer = refl
fit_closes (Unnest writer) fits producer = refl
fit_closes (End writer) fits producer = refl
fit_closes (Flush writer) fits producer = refl
fit_closes (Collect number) fits producer = refl
fit_closes (Scrape number) fits producer = refl
fit_closes (Close number) fits producer = absurd (cc)
fit_closes (Read buffer limit) fits producer = refl
fit_closes Request fits producer = refl
fit_closes (CloneBuffer buffer) fits producer = absurd (cc)
fit_closes (Raw writer chunk) fits producer = absurd (cc)

-- a line that fits `replay` makes no clone
fit_clones : (what : LineKind) → unfit_words Replay what ≡ None → clones_by what ≡ []
unfolding unfit_words
fit_clones (Packet writer fields) fits = refl
fit_clones (Begin writer) fits = refl
fit_clones (Add writer fields) fits = refl
fit_clones (Nest writer field) fits = refl
fit_clones (Unnest writer) fits = refl
fit_clones (End writer) fits = refl
fit_clones (Flush writer) fits = refl
fit_clones (Collect number) fits = refl
fit_clones (Scrape number) fits = refl
fit_clones (Close number) fits = refl
fit_clones (Read buffer limit) fits = refl
fit_clones Request fits = refl
fit_clones (CloneBuffer buffer) fits = absurd (cc)
fit_clones (Raw writer chunk) fits = refl

-- a line that fits `run` commits no chunk
fit_raws : (what : LineKind) → unfit_words Run what ≡ None → is_raw what ≡ false
unfolding unfit_words is_raw
fit_raws (Packet writer fields) fits = refl
fit_raws (Begin writer) fits = refl
fit_raws (Add writer fields) fits = refl
fit_raws (Nest writer field) fits = refl
fit_raws (Unnest writer) fits = refl
fit_raws (End writer) fits = refl
fit_raws (Flush writer) fits = refl
fit_raws (Collect number) fits = refl
fit_raws (Scrape number) fits = refl
fit_raws (Close number) fits = refl
fit_raws (Read buffer limit) fits = refl
fit_raws Request fits = refl
fit_raws (CloneBuffer buffer) fits = refl
fit_raws (Raw writer chunk) fits = absurd (cc)

-- each line fits `clone`
all_fit : (what : LineKind) → unfit_words Clone what ≡ None
unfolding unfit_words
all_fit (Packet writer fields) = refl
all_fit (Begin writer) = refl
all_fit (Add writer fields) = refl
all_fit (Nest writer field) = refl
all_fit (Unnest writer) = refl
all_fit (End writer) = refl
all_fit (Flush writer) = refl
all_fit (Collect number) = refl
all_fit (Scrape number) = refl
all_fit (Close number) = refl
all_fit (Read buffer limit) = refl
all_fit Request = refl
all_fit (CloneBuffer buffer) = refl
all_fit (Raw writer chunk) = refl

-- nothing is said exactly where nothing is said of the line, nor of those behind it
first_fits : (said : Option (List ℕ)) (line : ℕ) (others : Option (List ℕ)) → unfit_or said line others ≡ None → (said ≡ None) × (others ≡ None)
first_fits None line others none = (refl, none)
first_fits (Some words) line others none = absurd (cc)

-- lines that are for threads close no producer
pub fit_closes_none : (lines : List NumberedLine) → unfit_in Run lines ≡ None → ClosesNone lines
fit_closes_none [] fits producer = refl
fit_closes_none (line ∷ lines) fits producer =
    let both = first_fits (unfit_words Run line.what) line.line (unfit_in Run lines) fits in
    rw (fit_closes line.what both.0 producer) (fit_closes_none lines both.1 producer)

-- and commit no chunk
pub fit_raws_none : (lines : List NumberedLine) → unfit_in Run lines ≡ None → RawsNone lines
fit_raws_none [] fits = refl
fit_raws_none (line ∷ lines) fits =
    let both = first_fits (unfit_words Run line.what) line.line (unfit_in Run lines) fits in
    rw (fit_raws line.what both.0) (fit_raws_none lines both.1)

-- lines that are for `replay` make no clones
pub fit_clones_none : (lines : List NumberedLine) → unfit_in Replay lines ≡ None → ClonesNone lines
fit_clones_none [] fits = refl
fit_clones_none (line ∷ lines) fits =
    let both = first_fits (unfit_words Replay line.what) line.line (unfit_in Replay lines) fits in
    ap (λ (numbers : List ℕ). numbers ++ clones_in lines) (fit_clones line.what both.0) ∙ fit_clones_none lines both.1

-- all lines are for `clone`
pub all_fit_clone : (lines : List NumberedLine) → unfit_in Clone lines ≡ None
all_fit_clone [] = refl
all_fit_clone (line ∷ lines) = ap (λ (said : Option (List ℕ)). unfit_or said line.line (unfit_in Clone lines)) (all_fit line.what) ∙ all_fit_clone lines
