-- What lines have taken of a producer none of whose writers asks for help.
use Rattle.std.proofs.Common.{◌≡◌, ◌∙◌, ℕ, ◌+◌, ◌*◌, ◌<◌, inl, inr, Bool, true, false, List, [], ◌∷◌, ◌++◌, length, refl, sym, ap, arith}
use Rattle.std.specs.Prelude.{◌==◌, ◌||◌, if◌then◌else◌}
use Rattle.std.proofs.lemmas.Bool.{cases_eq, eq-eqb, ne_eqb, true≢false}
use Rattle.chunk_plain.specs.Setup.{Setup, producer_of, range_of}
use Rattle.chunk_plain.specs.Views.{ServiceView, taken_of}
use Rattle.scenario_text.specs.declared.scenario.LineKind.{LineKind}
use Rattle.scenario_text.specs.declared.scenario.LineKind.TheVariants.{Packet, Begin, Add, Nest, Unnest, End, Flush, Collect, Scrape, Close, Read, Request, CloneBuffer, Raw}
use Rattle.scenario_text.specs.declared.scenario.NumberedLine.{NumberedLine}
use Rattle.run_model.specs.Collected.{CollectedByLines, collects, has_asker, is_collected_by, may_be_collected, taken_by_line, taken_by_lines, times_in}
use Rattle.run_model.specs.Scraped.{scrapes, is_scraped_by}

-- neither of two
or_none : (a b : Bool) → (a || b) ≡ false → (a ≡ false) × (b ≡ false)
or_none false b none = (refl, none)
or_none true b none = absurd (true≢false none)

-- another number
apart : (one other : ℕ) → (other == one) ≡ false → (one == other) ≡ false
apart one other differs = elim (cases_eq one other) [
  | inl same ↦ absurd (true≢false (sym (eq-eqb other one (sym same)) ∙ differs))
  | inr not ↦ ne_eqb one other not
]

-- a line that has chunks of another producer taken, or of none
times_none : (producer : ℕ) (kind : LineKind) (others : List ℕ) → collects producer kind ≡ false → scrapes producer kind ≡ false
    → times_in producer (taken_by_line kind ++ others) ≡ times_in producer others
times_none producer (Collect number) others gathers parts =
    ap (λ (b : Bool). (if b then 1 else 0) + times_in producer others) (apart number producer gathers) ∙ omega arith
times_none producer (Scrape number) others gathers parts =
    ap (λ (b : Bool). (if b then 1 else 0) + times_in producer others) (apart number producer parts) ∙ omega arith
times_none producer (Packet writer fields) others gathers parts = refl
times_none producer (Begin writer) others gathers parts = refl
times_none producer (Add writer fields) others gathers parts = refl
times_none producer (Nest writer field) others gathers parts = refl
times_none producer (Unnest writer) others gathers parts = refl
times_none producer (End writer) others gathers parts = refl
times_none producer (Flush writer) others gathers parts = refl
times_none producer (Close number) others gathers parts = refl
times_none producer (Read buffer limit) others gathers parts = refl
times_none producer Request others gathers parts = refl
times_none producer (CloneBuffer buffer) others gathers parts = refl
times_none producer (Raw writer chunk) others gathers parts = refl

-- a producer that no line collects or scrapes
uncollected : (producer : ℕ) (lines : List NumberedLine) → is_collected_by lines producer ≡ false → is_scraped_by lines producer ≡ false
    → times_in producer (taken_by_lines lines) ≡ 0
uncollected producer [] collected scraped = refl
uncollected producer (one ∷ lines) collected scraped =
    let here = or_none (collects producer one.what) (is_collected_by lines producer) collected in
    let there = or_none (scrapes producer one.what) (is_scraped_by lines producer) scraped in
    times_none producer one.what (taken_by_lines lines) here.0 there.0 ∙ uncollected producer lines here.1 there.1

-- Nothing is taken of a writer whose producer nobody may have collected.
pub none_taken : (setup : Setup) (lines : List NumberedLine) (view : ServiceView) → CollectedByLines setup lines view → (place : ℕ) → place < length setup.writers
    → may_be_collected setup lines (producer_of setup place) ≡ false → (taken_of view place).count ≡ 0
none_taken setup lines view collected place inside nobody =
    let producer : ℕ = producer_of setup place in
    let here = or_none (is_collected_by lines producer) (is_scraped_by lines producer || has_asker setup lines producer) nobody in
    let there = or_none (is_scraped_by lines producer) (has_asker setup lines producer) here.1 in
    let most = collected place inside there.1 in
    let none : times_in producer (taken_by_lines lines) * (range_of setup producer).count ≡ 0 =
    ap (λ (n : ℕ). n * (range_of setup producer).count) (uncollected producer lines here.0 there.0) ∙ omega arith in
    omega (arith, most, none)
