-- Which calls of a service note a part of a chunk: scrapes alone, and of the writers whose producer is scraped.
use Rattle.std.proofs.Common.{◌≡◌, ◌≢◌, ◌∙◌, ℕ, zero, suc, Bool, true, false, List, [], ◌∷◌, ◌++◌, length, refl, sym, ap, subst, arith, inl, inr}
use Rattle.std.specs.Prelude.{◌||◌}
use Rattle.std.specs.List.{flat_map}
use Rattle.std.specs.Coded.{Coded-set, codes}
use Rattle.std.proofs.Math.Logic.{∥∥₁_elim}
use Rattle.std.proofs.lemmas.Bool.{eq-eqb, ne_eqb}
use Rattle.std.proofs.Math.Bool.{or-false, or-true}
use Rattle.std.proofs.lemmas.List.Folds.{list_any-append}
use Rattle.trace_model.specs.Buffers.{Buffer}
use Rattle.trace_model.specs.Counts.{last_count}
use Rattle.trace_model.specs.Delivery.{Delivered}
use Rattle.trace_model.specs.History as model
use Rattle.trace_model.specs.History.{buffers_after}
use Rattle.trace_model.specs.Images.{Patch}
use Rattle.chunk_plain.specs.Histories.{history_of}
use Rattle.chunk_plain.specs.Setup.{Setup, producer_of, sequence_of}
use Rattle.chunk_plain.specs.Views.{Content, Noted, ServiceView}
use Rattle.scenario_text.specs.declared.scenario.LineKind.{LineKind}
use Rattle.scenario_text.specs.declared.scenario.LineKind.TheVariants as line
use Rattle.scenario_text.specs.declared.scenario.NumberedLine.{NumberedLine}
use Rattle.service_core.specs.Closing.{closes_of}
use Rattle.service_core.specs.Reading.{noted_read, reads_in}
use Rattle.service_core.specs.Scraping.{ScrapesOne, ScrapesEach, TakesAndScrapes}
use Rattle.service_core.specs.Taking.{Takes, places_of, patched_where, takings}
use Rattle.replay_model.proofs.SortedLemmas.{Among, place_among}
use Rattle.run_model.specs.Scraped.{ScrapedByLines, has_part, is_part_of, is_scraped_by, scrapes}
use Rattle.run_model.specs.Settled.{ClosesTo, ReadsTo}
use Rattle.run_model.specs.Stopped.{ReadsSomeTo}
use Rattle.thread_service.specs.Settling.{TakesRounds, TakesAllOut}
use Rattle.thread_host.specs.Growing.{GrowsOnce, GrowsBy, Grows}
use Rattle.thread_host.proofs.ReadAnswers.{hears_letters}

-- no part more was noted
abbrev pub AddsNoPart : ServiceView → ServiceView → Type 0
AddsNoPart old new = (sequence : ℕ) → has_part sequence new.events ≡ has_part sequence old.events

-- ---- by notes that are no parts

noted_none : (sequence : ℕ) (before notes all : List Noted) → all ≡ before ++ notes → has_part sequence notes ≡ false → has_part sequence all ≡ has_part sequence before
noted_none sequence before notes all is none =
    ap (has_part sequence) is
    ∙ list_any-append (is_part_of sequence) before notes
    ∙ ap (λ (b : Bool). has_part sequence before || b) none
    ∙ or-false (has_part sequence before)

patched_none : (sequence q id : ℕ) (patches : List Patch) → has_part sequence (patched_where patches q id) ≡ false
patched_none sequence q id [] = refl
patched_none sequence q id (patch ∷ patches) = refl

takings_none : (sequence q id : ℕ) (contents : List Content) → has_part sequence (takings q id contents) ≡ false
takings_none sequence q id [] = refl
takings_none sequence q id (content ∷ contents) =
    list_any-append (is_part_of sequence) (patched_where content.patches q id) (takings q (suc id) contents)
    ∙ ap (λ (b : Bool). b || has_part sequence (takings q (suc id) contents)) (patched_none sequence q id content.patches)
    ∙ takings_none sequence q (suc id) contents

closes_none : (sequence : ℕ) (places : List ℕ) → has_part sequence (closes_of places) ≡ false
closes_none sequence [] = refl
closes_none sequence (place ∷ places) = closes_none sequence places

reads_none : (sequence : ℕ) (events : List model.Event) → has_part sequence (flat_map noted_read events) ≡ false
reads_none sequence [] = refl
reads_none sequence (model.Arrives q id chunk ∷ events) = reads_none sequence events
reads_none sequence (model.ArrivesInPart q id chunk ∷ events) = reads_none sequence events
reads_none sequence (model.Patched q patches ∷ events) = reads_none sequence events
reads_none sequence (model.Committed image patches ∷ events) = reads_none sequence events
reads_none sequence (model.Read q limit ∷ events) = reads_none sequence events
reads_none sequence (model.Closed q ∷ events) = reads_none sequence events

-- ---- by the calls

pub takes_none : (setup : Setup) (places : List ℕ) (taken : ℕ) (old new : ServiceView) → Takes setup places taken old new → AddsNoPart old new
takes_none setup [] taken old new takes sequence = ap (λ (v : ServiceView). has_part sequence v.events) takes.1
takes_none setup (place ∷ places) taken old new takes sequence =
    takes_none setup places takes.1 takes.2 new takes.5 sequence
    ∙ noted_none sequence old.events (takings (sequence_of place) _ takes.4.contents) takes.2.events (ap (λ (v : ServiceView). v.events) takes.4.view)
    (takings_none sequence (sequence_of place) _ takes.4.contents)

rounds_none : (setup : Setup) (producer : ℕ) (rounds : List ℕ) (old new : ServiceView) → TakesRounds setup producer rounds old new → AddsNoPart old new
rounds_none setup producer [] old new rounds sequence = ap (λ (v : ServiceView). has_part sequence v.events) rounds
rounds_none setup producer (taken ∷ rounds) old new takes sequence =
    rounds_none setup producer rounds takes.0 new takes.2 sequence
    ∙ takes_none setup (places_of producer 0 setup.writers) taken old takes.0 takes.1 sequence

pub takes_out_none : (setup : Setup) (number : ℕ) (old new : ServiceView) → TakesAllOut setup number old new → AddsNoPart old new
takes_out_none setup zero old new takes sequence = ap (λ (v : ServiceView). has_part sequence v.events) takes
takes_out_none setup (suc number) old new takes sequence =
    rounds_none setup (suc number) (takes.2.rounds ++ 0 ∷ []) takes.0 new takes.2.takes sequence
    ∙ takes_out_none setup number old takes.0 takes.1 sequence

pub closes_to_none : (setup : Setup) (number : ℕ) (old new : ServiceView) → ClosesTo setup number old new → AddsNoPart old new
closes_to_none setup zero old new closes sequence = ap (λ (v : ServiceView). has_part sequence v.events) closes
closes_to_none setup (suc number) old new closes sequence =
    let last = closes.3 in
    let places : List ℕ = places_of (suc number) 0 setup.writers in
    noted_none sequence last.between.events (closes_of places) new.events (ap (λ (v : ServiceView). v.events) last.view) (closes_none sequence places)
    ∙ takes_none setup places closes.1 closes.0 last.between last.takes sequence
    ∙ closes_to_none setup number old closes.0 closes.2 sequence

pub reads_to_none : (setup : Setup) (first : List Buffer) (number : ℕ) (reads : List model.Event) (old new : ServiceView) → ReadsTo setup first number reads old new
    → AddsNoPart old new
reads_to_none setup first zero reads old new is sequence = ap (λ (v : ServiceView). has_part sequence v.events) is.1
reads_to_none setup first (suc number) reads old new is sequence =
    let here : List model.Event = reads_in setup (buffers_after first (history_of is.0)) (suc number) last_count in
    noted_none sequence is.0.events (flat_map noted_read here) new.events (ap (λ (v : ServiceView). v.events) is.3.1) (reads_none sequence here)
    ∙ reads_to_none setup first number is.1 old is.0 is.2 sequence

pub reads_some_none : (setup : Setup) (first : List Buffer) (number : ℕ) (old new : ServiceView) (next : Delivered) → ReadsSomeTo setup first number old new next
    → AddsNoPart old new
reads_some_none setup first number old new next some sequence =
    noted_none sequence some.between.events
    (flat_map noted_read (some.ends.firsts ++ model.Read some.ends.sequence some.ends.count ∷ [])) new.events
    (ap (λ (v : ServiceView). v.events) some.view) (reads_none sequence (some.ends.firsts ++ model.Read some.ends.sequence some.ends.count ∷ []))
    ∙ reads_to_none setup first some.read some.earlier old some.between some.reads sequence

-- ---- by a scrape

-- of no writer but these
one_apart : (setup : Setup) (one place : ℕ) (old new : ServiceView) → ScrapesOne setup one old new → one ≢ place
    → has_part (sequence_of place) new.events ≡ has_part (sequence_of place) old.events
one_apart setup one place old new (inl part) apart =
    noted_none (sequence_of place) old.events _ new.events (ap (λ (v : ServiceView). v.events) part.view)
    (ap (λ (b : Bool). b || false) (ne_eqb (sequence_of one) (sequence_of place) (λ same. apart (omega (arith, same)))))
one_apart setup one place old new (inr none) apart = ap (λ (v : ServiceView). has_part (sequence_of place) v.events) none.view

each_apart : (setup : Setup) (places : List ℕ) (place : ℕ) (old new : ServiceView) → ScrapesEach setup places old new
    → ((one : ℕ) → Among one places → one ≢ place) → has_part (sequence_of place) new.events ≡ has_part (sequence_of place) old.events
each_apart setup [] place old new each apart = ap (λ (v : ServiceView). has_part (sequence_of place) v.events) each
each_apart setup (one ∷ places) place old new each apart =
    each_apart setup places place each.0 new each.2 (λ other among. apart other (inr among))
    ∙ one_apart setup one place old each.0 each.1 (apart one (inl refl))

scrape_apart : (setup : Setup) (producer taken place : ℕ) (old new : ServiceView) → TakesAndScrapes setup producer taken old new → producer_of setup place ≢ producer
    → has_part (sequence_of place) new.events ≡ has_part (sequence_of place) old.events
scrape_apart setup producer taken place old new scrapes other =
    let places : List ℕ = places_of producer 0 setup.writers in
    each_apart setup places place scrapes.between new scrapes.scrapes
    (λ one among same.
    let is = place_among producer 0 setup.writers one among in
    let at : one ≡ is.offset = (let sum = is.place_is in omega (arith, sum)) in
    other (ap (producer_of setup) (sym same ∙ at) ∙ is.producer_is))
    ∙ takes_none setup places taken old scrapes.between scrapes.takes (sequence_of place)

-- ---- by calls one after another

pub none_scraped : (setup : Setup) (lines : List NumberedLine) (old new : ServiceView) → AddsNoPart old new → ScrapedByLines setup lines old
    → ScrapedByLines setup lines new
none_scraped setup lines old new none scraped place inside other = none (sequence_of place) ∙ scraped place inside other

once_scraped : (setup : Setup) (lines : List NumberedLine) (old new : ServiceView) → GrowsOnce setup lines old new → ScrapedByLines setup lines old
    → ScrapedByLines setup lines new
once_scraped setup lines old new (inl collect) scraped =
    none_scraped setup lines old new (takes_none setup (places_of collect.0 0 setup.writers) collect.1 old new collect.3) scraped
once_scraped setup lines old new (inr (inl scrape)) scraped =
    λ place inside other.
    scrape_apart setup scrape.0 scrape.1 place old new scrape.3
    (λ same. absurd (let wrong : true ≡ false = sym scrape.2 ∙ ap (is_scraped_by lines) (sym same) ∙ other in cc))
    ∙ scraped place inside other
once_scraped setup lines old new (inr (inr (inr (inl hears)))) scraped =
    none_scraped setup lines old new
    (λ sequence. ap (λ (v : ServiceView). has_part sequence v.events) (hears_letters (length setup.writers) old new hears).2) scraped
once_scraped setup lines old new (inr (inr (inr (inr asks)))) scraped =
    none_scraped setup lines old new (λ sequence. ap (λ (v : ServiceView). has_part sequence v.events) asks) scraped
once_scraped setup lines old new (inr (inr (inl read))) scraped =
    none_scraped setup lines old new
    (λ sequence. noted_none sequence old.events (flat_map noted_read read.0) new.events (ap (λ (v : ServiceView). v.events) read.1) (reads_none sequence read.0))
    scraped

by_scraped : (setup : Setup) (lines : List NumberedLine) (views : List ServiceView) (old new : ServiceView) → GrowsBy setup lines views old new
    → ScrapedByLines setup lines old → ScrapedByLines setup lines new
by_scraped setup lines [] old new same scraped = subst (λ (v : ServiceView). ScrapedByLines setup lines v) (sym same) scraped
by_scraped setup lines (view ∷ views) old new grows scraped =
    by_scraped setup lines views view new grows.1 (once_scraped setup lines old view grows.0 scraped)

scraped_prop : (setup : Setup) (lines : List NumberedLine) (view : ServiceView) → IsProp (ScrapedByLines setup lines view)
scraped_prop setup lines view = Prim.hlevel (Coded-set, codes)

pub grown_scraped : (setup : Setup) (lines : List NumberedLine) (old new : ServiceView) → Grows setup lines old new → ScrapedByLines setup lines old
    → ScrapedByLines setup lines new
grown_scraped setup lines old new grows scraped =
    ∥∥₁_elim grows (scraped_prop setup lines new) (λ (by : (views : List ServiceView) × GrowsBy setup lines views old new). by_scraped setup lines by.0 old new by.1 scraped)

-- ---- the line that scrapes

pub scraped_here : (before later lines : List NumberedLine) (one : NumberedLine) (producer : ℕ) → before ++ one ∷ later ≡ lines → one.what ≡ line.Scrape producer
    → is_scraped_by lines producer ≡ true
scraped_here before later lines one producer all is =
    ap (λ (ls : List NumberedLine). is_scraped_by ls producer) (sym all)
    ∙ list_any-append (λ (l : NumberedLine). scrapes producer l.what) before (one ∷ later)
    ∙ ap (λ (k : LineKind). is_scraped_by before producer || (scrapes producer k || is_scraped_by later producer)) is
    ∙ ap (λ (b : Bool). is_scraped_by before producer || (b || is_scraped_by later producer)) (eq-eqb producer producer refl)
    ∙ or-true (is_scraped_by before producer)
