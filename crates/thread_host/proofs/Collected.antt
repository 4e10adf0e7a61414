-- Who has the chunks of a producer taken.
use Rattle.std.proofs.Common.{◌≡◌, ◌∙◌, ℕ, zero, suc, ◌+◌, Bool, true, false, List, [], ◌∷◌, ◌++◌, refl, sym, ap, arith}
use Rattle.std.specs.Prelude.{◌==◌, ◌||◌, if◌then◌else◌}
use Rattle.std.specs.List.{list_any}
use Rattle.std.proofs.lemmas.Bool.{and_parts, eq-eqb, true≢false}
use Rattle.std.proofs.Math.Bool.{or-true}
use Rattle.std.proofs.lemmas.List.Folds.{list_any-append}
use Rattle.trace_base.specs.declared.policy.WriterSpec.{WriterSpec}
use Rattle.chunk_plain.specs.Setup.{Setup}
use Rattle.scenario_text.specs.declared.scenario.LineKind.{LineKind}
use Rattle.scenario_text.specs.declared.scenario.LineKind.TheVariants as line_kinds
use Rattle.scenario_text.specs.declared.scenario.NumberedLine.{NumberedLine}
use Rattle.service_core.specs.Agreement.{spec_at}
use Rattle.service_core.specs.Taking.{places_of}
use Rattle.run_model.specs.Collected.{begins_packets, collects, asks_help, has_asker, is_collected_by, may_ask, may_be_collected}
use Rattle.run_model.specs.Scraped.{is_scraped_by}

-- the line that collects
pub collected_here : (setup : Setup) (before later lines : List NumberedLine) (one : NumberedLine) (producer : ℕ) → before ++ one ∷ later ≡ lines
    → one.what ≡ line_kinds.Collect producer → may_be_collected setup lines producer ≡ true
collected_here setup before later lines one producer all is =
    ap (λ (b : Bool). b || (is_scraped_by lines producer || has_asker setup lines producer)) by_line
  where
    by_line : is_collected_by lines producer ≡ true
    by_line =
        ap (λ (ls : List NumberedLine). is_collected_by ls producer) (sym all)
        ∙ list_any-append (λ (l : NumberedLine). collects producer l.what) before (one ∷ later)
        ∙ ap (λ (k : LineKind). is_collected_by before producer || (collects producer k || is_collected_by later producer)) is
        ∙ ap (λ (b : Bool). is_collected_by before producer || (b || is_collected_by later producer)) (eq-eqb producer producer refl)
        ∙ or-true (is_collected_by before producer)

-- a writer that asks for help, at its place among those of its producer
any_behind : (is : Bool) (f : ℕ → Bool) (one : ℕ) (others : List ℕ) → list_any f others ≡ true → list_any f (if is then one ∷ others else others) ≡ true
any_behind true f one others any = ap (λ (b : Bool). f one || b) any ∙ or-true (f one)
any_behind false f one others any = any

asks_here : (f : ℕ → Bool) (producer : ℕ) (specs : List WriterSpec) (from index at : ℕ) → (spec_at specs index).producer ≡ producer
    → asks_help (spec_at specs index).policy ≡ true → at ≡ from + index → f at ≡ true → list_any f (places_of producer from specs) ≡ true
asks_here f producer [] from index at own asks is there = absurd (true≢false (sym asks))
asks_here f producer (spec ∷ specs) from zero at own asks is there =
    let first : at ≡ from = omega (arith, is) in
    ap (λ (b : Bool). list_any f (if b then from ∷ places_of producer (suc from) specs else places_of producer (suc from) specs)) (eq-eqb spec.producer producer own)
    ∙ ap (λ (b : Bool). b || list_any f (places_of producer (suc from) specs)) (ap f (sym first) ∙ there)
asks_here f producer (spec ∷ specs) from (suc index) at own asks is there =
    any_behind (spec.producer == producer) f from (places_of producer (suc from) specs)
    (asks_here f producer specs (suc from) index at own asks (omega (arith, is)) there)

pub asked_here : (setup : Setup) (lines : List NumberedLine) (place : ℕ) → may_ask setup lines place ≡ true
    → has_asker setup lines (spec_at setup.writers place).producer ≡ true
asked_here setup lines place asks =
    let policy = (and_parts (asks_help (spec_at setup.writers place).policy) (begins_packets (suc place) lines) asks).0 in
    asks_here (may_ask setup lines) (spec_at setup.writers place).producer setup.writers 0 place place refl policy (omega arith) asks

-- and so somebody may have its producer collected
pub asker_may : (setup : Setup) (lines : List NumberedLine) (producer : ℕ) → has_asker setup lines producer ≡ true → may_be_collected setup lines producer ≡ true
asker_may setup lines producer asks =
    ap (λ (b : Bool). is_collected_by lines producer || (is_scraped_by lines producer || b)) asks
    ∙ ap (λ (b : Bool). is_collected_by lines producer || b) (or-true (is_scraped_by lines producer))
    ∙ or-true (is_collected_by lines producer)
