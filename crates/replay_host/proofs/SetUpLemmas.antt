-- A scenario's set-up, as table and service are made for it.
use Rattle.std.proofs.Common.{◌≡◌, ℕ, suc, ◌+◌, ◌<◌, ◌≤◌, List, length, map, sym, subst, arith}
use Rattle.std.specs.List.{All, AllZip}
use Rattle.std.proofs.lemmas.Option.{slice_get-get_or}
use Rattle.trace_base.specs.declared.limits.TheConstants.{MAX_PAGES, MAX_PRODUCERS}
use Rattle.trace_base.specs.declared.policy.WriterSpec.{WriterSpec}
use Rattle.scenario_text.specs.declared.scenario.ProducerLine.{ProducerLine}
use Rattle.scenario_text.specs.declared.scenario.Scenario.{Scenario}
use Rattle.scenario_text.specs.Accepted.{AsksWell}
use Rattle.scenario_text.specs.Limits.{IsSetUp}
use Rattle.scenario_text.specs.Scenario.{IsScenario}
use Rattle.scenario_text.proofs.AcceptedLemmas.{scenario_is_accepted}
use Rattle.scenario_text.proofs.LimitLemmas.{scenario_is_set_up}
use Rattle.chunk_plain.specs.declared.setup.ProducerSpec.{ProducerSpec}
use Rattle.chunk_plain.specs.Laying.{setup_of}
use Rattle.chunk_plain.specs.Setup.{no_writer}
use Rattle.trace_buffer.specs.declared.answers.BufferSpec.{BufferSpec}
use Rattle.service_core.specs.Agreement.{IsRouted, spec_at}
use Rattle.service_core.specs.Making.{HaveSizes, RecordsFit}
use Rattle.replay_model.specs.Played.{IsSpecOf}
use Rattle.replay_model.proofs.SpecLemmas.{some_page, few_pages}
use Rattle.replay_host.specs.Making.{buffer_asked}
use Rattle.replay_host.proofs.MakingLemmas.{few_producers, have_sizes, are_routed, records_fit}

-- each writer accepts what the lines ask of it
pub asks_well : (scenario : Scenario) → IsScenario scenario → (place : ℕ) → place < length scenario.writers.items
    → AsksWell scenario.lines (suc place) (spec_at scenario.writers.items place)
asks_well scenario is place below =
    subst (λ (n : ℕ). AsksWell scenario.lines n (spec_at scenario.writers.items place))
    (let same : place + 1 ≡ suc place = omega arith in same)
    (scenario_is_accepted scenario is place (spec_at scenario.writers.items place)
    (slice_get-get_or scenario.writers.items place no_writer below))

-- what is made of the producers, as it is passed on
module _ (scenario : Scenario) (is : IsScenario scenario) (lines : List ProducerLine) (made_of : List ProducerSpec)
    (lines_are : lines ≡ scenario.producers.items)
    (made : AllZip IsSpecOf lines made_of) where
  set_up : IsSetUp scenario.buffers.items scenario.producers.items scenario.writers.items
  set_up = scenario_is_set_up scenario is

  pub made_as_asked : AllZip IsSpecOf scenario.producers.items made_of
  made_as_asked = subst (λ (ls : List ProducerLine). AllZip IsSpecOf ls made_of) lines_are made

  pub specs_few : (specs : List ProducerSpec) → specs ≡ made_of → length specs ≤ MAX_PRODUCERS
  specs_few specs same =
      subst (λ (ps : List ProducerSpec). length ps ≤ MAX_PRODUCERS) (sym same)
      (few_producers scenario.buffers.items scenario.producers.items scenario.writers.items made_of set_up made_as_asked)

  pub specs_some_page : (specs : List ProducerSpec) → specs ≡ made_of → All (λ (p : ProducerSpec). 1 ≤ p.pages) specs
  specs_some_page specs same =
      subst (All (λ (p : ProducerSpec). 1 ≤ p.pages)) (sym same)
      (some_page scenario.producers.items made_of set_up.are_producers made_as_asked)

  pub specs_few_pages : (specs : List ProducerSpec) → specs ≡ made_of → All (λ (p : ProducerSpec). p.pages ≤ MAX_PAGES) specs
  specs_few_pages specs same =
      subst (All (λ (p : ProducerSpec). p.pages ≤ MAX_PAGES)) (sym same)
      (few_pages scenario.producers.items made_of set_up.are_producers made_as_asked)

  module _ (buffers : List BufferSpec) (specs : List ProducerSpec) (writers : List WriterSpec)
      (buffers_are : buffers ≡ map buffer_asked scenario.buffers.items)
      (specs_are : specs ≡ made_of) (writers_are : writers ≡ scenario.writers.items) where
    pub specs_routed : IsRouted (setup_of specs writers) (length buffers)
    specs_routed =
        subst (λ (bs : List BufferSpec). IsRouted (setup_of specs writers) (length bs)) (sym buffers_are)
        (subst (λ (ps : List ProducerSpec). IsRouted (setup_of ps writers) (length (map buffer_asked scenario.buffers.items)))
        (sym specs_are)
        (subst (λ (ws : List WriterSpec). IsRouted (setup_of made_of ws) (length (map buffer_asked scenario.buffers.items)))
        (sym writers_are)
        (are_routed scenario.buffers.items scenario.producers.items scenario.writers.items made_of set_up made_as_asked)))

    pub specs_fit : RecordsFit (setup_of specs writers) buffers
    specs_fit =
        subst (RecordsFit (setup_of specs writers)) (sym buffers_are)
        (subst (λ (ps : List ProducerSpec). RecordsFit (setup_of ps writers) (map buffer_asked scenario.buffers.items)) (sym specs_are)
        (subst (λ (ws : List WriterSpec). RecordsFit (setup_of made_of ws) (map buffer_asked scenario.buffers.items)) (sym writers_are)
        (records_fit scenario.buffers.items scenario.producers.items scenario.writers.items made_of set_up made_as_asked)))

    pub specs_sizes : HaveSizes buffers
    specs_sizes = subst HaveSizes (sym buffers_are) (have_sizes scenario.buffers.items set_up.are_buffers)
