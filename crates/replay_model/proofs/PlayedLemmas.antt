-- What the lines lead to is an account, and its records are faithful to what the lines have writers emit.
use Rattle.std.proofs.Common.{◌≡◌, ◌∙◌, ℕ, suc, ◌+◌, ◌<◌, List, [], ◌∷◌, length, map, get_or, refl, sym, ap, subst, arith}
use Rattle.trace_base.specs.declared.policy.WriterSpec.{WriterSpec}
use Rattle.trace_model.specs.Buffers.{Buffer}
use Rattle.trace_model.specs.Delivery.{IsFaithfulOf}
use Rattle.trace_model.specs.Packets.{emissions_of}
use Rattle.model_laws.proofs.LossLemmas.{losses_change_no_shape}
use Rattle.chunk_plain.specs.Setup.{Setup}
use Rattle.chunk_plain.specs.Plain.{first_world}
use Rattle.chunk_plain.specs.Views.{WriterView, newcomer}
use Rattle.chunk_plain.specs.World.{World, writer}
use Rattle.chunk_plain.specs.Owned.{IsOwned}
use Rattle.chunk_plain.proofs.MadeLemmas.{first_owned}
use Rattle.scenario_text.specs.declared.scenario.NumberedLine.{NumberedLine}
use Rattle.scenario_text.specs.Scenario.{Parts}
use Rattle.scenario_text.specs.Accepted.{calls_asked}
use Rattle.scenario_text.specs.Emissions.{emitted_from, emitted_in}
use Rattle.scenario_text.specs.Raws.{HasNoRaw}
use Rattle.replay_model.specs.Acts.{Act}
use Rattle.replay_model.specs.ActNotes.{ActNote}
use Rattle.replay_model.specs.Plays.{Plays}
use Rattle.replay_model.specs.Played.{IsSetupOf, IsPlayed, buffer_specs, buffers_of, records_in}
use Rattle.replay_model.specs.Laws.{WritersWrote, WritersLose, ReplaysAreAccounts, EveryReplayIsFaithful}
use Rattle.replay_model.specs.Schedule.{schedule_of}
use Rattle.replay_model.proofs.AccountLemmas.{many_writers, standing_is_faithful, standing_is_account}
use Rattle.replay_model.proofs.FirstLemmas.{small_payload, first_stands}
use Rattle.replay_model.proofs.LosesLemmas.{schedule_loses}
use Rattle.replay_model.proofs.RawLemmas.{schedule_committed_none}
use Rattle.replay_model.proofs.StandsLemmas.{Stands, stands_does}

-- each world on the way stands as it should, and is owned
pub plays_stand : (setup : Setup) (buffers : List Buffer) (acts : List Act) (old new : World) (notes : List ActNote) → Plays setup buffers acts old new notes
    → Stands setup old → ∥ IsOwned old ∥₁ → Stands setup new × ∥ IsOwned new ∥₁
plays_stand setup buffers [] old new notes plays stands owned =
    (subst (Stands setup) (sym plays.0) stands, subst (λ (w : World). ∥ IsOwned w ∥₁) (sym plays.0) owned)
plays_stand setup buffers (act ∷ acts) old new notes plays stands owned =
    plays_stand setup buffers acts plays.0 new plays.1 plays.5 (stands_does setup buffers act old plays.0 plays.2 plays.3 stands) plays.3

pub played_stands : (scenario : Parts) (setup : Setup) (world : World) (notes : List ActNote) → IsPlayed scenario setup world notes
    → Stands setup world × ∥ IsOwned world ∥₁
played_stands scenario setup world notes played =
    plays_stand setup (buffers_of scenario setup) (schedule_of scenario) (first_world setup) world notes played.plays
    (first_stands setup (small_payload scenario setup played.setup_is)) ∣ first_owned setup ∣₁

pub writers_wrote : WritersWrote
writers_wrote scenario setup world notes played place inside = (played_stands scenario setup world notes played).0.wrote place inside

pub writers_lose : WritersLose
writers_lose scenario setup world notes played place = schedule_loses scenario setup (buffers_of scenario setup) world notes played.plays place

pub replays_are_accounts : ReplaysAreAccounts
replays_are_accounts scenario setup world notes played =
    let h = played_stands scenario setup world notes played in standing_is_account setup world h.1 h.0

-- the lists are the same where their elements are
emitted_are : (lines : List NumberedLine) (number : ℕ) (specs : List WriterSpec) (views : List WriterView) → length views ≡ length specs
    → ((k : ℕ) → k < length specs → emissions_of (get_or views k newcomer).calls ≡ emissions_of (calls_asked (number + k) lines))
    → map (λ (view : WriterView). emissions_of view.calls) views ≡ emitted_from lines number specs
emitted_are lines number [] [] many each = refl
emitted_are lines number [] (view ∷ views) many each = absurd (omega (arith, many))
emitted_are lines number (spec ∷ specs) [] many each = absurd (omega (arith, many))
emitted_are lines number (spec ∷ specs) (view ∷ views) many each =
    let zeroth : number + 0 ≡ number = omega arith in
    let first : emissions_of view.calls ≡ emissions_of (calls_asked number lines) =
    each 0 (omega arith) ∙ ap (λ (n : ℕ). emissions_of (calls_asked n lines)) zeroth in
    let rest = emitted_are lines (suc number) specs views (omega (arith, many))
    (λ k low. each (suc k) (omega (arith, low)) ∙ ap (λ (n : ℕ). emissions_of (calls_asked n lines)) (let same : number + suc k ≡ suc number + k = omega arith in same)) in
    ap (λ (packets : List (List ℕ)). packets ∷ map (λ (view : WriterView). emissions_of view.calls) views) first
    ∙ ap (λ (others : List (List (List ℕ))). emissions_of (calls_asked number lines) ∷ others) rest

pub setup_writers : (scenario : Parts) (setup : Setup) → IsSetupOf scenario setup → setup.writers ≡ scenario.writers
setup_writers scenario setup is = ap (λ (s : Setup). s.writers) is.laid

pub emitted_by : (scenario : Parts) (setup : Setup) (world : World) (notes : List ActNote) → IsPlayed scenario setup world notes
    → map (λ (view : WriterView). emissions_of view.calls) world.writers ≡ emitted_in scenario
emitted_by scenario setup world notes played =
    let h = played_stands scenario setup world notes played in
    emitted_are scenario.lines 1 scenario.writers world.writers
    (many_writers setup world h.1 h.0 ∙ ap (λ (specs : List WriterSpec). length specs) (setup_writers scenario setup played.setup_is))
    (λ k low.
    (losses_change_no_shape (calls_asked (suc k) scenario.lines) (writer world k).calls (writers_lose scenario setup world notes played k)).emitted
    ∙ ap (λ (n : ℕ). emissions_of (calls_asked n scenario.lines)) (let same : suc k ≡ 1 + k = omega arith in same))

pub every_replay_is_faithful : EveryReplayIsFaithful
every_replay_is_faithful scenario setup world notes played =
    let h = played_stands scenario setup world notes played in
    let own = standing_is_faithful setup (buffer_specs scenario) world h.1 h.0 in
    subst (λ (emitted : List (List (List ℕ))). IsFaithfulOf (HasNoRaw scenario.lines) emitted (records_in scenario setup world)) (emitted_by scenario setup world notes played)
    (record {
      known = own.known;
      told = λ place packets none. own.told place packets (schedule_committed_none scenario setup (buffers_of scenario setup) world notes place played.plays none);
    })
