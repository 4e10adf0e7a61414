-- What a run's writers wrote and its service noted: an account of each sequence.
use Rattle.std.proofs.Common.{◌≡◌, ◌∙◌, ℕ, suc, ◌+◌, ◌<◌, Bool, true, false, List, [], length, Some, refl, sym, ap, subst, arith}
use Rattle.std.specs.Prelude.{slice_get}
use Rattle.std.proofs.lemmas.Option.{slice_get_within}
use Rattle.std.proofs.lemmas.Slice.Zip.{AllZip-long}
use Rattle.trace_base.specs.declared.policy.WriterPolicy.{WriterPolicy}
use Rattle.trace_base.specs.declared.policy.WriterPolicy.TheVariants.{Drops, Stalls, StallsThenDrops}
use Rattle.trace_base.specs.declared.policy.WriterSpec.{WriterSpec}
use Rattle.trace_model.specs.Packets.{packets_of, lost_count}
use Rattle.trace_model.specs.Cut.{newest_goes_on}
use Rattle.model_laws.specs.Losses.{HasShapeOf}
use Rattle.model_laws.proofs.LossLemmas.{losses_change_no_shape}
use Rattle.delivery_laws.specs.Orders as orders
use Rattle.delivery_laws.specs.WriterSheets.{sheets_of}
use Rattle.chunk_plain.specs.Setup.{Setup, IsLaid, sequence_of}
use Rattle.chunk_plain.specs.World.{World, writer}
use Rattle.chunk_plain.specs.Histories.{history_of}
use Rattle.chunk_plain.proofs.LayingLemmas.{setup_laid}
use Rattle.world_model.specs.FirstBuffers.{payload_at}
use Rattle.world_model.specs.Accounts.{all_images, InOrder}
use Rattle.world_model.proofs.FaithfulLemmas.{order_events}
use Rattle.scenario_text.specs.Scenario.{Parts}
use Rattle.scenario_text.specs.Accepted.{calls_asked}
use Rattle.scenario_text.specs.Limits.{IsSetUp}
use Rattle.trace_writer.specs.Helping.{loses}
use Rattle.service_core.specs.Agreement.{spec_at}
use Rattle.replay_model.specs.Played.{IsSpecOf, IsSetupOf}
use Rattle.replay_model.specs.Written.{HasWritten}
use Rattle.replay_model.proofs.DoneLemmas.{IsDone}
use Rattle.replay_model.proofs.OwnedLemmas.{named, learnt, finds, in_order}
use Rattle.replay_model.proofs.PlayedLemmas.{setup_writers}
use Rattle.replay_model.proofs.SpecLemmas.{some_page, few_pages}
use Rattle.schedule_laws.proofs.BetweenLemmas.{has_written}
use Rattle.run_model.specs.Settled.{HasDoneAll}

-- ---- the set-up

-- within its limits a scenario's set-up is laid out
pub laid_out : (scenario : Parts) (setup : Setup) → IsSetupOf scenario setup → IsSetUp scenario.buffers scenario.producers scenario.writers → IsLaid setup
laid_out scenario setup is set_up =
    let long = AllZip-long IsSpecOf scenario.producers is.specs is.made in
    let few = set_up.few_producers in
    subst IsLaid (sym is.laid)
    (setup_laid is.specs scenario.writers (omega (arith, long, few)) (some_page scenario.producers is.specs set_up.are_producers is.made)
    (few_pages scenario.producers is.specs set_up.are_producers is.made))

-- ---- one writer

module _ (scenario : Parts) (setup : Setup) (world : World) (closed : Bool) (done : HasDoneAll scenario setup world closed) where
  pub there : (place : ℕ) (spec : WriterSpec) → slice_get scenario.writers place ≡ Some spec → slice_get setup.writers place ≡ Some spec
  there place spec get = ap (λ (specs : List WriterSpec). slice_get specs place) (setup_writers scenario setup done.setup_is) ∙ get

  pub within : (place : ℕ) (spec : WriterSpec) → slice_get scenario.writers place ≡ Some spec → place < length setup.writers
  within place spec get = slice_get_within setup.writers place spec (there place spec get)

  -- its calls are what the lines ask, but for losses and flushes
  pub shape : (place : ℕ) → place < length setup.writers → HasShapeOf (calls_asked (suc place) scenario.lines) (writer world place).calls
  shape place inside = losses_change_no_shape (calls_asked (suc place) scenario.lines) (writer world place).calls (done.writers place inside).lose

  -- one that stalls for ever loses no packet
  pub loses_by : (place : ℕ) → place < length setup.writers → 0 < lost_count (packets_of (writer world place).calls)
      → loses (spec_at setup.writers place).policy ≡ true
  loses_by place inside some = by_policy (spec_at setup.writers place).policy refl
    where
      by_policy : (policy : WriterPolicy) → (spec_at setup.writers place).policy ≡ policy → loses (spec_at setup.writers place).policy ≡ true
      by_policy Drops is = ap loses is
      by_policy (StallsThenDrops tries) is = ap loses is
      by_policy Stalls is = let none = (done.writers place inside).stalls is in absurd (omega (arith, none, some))

  module _ (laid : IsLaid setup) (place : ℕ) (inside : place < length setup.writers) where
    pub wrote : HasWritten setup place (writer world place)
    wrote = has_written setup place (writer world place) laid (done.writers place inside).between

    pub ordered : InOrder (all_images (writer world place) wrote.held) world.service (sequence_of place) 0 false [] world.service.events
    ordered = in_order world done.owned place (all_images (writer world place) wrote.held) wrote.images _ (done.order place inside) refl

    -- its pages come in order in the history
    pub history_in_order : orders.InOrder (sheets_of (newest_goes_on (packets_of (writer world place).calls)) wrote.cut.cut.pages) (place + 2) 0 false [] (history_of world.service)
    history_in_order =
        order_events (payload_at setup place) place (writer world place) wrote.held wrote.cut world.service (learnt world done.owned place) (named world done.owned place)
        (finds world done.owned place) world.service.events 0 false [] ordered

  -- ---- all of them

  abbrev pub is_done : IsLaid setup → IsDone scenario setup world
  is_done laid = record {
    setup_is = done.setup_is;
    many = done.many;
    owned = done.owned;
    shape = shape;
    loses_by = loses_by;
    claims = λ place inside. (done.writers place inside).between.agrees.claims;
    wrote = wrote laid;
    order = λ place inside none. history_in_order laid place inside;
  }
