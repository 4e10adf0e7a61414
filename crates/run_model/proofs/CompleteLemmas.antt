-- A run ends with all its chunks taken, its sequences closed and each buffer read whole: so where all is enough, each packet is delivered.
use Rattle.std.proofs.Common.{◌≡◌, ◌∙◌, ℕ, ◌+◌, ◌<◌, true, false, List, [], ◌++◌, length, Some, refl, sym, ap, subst}
use Rattle.std.specs.Prelude.{slice_get}
use Rattle.std.specs.List.{flat_map}
use Rattle.trace_base.specs.declared.policy.WriterSpec.{WriterSpec}
use Rattle.trace_model.specs.Buffers.{Buffer}
use Rattle.trace_model.specs.History.{Event}
use Rattle.trace_model.specs.Packets.{begun_count}
use Rattle.delivery_laws.specs.Finishing.{Finishes}
use Rattle.chunk_plain.specs.Setup.{Setup, IsLaid}
use Rattle.chunk_plain.specs.Views.{Noted, ServiceView, taken_of}
use Rattle.chunk_plain.specs.World.{World, writer}
use Rattle.chunk_plain.specs.Histories.{happened, history_of}
use Rattle.world_model.specs.FirstBuffers.{payload_at}
use Rattle.scenario_text.specs.Scenario.{Parts}
use Rattle.service_core.specs.Order.{Stage, LeadTo, beginning}
use Rattle.service_core.specs.Reading.{noted_read}
use Rattle.replay_model.specs.Enough.{HasEnough, IsPlayable}
use Rattle.replay_model.specs.Played.{buffers_of}
use Rattle.replay_model.specs.Written.{HasWritten}
use Rattle.replay_model.proofs.AccountLemmas.{pages_begun}
use Rattle.replay_model.proofs.CompleteLemmas.{IsReadAtEnd, has_read, done_is_complete}
use Rattle.replay_model.proofs.DoneLemmas.{IsDone, within}
use Rattle.replay_model.proofs.FinishLemmas.{lead_finishes}
use Rattle.replay_model.proofs.OwnedLemmas.{named, learnt}
use Rattle.run_model.specs.Laws.{EveryEnoughRunIsComplete}
use Rattle.run_model.specs.Settled.{IsRun}
use Rattle.run_model.proofs.FinishLemmas.{before_reads}
use Rattle.run_model.proofs.ReadLemmas.{IsReadOut, read_out, history_before}
use Rattle.run_model.proofs.RunLemmas.{laid_out, is_done}

module _ (scenario : Parts) (setup : Setup) (world : World) (run : IsRun scenario setup world) (laid : IsLaid setup) (playable : IsPlayable scenario)
    (enough : HasEnough scenario) (place : ℕ) (spec : WriterSpec) (get : slice_get scenario.writers place ≡ Some spec) where
  abbrev done : IsDone scenario setup world
  done = is_done scenario setup world _ run.before.done laid

  low : place < length setup.writers
  low = within scenario setup world done place spec get

  abbrev own : HasWritten setup place (writer world place)
  own = done.wrote place (within scenario setup world done place spec get)

  abbrev buffers : List Buffer
  buffers = buffers_of scenario setup

  abbrev history : List Event
  history = history_of world.service

  out : IsReadOut setup (buffers_of scenario setup) (length scenario.buffers) run.last run.before.closed world.service
  out = read_out setup buffers (length scenario.buffers) run.last run.before.closed world.service run.reads

  read_last : IsReadAtEnd scenario setup world (history_of run.before.closed) run.last
  read_last = record { history = out.history; each = out.each }

  -- all came, the sequence was closed, and then it was read
  finishes : Finishes (place + 2) (length (done.wrote place (within scenario setup world done place spec get)).cut.cut.pages) (begun_count (writer world place).calls) 0 false
      (history_of world.service)
  finishes =
      let events = ap (λ (view : ServiceView). view.events) out.view in
      let stage : Stage = record { come = (taken_of world.service place).count; closed = true; due = [] } in
      let lead : LeadTo world.service (place + 2) beginning (run.before.closed.events ++ flat_map noted_read run.last) stage =
      subst (λ (notes : List Noted). LeadTo world.service (place + 2) beginning notes stage) events (run.before.done.order place low) in
      let come : (taken_of world.service place).count ≡ length own.cut.cut.pages = run.before.done.taken place low ∙ pages_begun setup place (writer world place) own in
      let front = history_before setup buffers (length scenario.buffers) run.last run.before.closed world.service out in
      let all : flat_map (happened world.service) run.before.closed.events ++ run.last ≡ history =
      ap (λ (es : List Event). es ++ run.last) front ∙ sym out.history in
      subst (Finishes (place + 2) (length own.cut.cut.pages) (begun_count (writer world place).calls) 0 false) all
      (lead_finishes (payload_at setup place) place (writer world place) own.held own.cut world.service (learnt world run.before.done.owned place) (named world run.before.done.owned place)
      (begun_count (writer world place).calls) (length own.cut.cut.pages) run.before.closed.events beginning stage
      (before_reads world.service (place + 2) run.last run.before.closed.events beginning stage lead) refl come run.last
      (has_read scenario setup world done playable enough place spec get (history_of run.before.closed) run.last read_last))

pub every_enough_run_is_complete : EveryEnoughRunIsComplete
every_enough_run_is_complete scenario setup world run playable enough =
    let laid = laid_out scenario setup run.before.done.setup_is playable.set_up in
    done_is_complete scenario setup world (is_done scenario setup world _ run.before.done laid) playable enough (finishes scenario setup world run laid playable enough)
