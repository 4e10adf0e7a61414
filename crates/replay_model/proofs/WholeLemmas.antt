-- A replay ends with all its chunks taken, its sequences closed and each buffer read whole: so where all is enough, each packet is delivered.
use Rattle.std.proofs.Common.{◌≡◌, ◌∙◌, ℕ, suc, ◌+◌, ◌-◌, ◌*◌, ◌<◌, ◌≤◌, ◌⊎◌, true, false, List, [], ◌∷◌, ◌++◌, length, map, get_or, Some, refl, sym, ap, subst, arith, inl, inr}
use Rattle.std.specs.Prelude.{slice_get}
use Rattle.std.proofs.Math.Logic.{∥∥₁_elim}
use Rattle.std.specs.Coded.{le_prop}
use Rattle.std.proofs.lemmas.Bool.{cases_lt}
use Rattle.std.proofs.lemmas.Option.{slice_get_within}
use Rattle.trace_base.specs.declared.policy.WriterSpec.{WriterSpec}
use Rattle.trace_model.specs.Buffers.{Buffer}
use Rattle.trace_model.specs.Calls.{Flushed}
use Rattle.trace_model.specs.Counts.{last_count}
use Rattle.trace_model.specs.Enough.{most_chunks}
use Rattle.trace_model.specs.History.{buffers_after}
use Rattle.trace_model.specs.Packets.{emissions_of, begun_count}
use Rattle.delivery_laws.specs.Finishing.{Finishes}
use Rattle.chunk_plain.specs.declared.tokens.TheConstants.{POSITION_LIMIT}
use Rattle.chunk_plain.specs.Setup.{Setup, producer_of, sequence_of}
use Rattle.chunk_plain.specs.Plain.{first_world}
use Rattle.chunk_plain.specs.Views.{BegunChunk, Completed, WriterView, newcomer, taken_of}
use Rattle.chunk_plain.specs.World.{World, writer}
use Rattle.chunk_plain.specs.Histories.{history_of}
use Rattle.chunk_plain.specs.Owned.{IsOwned, held_count}
use Rattle.chunk_plain.proofs.Lists.{at_inside}
use Rattle.chunk_plain.proofs.MadeLemmas.{first_owned}
use Rattle.world_model.specs.Accounts.{NoneCommitted}
use Rattle.world_model.specs.FirstBuffers.{payload_at}
use Rattle.scenario_text.specs.Scenario.{Parts}
use Rattle.scenario_text.specs.Accepted.{calls_asked, is_closed_by}
use Rattle.scenario_text.specs.Limits.{IsBuffer, IsWriter}
use Rattle.service_core.specs.Order.{beginning}
use Rattle.service_core.specs.Reading.{reads_in}
use Rattle.replay_model.specs.Acts.{Act, Ask, Collect, CloseProducer}
use Rattle.replay_model.specs.Does.{Wrote, is_shut}
use Rattle.replay_model.specs.Enough.{HasEnough, IsPlayable}
use Rattle.replay_model.specs.ActNotes.{ActNote}
use Rattle.replay_model.specs.Laws.{EveryEnoughReplayIsComplete}
use Rattle.replay_model.specs.Played.{IsPlayed, buffers_of}
use Rattle.replay_model.specs.Plays.{Plays}
use Rattle.replay_model.specs.Schedule.{acts_from, last_acts, open_places, open_producers, reads_from}
use Rattle.replay_model.specs.Written.{HasWritten}
use Rattle.replay_model.proofs.AccountLemmas.{pages_begun}
use Rattle.replay_model.proofs.BalanceLemmas.{each_is}
use Rattle.replay_model.proofs.BytesLemmas.{bytes_least, chunks_few}
use Rattle.replay_model.proofs.CompleteLemmas.{IsReadAtEnd, all_bytes, begun_most, has_read, done_is_complete}
use Rattle.replay_model.proofs.DoneLemmas.{IsDone, played_done, within, spec_is}
use Rattle.replay_model.proofs.EndLemmas.{IsSplit, plays_split, flushes_done, place_open, producer_open, IsTakenWhole}
use Rattle.replay_model.proofs.FinishLemmas.{lead_finishes}
use Rattle.replay_model.proofs.FirstLemmas.{small_payload, first_stands}
use Rattle.replay_model.proofs.NoneLostLemmas.{is_writer, open_still}
use Rattle.replay_model.proofs.OwnedLemmas.{owned_itself, named, learnt}
use Rattle.replay_model.proofs.PhaseLemmas.{IsReadOut, collect_phase, close_phase, closes_keep, read_phase}
use Rattle.replay_model.proofs.PlayedLemmas.{plays_stand}
use Rattle.replay_model.proofs.PlayedOnLemmas.{plays_grow}
use Rattle.replay_model.proofs.RawLemmas.{none_has_raw, schedule_committed_none}
use Rattle.replay_model.proofs.RoomLemmas.{payload_for}
use Rattle.replay_model.proofs.SortedLemmas.{Among, at_stage}
use Rattle.replay_model.proofs.StandsLemmas.{Stands}

-- ---- what acts of the service leave of writers

collects_leave : (setup : Setup) (buffers : List Buffer) (producers : List ℕ) (old new : World) (notes : List ActNote)
    → Plays setup buffers (map Collect producers) old new notes → new.writers ≡ old.writers
collects_leave setup buffers [] old new notes plays = ap (λ (w : World). w.writers) plays.0
collects_leave setup buffers (producer ∷ producers) old new notes plays = collects_leave setup buffers producers plays.0 new plays.1 plays.5 ∙ plays.2.writers

closes_leave : (setup : Setup) (buffers : List Buffer) (producers : List ℕ) (old new : World) (notes : List ActNote)
    → Plays setup buffers (map CloseProducer producers) old new notes → new.writers ≡ old.writers
closes_leave setup buffers [] old new notes plays = ap (λ (w : World). w.writers) plays.0
closes_leave setup buffers (producer ∷ producers) old new notes plays = closes_leave setup buffers producers plays.0 new plays.1 plays.5 ∙ plays.2.writers

-- ---- one writer

module _ (scenario : Parts) (setup : Setup) (world : World) (notes : List ActNote) (played : IsPlayed scenario setup world notes)
    (playable : IsPlayable scenario) (enough : HasEnough scenario) (place : ℕ) (spec : WriterSpec) (get : slice_get scenario.writers place ≡ Some spec) where
  abbrev buffers : List Buffer
  buffers = buffers_of scenario setup

  abbrev flushes : List Act
  flushes = map (λ p. Ask p Flushed) (open_places scenario.lines 0 scenario.writers)

  abbrev producers : List ℕ
  producers = open_producers scenario.lines 1 scenario.producers

  -- the world behind the lines, the flushes, the collects and the closes
  lines_done : IsSplit setup (buffers_of scenario setup) (acts_from scenario [] scenario.lines) (last_acts scenario) (first_world setup) world
  lines_done = plays_split setup buffers (acts_from scenario [] scenario.lines) (last_acts scenario) (first_world setup) world notes played.plays

  closes_done : IsSplit setup (buffers_of scenario setup) ((flushes ++ map Collect producers) ++ map CloseProducer producers) (reads_from 1 scenario.buffers) lines_done.mid world
  closes_done = plays_split setup buffers ((flushes ++ map Collect producers) ++ map CloseProducer producers) (reads_from 1 scenario.buffers) lines_done.mid world lines_done.more lines_done.second

  collects_done : IsSplit setup (buffers_of scenario setup) (flushes ++ map Collect producers) (map CloseProducer producers) lines_done.mid closes_done.mid
  collects_done = plays_split setup buffers (flushes ++ map Collect producers) (map CloseProducer producers) lines_done.mid closes_done.mid closes_done.notes closes_done.first

  flushes_all : IsSplit setup (buffers_of scenario setup) flushes (map Collect producers) lines_done.mid collects_done.mid
  flushes_all = plays_split setup buffers flushes (map Collect producers) lines_done.mid collects_done.mid collects_done.notes collects_done.first

  behind_lines : Stands setup lines_done.mid × ∥ IsOwned lines_done.mid ∥₁
  behind_lines =
      plays_stand setup buffers (acts_from scenario [] scenario.lines) (first_world setup) lines_done.mid lines_done.notes lines_done.first
      (first_stands setup (small_payload scenario setup played.setup_is)) ∣ first_owned setup ∣₁

  behind_flushes : Stands setup flushes_all.mid × ∥ IsOwned flushes_all.mid ∥₁
  behind_flushes = plays_stand setup buffers flushes lines_done.mid flushes_all.mid flushes_all.notes flushes_all.first behind_lines.0 behind_lines.1

  behind_collects : Stands setup collects_done.mid × ∥ IsOwned collects_done.mid ∥₁
  behind_collects = plays_stand setup buffers (map Collect producers) flushes_all.mid collects_done.mid flushes_all.more flushes_all.second behind_flushes.0 behind_flushes.1

  behind_closes : Stands setup closes_done.mid × ∥ IsOwned closes_done.mid ∥₁
  behind_closes = plays_stand setup buffers (map CloseProducer producers) collects_done.mid closes_done.mid collects_done.more collects_done.second behind_collects.0 behind_collects.1

  read_out : IsReadOut setup (buffers_of scenario setup) 1 scenario.buffers closes_done.mid world
  read_out = read_phase setup buffers 1 scenario.buffers closes_done.mid world closes_done.more closes_done.second behind_closes.0

  abbrev done : IsDone scenario setup world
  done = played_done scenario setup world notes played

  low : place < length setup.writers
  low = within scenario setup world done place spec get

  abbrev is : IsWriter scenario.buffers scenario.producers spec
  is = is_writer scenario setup world done playable enough place spec get

  abbrev own : HasWritten setup place (writer world place)
  own = done.wrote place (within scenario setup world done place spec get)

  -- ---- ids are left

  ids_left : length (writer world place).begun ≤ POSITION_LIMIT
  ids_left =
      let one = bytes_least scenario.lines scenario.producers spec.buffer 1 scenario.writers place spec get refl in
      let payload : ℕ = payload_for scenario.producers spec in
      let bytes = all_bytes scenario setup world done playable enough place spec get in
      let few = chunks_few (most_chunks payload (emissions_of (calls_asked (1 + place) scenario.lines))) payload (is.into_buffer.kb * 1024) (omega (arith, one, bytes)) in
      let most = (each_is IsBuffer scenario.buffers (spec.buffer - 1) is.into_buffer playable.set_up.are_buffers is.buffer_is).most in
      let begun = begun_most scenario setup world done playable enough place spec get place spec get in
      let same : most_chunks payload (emissions_of (calls_asked (1 + place) scenario.lines)) ≡ most_chunks payload (emissions_of (calls_asked (suc place) scenario.lines)) =
      ap (λ (n : ℕ). most_chunks payload (emissions_of (calls_asked n scenario.lines))) (let at : 1 + place ≡ suc place = omega arith in at) in
      omega (arith, few, most, begun, same)

  -- ---- the end

  among_places : Among place (open_places scenario.lines 0 scenario.writers)
  among_places =
      subst (λ (n : ℕ). Among n (open_places scenario.lines 0 scenario.writers)) (let at : 0 + place ≡ place = omega arith in at)
      (place_open scenario.lines 0 scenario.writers place spec get (open_still scenario setup world done playable enough place spec get))

  mine : producer_of setup place ≡ spec.producer
  mine = ap (λ (s : WriterSpec). s.producer) (spec_is scenario setup world done place spec get)

  among_producers : Among (producer_of setup place) producers
  among_producers =
      let least = is.counts_producer in
      let at : 1 + (spec.producer - 1) ≡ spec.producer = omega (arith, least) in
      let inside = slice_get_within scenario.producers (spec.producer - 1) is.of_producer is.producer_is in
      subst (λ (n : ℕ). Among n producers) (at ∙ sym mine)
      (producer_open scenario.lines 1 scenario.producers (spec.producer - 1) inside
      (ap (is_closed_by scenario.lines) at ∙ open_still scenario setup world done playable enough place spec get))

  empty : held_count (writer flushes_all.mid place).begun ≡ 0
  empty = flushes_done setup buffers (open_places scenario.lines 0 scenario.writers) place lines_done.mid flushes_all.mid flushes_all.notes flushes_all.first among_places

  writers_same : closes_done.mid.writers ≡ flushes_all.mid.writers
  writers_same =
      closes_leave setup buffers producers collects_done.mid closes_done.mid collects_done.more collects_done.second
      ∙ collects_leave setup buffers producers flushes_all.mid collects_done.mid flushes_all.more flushes_all.second

  begun_now : (writer world place).begun ≡ (writer closes_done.mid place).begun
  begun_now = ap (λ (ws : List WriterView). (get_or ws place newcomer).begun) read_out.writers

  taken_whole : IsTakenWhole closes_done.mid place
  taken_whole =
      let same : (writer flushes_all.mid place).begun ≡ (writer world place).begun =
      sym (begun_now ∙ ap (λ (ws : List WriterView). (get_or ws place newcomer).begun) writers_same) in
      let long = ap (λ (xs : List BegunChunk). length xs) same in
      let left = ids_left in
      closes_keep setup buffers producers place collects_done.mid closes_done.mid collects_done.more collects_done.second behind_collects.0
      (collect_phase setup buffers producers place flushes_all.mid collects_done.mid flushes_all.more flushes_all.second behind_flushes.0 low among_producers empty
      (omega (arith, long, left)))

  shut : is_shut (sequence_of place) closes_done.mid.service.events ≡ true
  shut = close_phase setup buffers producers place collects_done.mid closes_done.mid collects_done.more collects_done.second behind_collects.0 low among_producers

  -- all chunks have come
  all_come : (taken_of closes_done.mid.service place).count ≡ length own.cut.cut.pages
  all_come =
      let most = taken_whole.most in
      let few : (taken_of closes_done.mid.service place).count ≤ length (writer closes_done.mid place).begun =
      ∥∥₁_elim behind_closes.1 (hlevel le_prop) (λ (owned : IsOwned closes_done.mid). at_most owned (cases_lt (length (writer closes_done.mid place).begun) (taken_of closes_done.mid.service place).count)) in
      let same = ap (λ (xs : List BegunChunk). length xs) begun_now in
      let pages = pages_begun setup place (writer world place) own in
      omega (arith, most, few, same, pages)
    where
      at_most : IsOwned closes_done.mid → (length (writer closes_done.mid place).begun < (taken_of closes_done.mid.service place).count)
          ⊎ ((taken_of closes_done.mid.service place).count ≤ length (writer closes_done.mid place).begun)
          → (taken_of closes_done.mid.service place).count ≤ length (writer closes_done.mid place).begun
      at_most owned (inl below) =
          let done = (owned.counts place).completed (length (writer closes_done.mid place).begun) below in
          let inside = at_inside (writer closes_done.mid place).begun (Completed done.0 done.1) (length (writer closes_done.mid place).begun) done.2 in
          absurd (omega (arith, inside))
      at_most owned (inr few) = few

  -- ---- the last reads

  read_last : IsReadAtEnd scenario setup world (history_of closes_done.mid.service) read_out.events
  read_last = record {
    history = read_out.history;
    each = λ i below.
        let part = read_out.each i below in (
          part.0,
          part.1,
          part.2,
          part.3 ∙ ap (λ (n : ℕ). part.0 ++ (reads_in setup (buffers_after (buffers_of scenario setup) (history_of closes_done.mid.service ++ part.0)) n last_count ++ part.1))
              (let at : 1 + i ≡ suc i = omega arith in at),
        );
  }

  -- nothing of the sequence came by a commit
  none_came : NoneCommitted closes_done.mid.service (sequence_of place)
  none_came =
      let grows = plays_grow setup buffers (reads_from 1 scenario.buffers) closes_done.mid world closes_done.more closes_done.second behind_closes.0 in
      let none = schedule_committed_none scenario setup buffers world notes place played.plays (none_has_raw scenario.lines place enough.no_raw) in
      λ k one is. none k one (grows.commits k one is)

  finishes : Finishes (place + 2) (length (done.wrote place (within scenario setup world done place spec get)).cut.cut.pages) (begun_count (writer world place).calls) 0 false
      (history_of world.service)
  finishes =
      let last : Wrote setup place (writer closes_done.mid place) = behind_closes.0.wrote place low in
      subst (Finishes (place + 2) (length own.cut.cut.pages) (begun_count (writer world place).calls) 0 false) (sym read_out.history)
      (lead_finishes (payload_at setup place) place (writer closes_done.mid place) last.held last.cut closes_done.mid.service
      (learnt closes_done.mid (owned_itself closes_done.mid behind_closes.1) place) (named closes_done.mid (owned_itself closes_done.mid behind_closes.1) place)
      (begun_count (writer world place).calls) (length own.cut.cut.pages) closes_done.mid.service.events beginning
      (at_stage (taken_of closes_done.mid.service place).count (is_shut (sequence_of place) closes_done.mid.service.events))
      (behind_closes.0.sorted.lead place low none_came) shut all_come read_out.events
      (has_read scenario setup world done playable enough place spec get (history_of closes_done.mid.service) read_out.events read_last))

pub every_enough_replay_is_complete : EveryEnoughReplayIsComplete
every_enough_replay_is_complete scenario setup world notes played playable enough =
    done_is_complete scenario setup world (played_done scenario setup world notes played) playable enough (finishes scenario setup world notes played playable enough)
