-- What a clone tells that is made between two lines: behind a front of a scenario's acts each writer's chunks are an account.
use Rattle.std.proofs.Common.{◌≡◌, ◌∙◌, ℕ, suc, ◌+◌, ◌-◌, ◌*◌, ◌<◌, Bool, true, false, cond, List, [], ◌∷◌, Some, refl, sym, ap, subst, arith}
use Rattle.std.specs.Prelude.{slice_get, ◌==◌}
use Rattle.std.proofs.lemmas.Bool.{eq-eqb}
use Rattle.std.proofs.lemmas.Option.{slice_get_within}
use Rattle.byte_io.specs.Bytes.{Intake}
use Rattle.trace_base.specs.declared.policy.WriterSpec.{WriterSpec}
use Rattle.page_geometry.specs.Sizes.{record_size}
use Rattle.trace_model.specs.Buffers.{Buffer, empty_buffer}
use Rattle.trace_model.specs.Delivery.{records_of}
use Rattle.trace_model.specs.History.{Event, state_after}
use Rattle.trace_model.specs.Packets.{emissions_of}
use Rattle.trace_model.specs.Sequences.{Sequence, fresh, is_known}
use Rattle.trace_model.specs.Tells.{Tells}
use Rattle.chunk_plain.specs.Histories.{history_of}
use Rattle.chunk_plain.specs.Plain.{first_world}
use Rattle.chunk_plain.specs.Setup.{Setup, size_of}
use Rattle.chunk_plain.specs.World.{World, writer}
use Rattle.chunk_plain.proofs.MadeLemmas.{first_owned}
use Rattle.scenario_text.specs.declared.scenario.BufferLine.{BufferLine}
use Rattle.scenario_text.specs.declared.scenario.NumberedLine.{NumberedLine}
use Rattle.scenario_text.specs.Limits.{IsWriter}
use Rattle.scenario_text.specs.Scenario.{Parts}
use Rattle.scenario_text.specs.Raws.{HasNoRaw}
use Rattle.trace_buffer.specs.BufferFields.{NumbersOnce}
use Rattle.trace_buffer.specs.Clones.{cloned}
use Rattle.buffer_clone.specs.Clones.{clone_records}
use Rattle.buffer_clone.proofs.CloneLemmas.{every_clone_is_told}
use Rattle.world_model.specs.FirstBuffers.{BufferSpec, payload_at, sequences_from}
use Rattle.world_model.proofs.MakingLemmas.{first_long, known_range, set_at}
use Rattle.service_core.specs.Routing.{buffer_at}
use Rattle.replay_model.specs.Clones.{EveryCloneTells, MakeClones, ReplaysCloning}
use Rattle.replay_model.specs.Enough.{IsPlayable}
use Rattle.replay_model.specs.ActNotes.{ActNote}
use Rattle.replay_model.specs.Played.{IsSetupOf, Replays, buffer_specs, buffers_of, buffers_in}
use Rattle.replay_model.specs.Plays.{Plays}
use Rattle.replay_model.specs.Schedule.{acts_from, last_acts}
use Rattle.replay_model.proofs.AccountLemmas.{account_in}
use Rattle.replay_model.proofs.BalanceLemmas.{after_at, each_is, first_at, get_map}
use Rattle.replay_model.proofs.CloneLemmas.{clones_change_no_replay}
use Rattle.replay_model.proofs.FirstLemmas.{small_payload, first_stands}
use Rattle.replay_model.proofs.PlayedLemmas.{plays_stand, setup_writers}
use Rattle.replay_model.proofs.RawLemmas.{lines_committed_none}

-- a sequence of an earlier writer isn't there
not_there : (setup : Setup) (n place : ℕ) (specs : List WriterSpec) (q : ℕ) → q < place + 2 → is_known (sequences_from setup n place specs) q ≡ false
not_there setup n place specs q low = step (is_known (sequences_from setup n place specs) q) refl
  where
    step : (x : Bool) → is_known (sequences_from setup n place specs) q ≡ x → x ≡ false
    step true e = let range = known_range setup n place specs q e in let least = range.0 in absurd (omega (arith, low, least))
    step false e = refl

-- no two sequences of a buffer have one number
numbers_once : (setup : Setup) (n place : ℕ) (specs : List WriterSpec) → NumbersOnce (sequences_from setup n place specs)
numbers_once setup n place [] = tt
numbers_once setup n place (spec ∷ specs) = step (spec.buffer == n) (numbers_once setup n (suc place) specs)
  where
    step : (named : Bool) → NumbersOnce (sequences_from setup n (suc place) specs)
        → NumbersOnce (cond named (fresh (place + 2) (record_size (size_of setup spec.producer)) spec.from ∷ sequences_from setup n (suc place) specs) (sequences_from setup n (suc place) specs))
    step true rest = (not_there setup n (suc place) specs (place + 2) (omega arith), rest)
    step false rest = rest

module _ (scenario : Parts) (setup : Setup) (before : List NumberedLine) (world : World) (notes : List ActNote) (setup_is : IsSetupOf scenario setup)
    (playable : IsPlayable scenario)
    (plays : Plays setup (buffers_of scenario setup) (acts_from scenario [] before) (first_world setup) world notes)
    (place : ℕ) (spec : WriterSpec) (get : slice_get scenario.writers place ≡ Some spec) (none : HasNoRaw before place) where
  is_writer : IsWriter scenario.buffers scenario.producers spec
  is_writer = each_is (IsWriter scenario.buffers scenario.producers) scenario.writers place spec playable.set_up.are_writers get

  abbrev made : BufferSpec
  made = record { size = is_writer.into_buffer.kb * 1024; policy = is_writer.into_buffer.policy }

  made_there : slice_get (buffer_specs scenario) (spec.buffer - 1) ≡ Some made
  made_there = get_map (λ (one : BufferLine). record { size = one.kb * 1024; policy = one.policy }) scenario.buffers (spec.buffer - 1)
      is_writer.into_buffer is_writer.buffer_is

  abbrev sequences : List Sequence
  sequences = sequences_from setup spec.buffer 0 setup.writers

  abbrev history : List Event
  history = history_of world.service

  -- what the buffer has come to
  becomes : buffer_at (buffers_in scenario setup world) (spec.buffer - 1) ≡ state_after (empty_buffer made.size made.policy sequences) history
  becomes =
      let least = is_writer.counts_buffer in
      let number : 1 + (spec.buffer - 1) ≡ spec.buffer = omega (arith, least) in
      let low = slice_get_within (buffer_specs scenario) (spec.buffer - 1) made made_there in
      let long = first_long setup 1 (buffer_specs scenario) in
      after_at (buffers_of scenario setup) history (spec.buffer - 1) (omega (arith, low, long))
      ∙ ap (λ (b : Buffer). state_after b history)
      (first_at setup 1 (buffer_specs scenario) (spec.buffer - 1) made made_there
      ∙ ap (λ (m : ℕ). empty_buffer made.size made.policy (sequences_from setup m 0 setup.writers)) number)

  there : slice_get setup.writers place ≡ Some spec
  there = ap (λ (specs : List WriterSpec). slice_get specs place) (setup_writers scenario setup setup_is) ∙ get

  clone_told : Tells (emissions_of (writer world place).calls) (place + 2)
      (records_of (place + 2) (clone_records (cloned (buffer_at (buffers_in scenario setup world) (spec.buffer - 1)))))
  clone_told =
      let stand = plays_stand setup (buffers_of scenario setup) (acts_from scenario [] before) (first_world setup) world notes plays
      (first_stands setup (small_payload scenario setup setup_is)) ∣ first_owned setup ∣₁ in
      let inside = slice_get_within setup.writers place spec there in
      let is = set_at setup place spec there spec.buffer in
      let named = eq-eqb spec.buffer spec.buffer refl in
      let size : ℕ = record_size (size_of setup spec.producer) in
      subst (λ (b : Buffer). Tells (emissions_of (writer world place).calls) (place + 2) (records_of (place + 2) (clone_records (cloned b)))) (sym becomes)
      (every_clone_is_told (payload_at setup place) (writer world place).calls _ made.size made.policy sequences (place + 2) size history
      (numbers_once setup spec.buffer 0 setup.writers)
      (account_in setup world stand.1 place (stand.0.wrote place inside) stand.0.sorted inside
      (lines_committed_none scenario setup (buffers_of scenario setup) before world notes place plays none) sequences size (is.known ∙ named) (is.start named)))

pub every_clone_tells : EveryCloneTells
every_clone_tells scenario setup before lines world notes number setup_is playable is plays place spec get named none =
    subst (λ (n : ℕ). Tells (emissions_of (writer world place).calls) (place + 2)
    (records_of (place + 2) (clone_records (cloned (buffer_at (buffers_in scenario setup world) (n - 1)))))) named
    (clone_told scenario setup before world notes setup_is playable plays place spec get none)

-- a replay whose lines made these clones on its way
pub replays_cloning : (scenario : Parts) (old new : Intake) (text : List ℕ) (clones : List Buffer) (replays : Replays scenario old new text) (between : World)
    → MakeClones scenario replays.setup [] scenario.lines (first_world replays.setup) between clones
    → (notes : List ActNote) → Plays replays.setup (buffers_of scenario replays.setup) (last_acts scenario) between replays.world notes
    → IsPlayable scenario → ReplaysCloning scenario old new text clones
replays_cloning scenario old new text clones replays between make notes ends playable = record {
  replays = clones_change_no_replay scenario old new text replays;
  between = between;
  make = make;
  notes = notes;
  ends = ends;
  tell = λ before lines world noted number is plays.
      every_clone_tells scenario replays.setup before lines world noted number replays.played.setup_is playable is plays;
}
